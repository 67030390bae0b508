use Rattle.std.proofs.Common.{length}
use Rattle.tw_machine_declaration.proofs.timed.+told_apart.Given as goal

-- the programs that are left
abbrev pub decreases-told_apart : goal.decreases-told_apart
decreases-told_apart l = length l.rest.items
