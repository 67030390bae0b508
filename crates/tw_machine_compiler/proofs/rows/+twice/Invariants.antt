use Rattle.std.proofs.Common.{length}
use Rattle.tw_machine_compiler.proofs.rows.+twice.Given as goal

abbrev pub decreases-twice : goal.decreases-twice
decreases-twice l = length l.words.now
