use Rattle.std.proofs.Common.{length}
use Rattle.tw_machine_declaration.proofs.starts.+earliest.Given as goal

abbrev pub decreases-earliest : goal.decreases-earliest
decreases-earliest l = length l.ticks.now
