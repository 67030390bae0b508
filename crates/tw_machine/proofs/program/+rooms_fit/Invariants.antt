use Rattle.std.proofs.Common.{length}
use Rattle.tw_machine.proofs.program.+rooms_fit.Given as goal

abbrev pub decreases-rooms_fit : goal.decreases-rooms_fit
decreases-rooms_fit l = length l.rooms.now
