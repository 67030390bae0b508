use Rattle.std.proofs.Common.{vec_len}
use Rattle.tw_test_schedules.proofs.sharing.give_back_all.Given as goal

abbrev pub decreases-loop-order : goal.decreases-loop-order
decreases-loop-order g l = vec_len l.held
