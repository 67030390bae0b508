use Rattle.std.proofs.Common.{vec_len}
use Rattle.tw_test_schedules.proofs.sharing.hand_in_all.Given as goal

abbrev pub decreases-loop-chain : goal.decreases-loop-chain
decreases-loop-chain g l = vec_len l.kept
