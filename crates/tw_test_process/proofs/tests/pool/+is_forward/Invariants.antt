use Rattle.std.proofs.Common.{length}
use Rattle.tw_test_process.proofs.tests.pool.+is_forward.Given as goal

abbrev pub decreases-is_forward : goal.decreases-is_forward
decreases-is_forward l = length l.items.now
