use Rattle.std.proofs.Common.{length}
use Rattle.tw_test_process.proofs.tests.pool.+is_backward.Given as goal

abbrev pub decreases-is_backward : goal.decreases-is_backward
decreases-is_backward l = length l.items.now
