use Rattle.std.proofs.Common.{length}
use Rattle.tw_test_core.proofs.tests.models.+is_bag.Given as goal

abbrev pub decreases-is_bag : goal.decreases-is_bag
decreases-is_bag l = length l.bag.now
