use Rattle.std.proofs.Common.{length}
use Rattle.tw_test_core_refusals.proofs.columns.+are_after.Given as goal

abbrev pub decreases-are_after : goal.decreases-are_after
decreases-are_after l = length l.records.now
