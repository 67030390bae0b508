use Rattle.std.proofs.Common.{length}
use Rattle.tw_test_core_refusals.proofs.columns.+is_column.Given as goal

abbrev pub decreases-is_column : goal.decreases-is_column
decreases-is_column l = length l.records.now
