-- Nothing was committed.
use Rattle.std.proofs.Common.{◌≡◌}
use Rattle.tw_test_core_refusals.proofs.processes.follow.Given as goal

abbrev pub invariant-loop-times : goal.invariant-loop-times
invariant-loop-times l = l.process.floor ≡ 0
