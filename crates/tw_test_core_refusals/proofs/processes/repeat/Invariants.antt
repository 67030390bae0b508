-- Nothing was committed.
use Rattle.std.proofs.Common.{◌≡◌}
use Rattle.tw_test_core_refusals.proofs.processes.repeat.Given as goal

abbrev pub invariant-loop-later : goal.invariant-loop-later
invariant-loop-later l = l.process.floor ≡ 0
