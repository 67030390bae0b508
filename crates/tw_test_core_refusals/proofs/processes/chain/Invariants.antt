-- Nothing was committed.
use Rattle.std.proofs.Common.{◌≡◌}
use Rattle.tw_test_core_refusals.proofs.processes.chain.Given as goal

abbrev pub invariant-loop : goal.invariant-loop
invariant-loop l = l.process.floor ≡ 0
