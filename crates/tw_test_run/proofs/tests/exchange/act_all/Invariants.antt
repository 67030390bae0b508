-- The network and the end of the run stay.
use Rattle.std.proofs.Common.{◌≡◌}
use Rattle.tw_test_run.proofs.tests.exchange.act_all.Given as goal

abbrev pub invariant-loop-action : goal.invariant-loop-action
invariant-loop-action g l = record {
  network : l.exchange.executive.network ≡ l.fn.exchange.executive.network;
  until : l.exchange.executive.until ≡ l.fn.exchange.executive.until;
}
