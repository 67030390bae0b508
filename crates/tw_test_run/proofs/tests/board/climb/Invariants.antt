-- The publisher stays the one of its board.
use Rattle.std.proofs.Common.{◌≡◌}
use Rattle.tw_test_run.proofs.tests.board.climb.Given as goal

abbrev pub invariant-loop-tick : goal.invariant-loop-tick
invariant-loop-tick g l = record {
  board : l.publisher.board ≡ l.fn.publisher.board;
}
