-- The reader stays one of its board.
use Rattle.std.proofs.Common.{◌≡◌}
use Rattle.tw_test_run.proofs.tests.board.watch.Given as goal

abbrev pub invariant-loop : goal.invariant-loop
invariant-loop l = record {
  board : l.reader.board ≡ l.fn.reader.board;
}
