use Rattle.std.proofs.Common.{◌≡◌, ◌≤◌, ◌+◌, drop}
use Rattle.tw_machine_text.proofs.Columns.{column_along}
use Rattle.tw_machine_text.proofs.place.column_behind.Given as goal

abbrev pub invariant-loop-c : goal.invariant-loop-c
invariant-loop-c l = record {
  rest : column_along l.column (drop l.c-index l.before) ≡ column_along 1 l.before;
  small : l.column ≤ l.c-index + 1;
}
