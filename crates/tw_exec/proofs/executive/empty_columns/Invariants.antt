-- The columns so far.
use Rattle.std.proofs.Common.{◌≡◌, replicate, []}
use Rattle.tw_exec.proofs.executive.empty_columns.Given as goal

abbrev pub invariant-loop : goal.invariant-loop
invariant-loop l = record {
  empty : l.columns.items ≡ replicate l.counter [];
}
