-- The columns so far are queues, and there are places for the others.
use Rattle.std.proofs.Common.{◌≡◌, ◌++◌, ◌≤◌, length, map, vec_len, vec_capacity}
use Rattle.std.specs.Vec.Iter.{into_iter_items}
use Rattle.tw_fossils.proofs.merging.as_queues.Given as goal

abbrev pub invariant-loop-column : goal.invariant-loop-column
invariant-loop-column l = record {
  all : l.fn.columns.items ≡ l.yielded ++ into_iter_items l.column-iterator;
  made : map (λ rs. rs.items) l.queues.items ≡ l.yielded;
  len : vec_len l.queues ≡ length l.yielded;
  places : length l.fn.columns.items ≤ vec_capacity l.queues;
}
