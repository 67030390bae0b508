-- The columns so far, and there are places for the others.
use Rattle.std.proofs.Common.{◌≡◌, ◌≤◌, length, map, take, vec_len, vec_capacity}
use Rattle.tw_fossils.proofs.merging.as_slices.Given as goal

abbrev pub invariant-loop-column : goal.invariant-loop-column
invariant-loop-column l = record {
  all : map (λ rs. rs.now) l.slices.items ≡ take l.column-index l.columns;
  len : vec_len l.slices ≡ l.column-index;
  places : length l.columns ≤ vec_capacity l.slices;
}
