-- The columns become queues; then what was moved and what is left of the columns make them up.
use Rattle.std.proofs.Common.{map, vec_len, vec_capacity}
use Rattle.tw_fossils.specs.Merging.{IsMerging, IsReady, to_take}
use Rattle.tw_fossils.proofs.merging.move_all.Given as goal

abbrev pub invariant-loop-next : goal.invariant-loop-next
invariant-loop-next l = record {
  ready : IsReady l.line (map (λ rs. rs.items) l.left.items) l.heads.times (vec_len l.trace) (vec_capacity l.trace);
  merging : IsMerging l.line l.fn.columns.items (map (λ rs. rs.items) l.left.items) l.trace.items;
}

abbrev pub decreases-loop-next : goal.decreases-loop-next
decreases-loop-next l = to_take l.line (map (λ rs. rs.items) l.left.items)
