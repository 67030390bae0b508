use Rattle.std.proofs.Common.{ap, ◌∙◌, length, arith}
use Rattle.tw_pool.specs.Lists.{list_at}
use Rattle.tw_theory.specs.Contents.{Aggressive}
use Rattle.tw_lists.specs.Lists.{cancelled}
use Rattle.tw_lists.specs.Nodes.{contents, spare_of}
use Rattle.tw_lists.proofs.Found.{found_same, fall_at, last_moved_other}
use Rattle.tw_lists.proofs.Sends.{cancelled_kept}
use Rattle.tw_lists.proofs.lists.EventLists.unsend.Goals as goal

pub invariant_of-self : goal.invariant_of-self
invariant_of-self c = (
  (cancelled_kept c.self.inside.pool.lists c.relink_last.new.self.lists c.args.n c.relink_last.new.self.room c.self.inside.pool.top c.relink_last.new.self.top c.self.inside.heap c.self.invariant.0 c.lists_law.ensures.count c.relink_last.ensures.lists c.relink_last.ensures.top).kept,
  found_same c.self.inside.waiting c.self.inside.owed c.self.inside.pool.lists c.relink_last.new.self.lists
      (record {
        waiting = last_moved_other c.self.inside.pool.lists c.relink_last.new.self.lists 2 c.args.n 3 4 (λ e. omega (arith, e)) (λ e. omega (arith, e)) c.relink_last.ensures.lists;
        owed = last_moved_other c.self.inside.pool.lists c.relink_last.new.self.lists 2 c.args.n 3 5 (λ e. omega (arith, e)) (λ e. omega (arith, e)) c.relink_last.ensures.lists;
      })
      c.self.invariant.1,
  fall_at c.self.inside.falling (list_at c.self.inside.pool.lists 5) (list_at c.relink_last.new.self.lists 5)
      (last_moved_other c.self.inside.pool.lists c.relink_last.new.self.lists 2 c.args.n 3 5 (λ e. omega (arith, e)) (λ e. omega (arith, e)) c.relink_last.ensures.lists)
      c.self.invariant.2,
)

pub returns : goal.returns
returns c =
    (cancelled_kept c.self.inside.pool.lists c.relink_last.new.self.lists c.args.n c.relink_last.new.self.room c.self.inside.pool.top c.relink_last.new.self.top c.self.inside.heap c.self.invariant.0 c.lists_law.ensures.count c.relink_last.ensures.lists c.relink_last.ensures.top).contents_is
    ∙ ap (λ r. cancelled Aggressive c.args.n (contents c.self.inside.pool.lists r (spare_of c.self.inside.pool.top c.self.inside.heap (length (list_at c.self.inside.pool.lists 1))) c.self.inside.heap.entries)) c.relink_last.ensures.room
    ∙ ap (cancelled Aggressive c.args.n) c.self.view_is
