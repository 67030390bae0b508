use Rattle.std.proofs.Common.{◌≤◌, ◌++◌, ap, sym, subst, ◌∙◌, arith, length}
use Rattle.std.proofs.lemmas.List.{length-map}
use Rattle.tw_pool.specs.Lists.{list_at}
use Rattle.tw_theory.specs.Contents.{Lazy}
use Rattle.tw_lists.specs.Falling.{IsFalling}
use Rattle.tw_lists.specs.Lists.{cancelled, message_at}
use Rattle.tw_lists.specs.Nodes.{contents, spare_of}
use Rattle.tw_lists.proofs.Found.{Owing, owing, within_limit, late_within, finds_at, finds_more}
use Rattle.tw_lists.proofs.Sends.{owed_kept}
use Rattle.tw_lists.proofs.lists.EventLists.owe.Goals.{After-relink_last, then-self, else-self}
use Rattle.tw_lists.proofs.lists.EventLists.owe.Goals as goal

within : (c : After-relink_last) → c.args.n ≤ length (list_at c.self.inside.pool.lists 2)
within c = omega (arith, c.requires, ap (λ v. length v.sent) c.self.view_is, length-map (list_at c.self.inside.pool.lists 2) message_at)

now : (c : After-relink_last) → Owing c.self.inside.pool.lists c.relink_last.new.self.lists c.args.n
now c = owing c.self.inside.pool.lists c.relink_last.new.self.lists c.args.n c.lists_law.ensures.count (within c) c.relink_last.ensures.lists

pub grow-requires : goal.grow-requires
grow-requires c =
    let limit = within_limit c.self.inside.pool.lists c.self.inside.pool.room 1048576 c.lists_law.ensures.count c.lists_law.ensures.limited in
    let late = late_within c.self.inside.owed.known c.self.inside.owed.late (list_at c.self.inside.pool.lists 5) c.self.invariant.1.1 in
    omega (arith, limit.sent_and_owed, late, within (goal.at.grow-requires c).After-relink_last)

pub invariant_of-self : goal.invariant_of-self
invariant_of-self c =
    let more = now (goal.at.invariant_of-self c).After-relink_last in (
      (owed_kept c.self.inside.pool.lists c.relink_last.new.self.lists c.args.n c.relink_last.new.self.room c.self.inside.pool.top c.relink_last.new.self.top c.self.inside.heap c.self.invariant.0 c.lists_law.ensures.count c.relink_last.ensures.lists c.relink_last.ensures.top).kept,
      (
        finds_at c.self.inside.waiting.known c.self.inside.waiting.late (list_at c.self.inside.pool.lists 4) (list_at c.relink_last.new.self.lists 4) more.waiting c.self.invariant.1.0,
        finds_more c.self.inside.owed.known c.grow.new.self.known c.self.inside.owed.late c.grow.new.self.late (list_at c.self.inside.pool.lists 5) more.more (list_at c.relink_last.new.self.lists 5)
            c.grow.ensures.known (omega (arith, c.grow.ensures.late, more.count)) more.owed c.self.invariant.1.1,
      ),
      λ falling. subst IsFalling (sym (more.owed ∙ ap (λ l. list_at c.self.inside.pool.lists 5 ++ l) more.more_is)) (
          elim c.if-self.branch [
            | then-self w ↦ c.falls_behind-falls.ensures (sym w.self-is ∙ falling) (c.self.invariant.2 w.if-self.true)
            | else-self w ↦ absurd (let no = sym w.self-is ∙ falling in cc no)
          ]
          ),
    )

pub returns : goal.returns
returns c =
    (owed_kept c.self.inside.pool.lists c.relink_last.new.self.lists c.args.n c.relink_last.new.self.room c.self.inside.pool.top c.relink_last.new.self.top c.self.inside.heap c.self.invariant.0 c.lists_law.ensures.count c.relink_last.ensures.lists c.relink_last.ensures.top).contents_is
    ∙ ap (λ r. cancelled Lazy c.args.n (contents c.self.inside.pool.lists r (spare_of c.self.inside.pool.top c.self.inside.heap (length (list_at c.self.inside.pool.lists 1))) c.self.inside.heap.entries)) c.relink_last.ensures.room
    ∙ ap (cancelled Lazy c.args.n) c.self.view_is
