use Rattle.std.proofs.Common.{◌≡◌, ap, sym, ◌∙◌}
use Rattle.std.specs.Arc.{arc_value}
use Rattle.tw_theory.specs.Transitions.{Moment}
use Rattle.tw_lists.specs.Lists.{with_room}
use Rattle.tw_process.proofs.Receipts.{kept_with, others_kept}
use Rattle.tw_process.proofs.Room.{room_made, room_parts}
use Rattle.tw_lists.specs.Lists.{node_count as lists_count}
use Rattle.tw_theory.specs.Memory.{live}
use Rattle.tw_process.proofs.Histories.{live_shown}
use Rattle.tw_process.proofs.process.Process.reserve.Given.{Over}
use Rattle.tw_process.proofs.process.Process.reserve.Goals.{After-reserve_pending}
use Rattle.tw_process.proofs.process.Process.reserve.Goals as goal

pub invariant_of-self : goal.invariant_of-self
invariant_of-self g c =
    let inside = c.self.inside in
    let now : Moment g.row.M-State.Denot = inside.moment in
    kept_with g.M.Atomic.valid g.M.Atomic.meaning g.M.Atomic.undone (arc_value inside.network) inside.component now inside.floor inside.history.items inside.lists c.reserve_pending.new.self (with_room c.reserve_pending.new.self.room c.reserve_pending.new.self.spare inside.lists) c.self.invariant c.reserve_pending.ensures.contents
    (λ x kept. others_kept (g.M.Atomic.valid x) (g.M.Atomic.meaning x) (g.M.Atomic.undone x) inside.component now inside.floor inside.history.items inside.lists kept inside.lists.waiting inside.lists.outgoing inside.lists.owed c.reserve_pending.new.self.room c.reserve_pending.new.self.spare)

count : (g : Over) (c : After-reserve_pending g) → lists_count c.self.inside.lists ≡ live c.args.self.now.process
count g c =
    let inside = c.self.inside in
    let x = c.self.invariant.model in
    sym (live_shown (g.M.Atomic.valid x) (g.M.Atomic.meaning x) (g.M.Atomic.undone x) (arc_value inside.network) inside.component inside.moment inside.line inside.cancel inside.floor inside.history.items inside.lists c.self.invariant.by)
    ∙ ap (λ p. live p.process) c.self.view_is

pub returns-clause-limit : goal.returns-clause-limit
returns-clause-limit g c = rw (count g (goal.at.returns-clause-limit g c).After-reserve_pending) at c.reserve_pending.ensures.limit

pub returns-clause-succeeds : goal.returns-clause-succeeds
returns-clause-succeeds g c = λ some.
    let had = room_parts c.self.inside.lists.room c.self.inside.lists.spare c.args.self.now.spare (ap (λ p. p.spare) c.self.view_is) some in
    c.reserve_pending.ensures.succeeds had.0 had.1

pub returns-clause-room : goal.returns-clause-room
returns-clause-room g c = room_made c.reserve_pending.new.self.room c.reserve_pending.new.self.spare c.reserve_pending.result c.reserve_pending.ensures.room c.reserve_pending.ensures.spare
