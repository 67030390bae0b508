use Rattle.std.proofs.Common.{◌≤◌, ap, sym, subst}
use Rattle.std.specs.Arc.{arc_value}
use Rattle.tw_theory.specs.Transitions.{Moment}
use Rattle.tw_theory.specs.Standing.{floor_after, CanTake}
use Rattle.tw_lists.specs.Lists.{with_room, with_pending}
use Rattle.tw_process.proofs.Receipts.{kept_with, put_kept}
use Rattle.tw_process.proofs.Room.{room_parts}
use Rattle.tw_process.proofs.process.Process.put_reserved.Goals as goal

pub invariant_of-self : goal.invariant_of-self
invariant_of-self g c =
    let inside = c.self.inside in
    let now : Moment g.row.M-State.Denot = inside.moment in
    kept_with g.M.Atomic.valid g.M.Atomic.meaning g.M.Atomic.undone (arc_value inside.network) inside.component now inside.floor inside.history.items inside.lists c.put_reserved.new.self (with_room c.put_reserved.new.self.room c.put_reserved.new.self.spare (with_pending c.args.message.now inside.lists)) c.self.invariant c.put_reserved.ensures
    (λ x kept. put_kept (g.M.Atomic.valid x) (g.M.Atomic.meaning x) (g.M.Atomic.undone x) inside.component now inside.floor inside.history.items inside.lists kept c.args.message.now c.put_reserved.new.self.room c.put_reserved.new.self.spare (subst (λ p. CanTake p.component c.args.message.now) (sym c.self.view_is) c.requires.come.fits) (subst (λ p. floor_after p.floor p.process.history ≤ c.args.message.now.stamp) (sym c.self.view_is) c.requires.come.after))

pub put_reserved-requires-clause-room : goal.put_reserved-requires-clause-room
put_reserved-requires-clause-room g c = (room_parts c.self.inside.lists.room c.self.inside.lists.spare c.args.self.now.spare (ap (λ p. p.spare) c.self.view_is) c.requires.room).0

pub put_reserved-requires-clause-spare : goal.put_reserved-requires-clause-spare
put_reserved-requires-clause-spare g c = (room_parts c.self.inside.lists.room c.self.inside.lists.spare c.args.self.now.spare (ap (λ p. p.spare) c.self.view_is) c.requires.room).1
