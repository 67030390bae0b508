use Rattle.std.specs.Arc.{arc_value}
use Rattle.tw_msgs.specs.Messages.{without}
use Rattle.tw_theory.specs.Transitions.{Moment}
use Rattle.tw_lists.specs.Lists.{with_room, without_orphan}
use Rattle.tw_process.proofs.Receipts.{kept_with, others_kept}
use Rattle.tw_process.proofs.process.Process.clear_orphan.Goals as goal

pub invariant_of-self : goal.invariant_of-self
invariant_of-self g c =
    let inside = c.self.inside in
    let now : Moment g.row.M-State.Denot = inside.moment in
    kept_with g.M.Atomic.valid g.M.Atomic.meaning g.M.Atomic.undone (arc_value inside.network) inside.component now inside.floor inside.history.items inside.lists c.clear_orphan.new.self (with_room c.clear_orphan.new.self.room c.clear_orphan.new.self.spare (without_orphan c.args.message.now inside.lists)) c.self.invariant c.clear_orphan.ensures.contents
    (λ x kept. others_kept (g.M.Atomic.valid x) (g.M.Atomic.meaning x) (g.M.Atomic.undone x) inside.component now inside.floor inside.history.items inside.lists kept (without c.args.message.now inside.lists.waiting) inside.lists.outgoing inside.lists.owed c.clear_orphan.new.self.room c.clear_orphan.new.self.spare)
