use Rattle.std.specs.Arc.{arc_value}
use Rattle.tw_theory.specs.Transitions.{Moment}
use Rattle.tw_lists.specs.Lists.{with_room, without_pending}
use Rattle.tw_process.proofs.Receipts.{kept_with, withdrawn_kept}
use Rattle.tw_process.proofs.process.Process.withdraw.Goals as goal

pub invariant_of-self : goal.invariant_of-self
invariant_of-self g c =
    let inside = c.self.inside in
    let now : Moment g.row.M-State.Denot = inside.moment in
    kept_with g.M.Atomic.valid g.M.Atomic.meaning g.M.Atomic.undone (arc_value inside.network) inside.component now inside.floor inside.history.items inside.lists c.withdraw.new.self (with_room c.withdraw.new.self.room c.withdraw.new.self.spare (without_pending c.args.message.now inside.lists)) c.self.invariant c.withdraw.ensures.contents
    (λ x kept. withdrawn_kept (g.M.Atomic.valid x) (g.M.Atomic.meaning x) (g.M.Atomic.undone x) inside.component now inside.floor inside.history.items inside.lists kept c.args.message.now c.withdraw.new.self.room c.withdraw.new.self.spare)
