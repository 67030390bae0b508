use Rattle.std.proofs.Common.{◌≡◌, subst}
use Rattle.tw_exchange.proofs.Due.{drawn_due}
use Rattle.tw_workers.proofs.desk.Desk.give_out.Goals as goal
use Rattle.std.specs.Prelude.{IfSome, slice_get, length, Some, ◌<◌, ◌≤◌}
use Rattle.tw_theory.specs.Standing.{IsReady}
use Rattle.tw_vtime.specs.Stamps.{max_microstep}
use Rattle.tw_exchange.specs.Ends.{IsDue}
use Rattle.tw_exchange.specs.Exchanged.{IsNearOrder}

pub returns-in-Ok-Some-clause-due : goal.returns-in-Ok-Some-clause-due
returns-in-Ok-Some-clause-due g c =
    let x = c.self.inside.exchange in
    let drawn = c.in-Ok-Some in
    subst (λ y. IsDue g.M.Atomic.valid g.M.Atomic.meaning y.executive.network y.executive.until drawn.order) c.self.view_is
    (drawn_due g.M.Atomic.valid g.M.Atomic.meaning c.ticks-window.result c.self.inside.setting.burst c.args.reach x drawn.order
    (subst (λ o. IfSome o (IsNearOrder c.ticks-window.result c.self.inside.setting.burst c.args.reach x)) drawn.field-0-is drawn.ensures.drawn)
    (subst (λ o. IfSome o (λ order. order.component < length x.executive.network.models)) drawn.field-0-is drawn.ensures.given.known)
    (subst (λ o. IfSome o (λ order. (m : _) → slice_get x.executive.network.models order.component ≡ Some m → IsReady (g.M.Atomic.valid m) (g.M.Atomic.meaning m) order.component order.now order.messages)) drawn.field-0-is drawn.ensures.given.ready)
    (subst (λ o. IfSome o (λ order. order.micro_limit ≤ max_microstep)) drawn.field-0-is drawn.ensures.given.limit))
