use Rattle.std.proofs.Common.{◌<◌, ◌≤◌, sym, ap, subst, arith}
use Rattle.tw_exec.proofs.Comparing.{ge, not_ge}
use Rattle.tw_theory.specs.Exchange.{bound_of}
use Rattle.tw_exchange.specs.Exchanged.{IsNext, bound_at}
use Rattle.tw_exchange.proofs.Drawing.{drawn_is, none_early, none_free}
use Rattle.tw_exchange.proofs.exchange.Exchange.next_before.Goals as goal

pub returns-then-ge-clause-none : goal.returns-then-ge-clause-none
returns-then-ge-clause-none g c = λ _ d drawn.
    let e = c.self.inside.executive in
    let late : bound_of e.until e.world.gvt c.args.window ≤ c.in_ok-next.next = omega (arith, ge c.in_ok-next.next c.args.bound c.if-ge.ensures, c.requires, ap (bound_at c.args.window) c.self.view_is) in
    none_early e.until e.world.gvt c.args.window c.facts.ensures.bound c.self.inside.queues.free e.world.processes c.self.invariant.0.free
    c.in_ok-next.next c.in_ok-next.component c.in_ok-next.ensures.least late d (subst (λ x. IsNext c.args.window x d) (sym c.self.view_is) drawn)

pub returns-in_err-next-clause-none : goal.returns-in_err-next-clause-none
returns-in_err-next-clause-none g c = λ _ d drawn.
    let e = c.self.inside.executive in
    none_free e.until e.world.gvt c.args.window c.facts.ensures.bound c.self.inside.queues.free e.world.processes c.self.invariant.0.free
    (c.first.ensures.none c.in_err-next.was) d (subst (λ x. IsNext c.args.window x d) (sym c.self.view_is) drawn)

pub returns-clause-next : goal.returns-clause-next
returns-clause-next g c =
    let e = c.self.inside.executive in
    let early : c.in_ok-next.next < bound_of e.until e.world.gvt c.args.window = omega (arith, not_ge c.in_ok-next.next c.args.bound c.if-ge.ensures, c.requires, ap (bound_at c.args.window) c.self.view_is) in
    subst (λ x. IsNext c.args.window x c.in_ok-next.component) c.self.view_is
    (drawn_is e.until e.world.gvt c.args.window c.facts.ensures.bound c.self.inside.queues.free e.world.processes c.self.invariant.0.free c.in_ok-next.next c.in_ok-next.component c.in_ok-next.ensures.least early)
