use Rattle.std.proofs.Common.{◌≡◌, ap, sym, subst, ◌∙◌, arith}
use Rattle.std.specs.Arc.{arc_value}
use Rattle.std.specs.Prelude.{IsSomeAnd, slice_get}
use Rattle.std.proofs.lemmas.Option.{slice_get_read}
use Rattle.tw_exec.specs.Chains.{start_at}
use Rattle.tw_exec.proofs.Worlds.{process_at}
use Rattle.tw_exec.proofs.executive.Executive.start.Goals as goal

pub returns-clause-ready : goal.returns-clause-ready
returns-clause-ready g c =
    let ps = c.self.inside.processes in
    let p = c.index.result.now in
    let at = slice_get_read ps.items _ c.args.component p ps.ok.0 (omega (arith, c.if-component-len.false, c.len.ensures, ps.ok.0)) c.index.ensures in
    let o = c.self.invariant.0.own c.args.component p at in
    let network = o.network_is ∙ ap (λ e. e.network) c.self.view_is in
    λ m there. c.in_ok-start.ensures.ready m ((λ i. slice_get (network i).models (o.component_is i)) ∙ there)

pub returns-clause-start : goal.returns-clause-start
returns-clause-start g c =
    let ps = c.self.inside.processes in
    let p = c.index.result.now in
    let at = slice_get_read ps.items _ c.args.component p ps.ok.0 (omega (arith, c.if-component-len.false, c.len.ensures, ps.ok.0)) c.index.ensures in
    let o = c.self.invariant.0.own c.args.component p at in
    let made : c.in_ok-start.field-0 ≡ start_at c.args.before c.args.burst c.args.component (arc_value c.self.inside.network) p.process = c.in_ok-start.ensures.start ∙ (λ i. start_at c.args.before c.args.burst (o.component_is i) (o.network_is i) p.process) in
    subst (λ e. IsSomeAnd (slice_get e.world.processes c.args.component) (λ q. c.in_ok-start.field-0 ≡ start_at c.args.before c.args.burst c.args.component e.network q)) c.self.view_is
    (subst (λ o. IsSomeAnd o (λ q. c.in_ok-start.field-0 ≡ start_at c.args.before c.args.burst c.args.component (arc_value c.self.inside.network) q)) (sym (process_at ps.items c.self.inside.mail.boxes c.self.inside.columns.items c.self.inside.gvt c.args.component p at)) made)
