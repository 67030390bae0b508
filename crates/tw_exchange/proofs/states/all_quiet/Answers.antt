use Rattle.std.proofs.Common.{ap, sym, ◌∙◌, arith, length}
use Rattle.std.proofs.lemmas.Option.{slice_get_within}
use Rattle.tw_laws.proofs.Changing.{process_from_least}
use Rattle.tw_exchange.proofs.PassByPass.{process_count}
use Rattle.tw_exchange.proofs.Standing.{quiet_all, quiet_not}
use Rattle.tw_exchange.specs.States.{is_quiet}
use Rattle.tw_exchange.proofs.states.all_quiet.Goals as goal

pub is_quiet-requires-clause-from : goal.is_quiet-requires-clause-from
is_quiet-requires-clause-from g c =
    let w = c.args.executive.now.world in
    let least = process_from_least w.gvt w.processes c.loop-component.component c.contents.result.now.process (omega (arith, c.facts.ensures.sound.gvt_le)) c.contents.ensures.process in
    omega (arith, c.gvt-gvt.ensures, least.2)

pub returns-then-not-is_quiet : goal.returns-then-not-is_quiet
returns-then-not-is_quiet g c =
    let w = c.args.executive.now.world in
    let p = c.contents.result.now.process in
    sym (quiet_not w.gvt w.processes c.loop-component.component p c.contents.ensures.process (ap (λ s. is_quiet s p) (sym c.gvt-gvt.ensures) ∙ sym c.is_quiet.ensures ∙ c.if-not-is_quiet.true))

pub returns : goal.returns
returns g c = sym (quiet_all c.args.executive.now.world.gvt c.args.executive.now.world.processes (λ d p at. ap (λ s. is_quiet s p) (sym c.gvt-gvt.ensures) ∙ c.loop-component.invariant d p (omega (arith, slice_get_within c.args.executive.now.world.processes d p at, c.loop-component-test.false, c.len-component-end.ensures, ap (λ x. length x.models) (c.deref.ensures ∙ c.network.ensures), process_count g.M.Atomic.meaning c.args.executive.now c.facts.ensures)) at))
