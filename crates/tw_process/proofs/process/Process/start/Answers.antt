use Rattle.std.proofs.Common.{ap, length, sym, subst, ◌∙◌, ◌<◌, ◌≤◌}
use Rattle.std.specs.Arc.{arc_value}
use Rattle.std.specs.Prelude.{slice_get}
use Rattle.std.proofs.lemmas.Option.{slice_get_within}
use Rattle.tw_theory.specs.Chains.{Start}
use Rattle.tw_theory.specs.Standing.{IsReady}
use Rattle.tw_theory.specs.Transitions.{Moment}
use Rattle.tw_vtime.specs.Stamps.{max_microstep}
use Rattle.tw_process.specs.History.{seen}
use Rattle.tw_process.specs.Process.{start_of}
use Rattle.tw_process.proofs.Copies.{ready_start}
use Rattle.tw_process.proofs.Histories.{kept_at}
use Rattle.tw_process.proofs.process.Process.start.Goals as goal

pub model-model-requires : goal.model-model-requires
model-model-requires g c = subst (λ n. c.self.inside.component < length n.models) (sym c.deref-network.ensures) (slice_get_within (arc_value c.self.inside.network).models c.self.inside.component c.self.invariant.model c.self.invariant.there)

pub returns-clause-ready : goal.returns-clause-ready
returns-clause-ready g c = λ m there.
    let inside = c.self.inside in
    let S = g.row.M-State.Denot in
    let now : Moment S = inside.moment in
    let here = (λ i. let x = c.self.view_is i in slice_get x.network.models x.component) ∙ there in
    let kept = kept_at g.M.Atomic.valid g.M.Atomic.meaning g.M.Atomic.undone (arc_value inside.network) inside.component now inside.floor inside.history.items inside.lists c.self.invariant m here in
    let ready = ready_start (g.M.Atomic.valid m) (g.M.Atomic.meaning m) (g.M.Atomic.undone m) inside.component now inside.floor inside.history.items inside.lists c.args.before kept in
    subst (λ (s : Start S). IsReady (g.M.Atomic.valid m) (g.M.Atomic.meaning m) s.component s.now s.messages) (sym c.new.ensures)
    (subst (λ (x : Type 0). x) (λ i. IsReady (g.M.Atomic.valid m) (g.M.Atomic.meaning m) inside.component (sym (c.state.view_is ∙ c.in_ok-state.ensures) i) (sym c.in_ok-messages.ensures i)) ready)

pub returns-clause-start : goal.returns-clause-start
returns-clause-start g c =
    let inside = c.self.inside in
    let here = start_of c.args.before c.args.burst (seen (arc_value inside.network) inside.component inside.moment inside.line inside.cancel inside.floor inside.history.items inside.lists) in
    let limit = c.micro_limit-limit.ensures ∙ ap (λ n. n.micro_limit) c.deref-network.ensures in
    c.new.ensures
    ∙ (λ i. record here { now = (c.state.view_is ∙ c.in_ok-state.ensures) i; micro_limit = limit i; messages = c.in_ok-messages.ensures i })
    ∙ ap (start_of c.args.before c.args.burst) c.self.view_is

pub returns-clause-limit : goal.returns-clause-limit
returns-clause-limit g c =
    let limit = c.micro_limit-limit.ensures in
    subst (λ (s : Start g.row.M-State.Denot). s.micro_limit ≤ max_microstep) (sym c.new.ensures) (subst (λ n. n ≤ max_microstep) (sym limit) c.facts.ensures.microsteps)
