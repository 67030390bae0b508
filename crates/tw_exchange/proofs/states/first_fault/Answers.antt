use Rattle.std.proofs.Common.{ℕ, ◌≡◌, ◌+◌, suc, Some, None, ap, sym, ◌∙◌, arith, length}
use Rattle.std.specs.Prelude.{slice_get}
use Rattle.tw_theory.proofs.Elements.{present}
use Rattle.tw_theory.specs.Outcomes.{Fault as InFault}
use Rattle.tw_theory.specs.Simulator.{Fault}
use Rattle.tw_exchange.proofs.Drawing.{if_there}
use Rattle.tw_exchange.proofs.PassByPass.{process_count}
use Rattle.tw_exchange.proofs.Standing.{fault_here}
use Rattle.tw_exchange.specs.States.{fault_from, limit_at}
use Rattle.tw_exchange.proofs.states.first_fault.Goals as goal

pub returns-in-Some-clause-state : goal.returns-in-Some-clause-state
returns-in-Some-clause-state g c =
    let m = g.M.Atomic.meaning in
    let e = c.args.executive.now in
    let now = c.loop-component.executive in
    let k = c.loop-component.component in
    let same = c.loop-component.invariant.same in
    let p = present e.world.processes k (omega (arith, c.loop-component-test.true, c.len-component-end.ensures, ap (λ x. length x.models) (c.deref.ensures ∙ c.network.ensures), process_count m e c.facts.ensures)) in
    let limit : Some c.in-Some.limit ≡ limit_at m e k p.0 =
    sym c.in-Some.is ∙ if_there (λ p. c.in_ok-limit.field-0 ≡ limit_at m now k p) (slice_get now.world.processes k) p.0 (ap (λ x. slice_get x.world.processes k) same ∙ p.1) c.in_ok-limit.ensures.limit ∙ ap (λ x. limit_at m x k p.0) same in
    let met : ℕ → Fault = λ s. record { component = k; stamp = s; limit = c.in-Some.limit } in
    ap (λ s. InFault (met s)) (c.gvt.ensures ∙ ap (λ x. x.world.gvt) (c.in_ok-limit.ensures.stays ∙ same)) ∙ sym (c.loop-component.invariant.none ∙ fault_here m e k p.0 (Some c.in-Some.limit) p.1 limit)

pub loop-component-preserved : goal.loop-component-preserved
loop-component-preserved g c =
    let m = g.M.Atomic.meaning in
    let e = c.args.executive.now in
    let now = c.loop-component.executive in
    let k = c.loop-component.component in
    let same = c.loop-component.invariant.same in
    let p = present e.world.processes k (omega (arith, c.loop-component-test.true, c.len-component-end.ensures, ap (λ x. length x.models) (c.deref.ensures ∙ c.network.ensures), process_count m e c.facts.ensures)) in
    let limit : None ≡ limit_at m e k p.0 =
    sym c.in_default.is ∙ if_there (λ p. c.in_ok-limit.field-0 ≡ limit_at m now k p) (slice_get now.world.processes k) p.0 (ap (λ x. slice_get x.world.processes k) same ∙ p.1) c.in_ok-limit.ensures.limit ∙ ap (λ x. limit_at m x k p.0) same in
    let more : suc k ≡ k + 1 = omega arith in
    record {
      same = c.in_ok-limit.ensures.stays ∙ same;
      none = c.loop-component.invariant.none ∙ fault_here m e k p.0 None p.1 limit ∙ ap (λ j. fault_from m j e) more;
    }
