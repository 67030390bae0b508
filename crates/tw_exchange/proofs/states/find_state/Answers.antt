use Rattle.std.proofs.Common.{◌≡◌, ◌<◌, ℕ, zero, suc, Bool, true, false, refl, ap, sym, subst, ◌∙◌, arith, rules}
use Rattle.std.specs.Prelude.{IfOk}
use Rattle.tw_exec.proofs.Comparing.{ge, not_ge}
use Rattle.tw_theory.specs.Outcomes.{all_past}
use Rattle.tw_vtime.specs.Stamps.{phase_of, stamp}
use Rattle.tw_exchange.proofs.Standing.{complete, faulting, going, may, not_before, not_empty, not_odd, not_quiet}
use Rattle.tw_exchange.proofs.states.find_state.Goals as goal

-- what is no output is a transition
odd_of : (s : ℕ) (b : Bool) → (phase_of s ≡ 0 → b ≡ true) → b ≡ false → phase_of s ≡ 1
odd_of s b output not = go (phase_of s) refl
  where
    go : (n : ℕ) → phase_of s ≡ n → phase_of s ≡ 1
    go zero is = let both = sym not ∙ output is in absurd (cc both)
    go (suc zero) is = is
    go (suc (suc n)) is = absurd (omega (arith, is))

pub returns-then-all_past-clause-state : goal.returns-then-all_past-clause-state
returns-then-all_past-clause-state g c =
    let m = g.M.Atomic.meaning in
    let e = c.args.executive.now in
    let end : c.unwrap-end.result ≡ stamp c.args.executive.now.until 0 0 = search rules in
    sym (complete m e (ap (λ s. all_past s e.world.processes) (sym end) ∙ sym c.all_past.ensures ∙ c.if-all_past.true))

pub returns-then-ge-clause-state : goal.returns-then-ge-clause-state
returns-then-ge-clause-state g c =
    let m = g.M.Atomic.meaning in
    let e = c.args.executive.now in
    let end : c.unwrap-end.result ≡ stamp c.args.executive.now.until 0 0 = search rules in
    let past = ap (λ s. all_past s e.world.processes) (sym end) ∙ sym c.all_past.ensures ∙ c.if-all_past.false in
    sym (going m e past (not_before m e (omega (arith, ge c.gvt-gvt.result c.unwrap-end.result c.if-ge.ensures, end, c.gvt-gvt.ensures))))

pub returns-then-is_output-clause-state : goal.returns-then-is_output-clause-state
returns-then-is_output-clause-state g c =
    let m = g.M.Atomic.meaning in
    let e = c.args.executive.now in
    let end : c.unwrap-end.result ≡ stamp c.args.executive.now.until 0 0 = search rules in
    let past = ap (λ s. all_past s e.world.processes) (sym end) ∙ sym c.all_past.ensures ∙ c.if-all_past.false in
    let even = c.is_output.ensures.0 c.if-is_output.true in
    sym (going m e past (not_odd m e (omega (arith, even, c.gvt-gvt.ensures))))

pub returns-then-not-all_quiet-clause-state : goal.returns-then-not-all_quiet-clause-state
returns-then-not-all_quiet-clause-state g c =
    let m = g.M.Atomic.meaning in
    let e = c.args.executive.now in
    let end : c.unwrap-end.result ≡ stamp c.args.executive.now.until 0 0 = search rules in
    let past = ap (λ s. all_past s e.world.processes) (sym end) ∙ sym c.all_past.ensures ∙ c.if-all_past.false in
    sym (going m e past (not_quiet m e (sym c.all_quiet.ensures ∙ c.if-not-all_quiet.true)))

pub returns-then-not-all_empty-clause-state : goal.returns-then-not-all_empty-clause-state
returns-then-not-all_empty-clause-state g c =
    let m = g.M.Atomic.meaning in
    let e = c.args.executive.now in
    let end : c.unwrap-end.result ≡ stamp c.args.executive.now.until 0 0 = search rules in
    let past = ap (λ s. all_past s e.world.processes) (sym end) ∙ sym c.all_past.ensures ∙ c.if-all_past.false in
    sym (going m e past (not_empty m e (sym c.all_empty.ensures ∙ c.if-not-all_empty.true)))

pub returns-clause-state : goal.returns-clause-state
returns-clause-state g c =
    let m = g.M.Atomic.meaning in
    let e = c.args.executive.now in
    let end : c.unwrap-end.result ≡ stamp c.args.executive.now.until 0 0 = search rules in
    let past = ap (λ s. all_past s e.world.processes) (sym end) ∙ sym c.all_past.ensures ∙ c.if-all_past.false in
    let before : e.world.gvt < stamp e.until 0 0 = omega (arith, not_ge c.gvt-gvt.result c.unwrap-end.result c.if-ge.ensures, end, c.gvt-gvt.ensures) in
    let transition = odd_of c.gvt-gvt.result c.is_output.result c.is_output.ensures.1 c.if-is_output.false in
    let odd : phase_of e.world.gvt ≡ 1 = omega (arith, transition, c.gvt-gvt.ensures) in
    let quiet = sym c.all_quiet.ensures ∙ c.if-not-all_quiet.false in
    let empty = sym c.all_empty.ensures ∙ c.if-not-all_empty.false in
    subst (λ s. IfOk c.first_fault.result (λ x. x ≡ s)) (sym (faulting m e past (may m e quiet empty before odd))) c.first_fault.ensures.state
