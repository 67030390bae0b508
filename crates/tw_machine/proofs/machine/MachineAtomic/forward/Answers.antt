use Rattle.std.proofs.Common.{OnOk, IfOk, ◌≡◌, ℤ, ℕ, List, Option, ap, ap₂, ◌∙◌, sym, subst}
use Rattle.tw_atomic.specs.Atomic.{turned}
use Rattle.tw_machine.specs.declared.kept.Kept.{Kept}
use Rattle.tw_machine.specs.declared.memory.State.{State}
use Rattle.tw_machine.specs.Machine.{machine_meaning, kept_left, kept_log}
use Rattle.tw_machine.specs.SeenLaws.{turned-seen, kept_left-seen, kept_log-seen}
use Rattle.tw_machine.proofs.machine.MachineAtomic.forward.Goals as goal

pub returns-clause-state : goal.returns-clause-state
returns-clause-state c =
    let a = c.args in
    subst (λ (s : State). OnOk c.make.result (c.make.new.state ≡ s))
    (sym (turned-seen c.text.result.now a.turn a.state.now a.elapsed a.bag.now) ∙ ap (λ p. turned (machine_meaning p) a.turn a.state.now a.elapsed a.bag.now) c.text.ensures)
    c.make.ensures.state

pub returns-clause-residue : goal.returns-clause-residue
returns-clause-residue c =
    let a = c.args in
    let p = c.text.result.now in
    let kept : Option ℕ → List ℤ → Kept = λ left log. record { left = left; log = log } in
    subst (λ (k : Kept). IfOk c.make.result (λ residue. residue ≡ k))
    (ap₂ kept
    (sym (kept_left-seen p a.turn a.state.now) ∙ ap (λ p. kept_left p a.turn a.state.now) c.text.ensures)
    (sym (kept_log-seen p a.turn a.state.now a.elapsed a.bag.now) ∙ ap (λ p. kept_log p a.turn a.state.now a.elapsed a.bag.now) c.text.ensures))
    c.make.ensures.residue
