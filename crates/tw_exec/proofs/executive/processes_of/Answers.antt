use Rattle.std.proofs.Common.{◌≡◌, inl, inr, length, List, ◌++◌, ◌∷◌, [], ap, sym, subst, subst₂, ◌∙◌, rules, arith}
use Rattle.std.specs.Prelude.{slice_get, ℕ}
use Rattle.std.proofs.lemmas.Result.{IfOk-from_err}
use Rattle.std.specs.Arc.{arc_value}
use Rattle.tw_atomic.specs.Atomic.{Meaning}
use Rattle.tw_exec.specs.Running.{AreNew}
use Rattle.tw_exec.proofs.Starts.{get_of_push}
use Rattle.tw_network.specs.Contents.{Contents}
use Rattle.tw_process.specs.Process.{Held, IsNew}
use Rattle.tw_theory.specs.Contents.{Cancel}
use Rattle.tw_exec.proofs.executive.processes_of.Goals as goal

more : {M S : Type 0} (meaning : M → Meaning S) (n m : Contents M) (way : Cancel) (ps : List (Held M S)) (p : Held M S) (c : ℕ) → m ≡ n → length ps ≡ c → AreNew meaning n way ps → IsNew meaning m way c p
    → (qs : List (Held M S)) → qs ≡ ps ++ p ∷ [] → AreNew meaning n way qs
more meaning n m way ps p c same count old new qs is = λ d q at. elim (get_of_push ps p d q (ap (λ l. slice_get l d) (sym is) ∙ at)) [
  | inl l ↦ subst (λ k. IsNew meaning k way d q) same (subst₂ (IsNew meaning m way) (sym count ∙ sym l.0) (sym l.1) new)
  | inr l ↦ old d q l
]

pub loop-component-preserved : goal.loop-component-preserved
loop-component-preserved g c = record {
  made = more g.M.Atomic.meaning (arc_value c.args.network.now) (arc_value c.in_ok-try_clone.field-0) c.args.cancel c.loop-component.processes.items c.in_ok-process.process c.loop-component.component c.in_ok-try_clone.ensures c.loop-component.invariant.count c.loop-component.invariant.made c.in_ok-process.ensures _ c.in_ok-push.ensures.items;
  count = search rules;
}

pub with_cancel-requires : goal.with_cancel-requires
with_cancel-requires g c = omega (arith, c.loop-component-test.true, c.requires, ap (λ n. length n.models) c.in_ok-try_clone.ensures)

pub returns-in_err-try_clone-clause-made : goal.returns-in_err-try_clone-clause-made
returns-in_err-try_clone-clause-made g c = IfOk-from_err _ _ c.from_residual.ensures.0

pub returns-in_err-try_clone-clause-count : goal.returns-in_err-try_clone-clause-count
returns-in_err-try_clone-clause-count g c = IfOk-from_err _ _ c.from_residual.ensures.0

pub returns-in_err-process-clause-made : goal.returns-in_err-process-clause-made
returns-in_err-process-clause-made g c = IfOk-from_err _ _ c.from_residual-in_err-process.ensures.0

pub returns-in_err-process-clause-count : goal.returns-in_err-process-clause-count
returns-in_err-process-clause-count g c = IfOk-from_err _ _ c.from_residual-in_err-process.ensures.0
