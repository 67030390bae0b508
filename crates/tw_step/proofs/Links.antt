-- Steps that lead from one to the next, and one more behind them.
use Rattle.std.proofs.Common.{◌≡◌, ℕ, List, [], ◌∷◌, ◌++◌, refl, sym, subst}
use Rattle.tw_atomic.specs.Atomic.{Bag}
use Rattle.tw_atomic.specs.declared.Turn.{Turn}
use Rattle.tw_step.specs.Steps.{Linked, AllLinked, state_before}
use Rattle.tw_step.specs.declared.step.Step.{Step}

module _ {S R : Type 0} where
  pub state_before_push : (steps : List (Step S R)) (step : Step S R) (after : S) → state_before (steps ++ step ∷ []) after ≡ state_before steps step.before.value
  state_before_push [] step after = refl
  state_before_push (x ∷ steps) step after = refl

  module _ (undone : Turn → S → ℕ → Bag → R → S) where
    pub linked_push : (steps : List (Step S R)) (step : Step S R) (after : S) → AllLinked undone steps step.before.value → Linked undone step after → AllLinked undone (steps ++ step ∷ []) after
    linked_push [] step after links link = (link, tt)
    linked_push (x ∷ steps) step after links link = (subst (Linked undone x) (sym (state_before_push steps step after)) links.0, linked_push steps step after links.1 link)

    -- the last one and those before it
    pub linked_pop : (steps : List (Step S R)) (step : Step S R) (after : S) → AllLinked undone (steps ++ step ∷ []) after → Linked undone step after × AllLinked undone steps step.before.value
    linked_pop [] step after links = links
    linked_pop (x ∷ steps) step after links =
        let rest = linked_pop steps step after links.1 in
        (rest.0, (subst (Linked undone x) (state_before_push steps step after) links.0, rest.1))
