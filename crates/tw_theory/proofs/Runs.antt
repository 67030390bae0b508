-- The run of a component by itself, step by step.
use Rattle.std.proofs.Common.{◌≡◌, ℕ, List, [], ◌∷◌, ◌++◌, Ok, refl, sym, subst, ◌∙◌}
use Rattle.std.specs.List.{AllByRecursion as Each}
use Rattle.tw_msgs.specs.declared.message.Message.{Message}
use Rattle.tw_theory.specs.LocalRun.{Step, Made, Leads, local_step}
use Rattle.tw_theory.specs.Network.{Network}
use Rattle.tw_theory.specs.Transitions.{Moment}
use Rattle.tw_theory.proofs.Steps.{local_step_follows}

module _ {S : Type 0} (net : Network S) (c : ℕ) where
  -- one more step
  pub leads_more : (from : Moment S) (all : List Message) (steps : List (Step S)) (now : Moment S) (pending : List Message) (made : Made S)
      → Leads net c from all steps now pending → local_step net c now pending ≡ Ok made
      → Leads net c from all (steps ++ made.step ∷ []) made.after made.left
  leads_more from all [] now pending made h e = (made, (λ i. local_step net c (h.0 i) (h.1 i)) ∙ e, refl, (refl, refl))
  leads_more from all (x ∷ steps) now pending made h e = (h.0, h.1, h.2, leads_more h.0.after h.0.left steps now pending made h.3 e)

  -- what a step consumed has its stamp
  pub leads_consumes : (from : Moment S) (all : List Message) (steps : List (Step S)) (now : Moment S) (pending : List Message)
      → Leads net c from all steps now pending → Each (λ step. Each (λ m. m.stamp ≡ step.entry.stamp) step.consumed) steps
  leads_consumes from all [] now pending h = tt
  leads_consumes from all (x ∷ steps) now pending h =
      let f = local_step_follows net c from all h.0 h.1 in
      let here = subst (λ s. Each (λ m. m.stamp ≡ s) h.0.step.consumed) (sym f.stamp_is) f.consumed_at in
      (subst (λ step. Each (λ m. m.stamp ≡ step.entry.stamp) step.consumed) h.2 here, leads_consumes h.0.after h.0.left steps now pending h.3)
