-- What a step sends.
use Rattle.std.proofs.Common.{◌≡◌, ℕ, zero, suc, ◌+◌, ◌-◌, ◌<◌, ◌≤◌, List, [], ◌∷◌, ◌++◌, length, Bool, true, false, cond, Result, Ok, Err, refl, sym, ap, ◌∙◌, subst, arith}
use Rattle.std.specs.Prelude.{nat_le, ◌==◌, IfOk}
use Rattle.std.specs.List.{AllByRecursion as Each}
use Rattle.std.proofs.lemmas.Bool.{eqb-true}
use Rattle.std.proofs.lemmas.Result.{IfOk-at_ok}
use Rattle.tw_msgs.specs.Bags.{Bag}
use Rattle.tw_msgs.specs.declared.message.Message.{Message}
use Rattle.tw_vtime.specs.Stamps.{never, phase_of}
use Rattle.tw_vtime.specs.declared.limits.Limit.{Limit}
use Rattle.tw_theory.specs.LocalRun.{Made, next_of, transition_made, if_moved, step_at, local_step}
use Rattle.tw_theory.specs.Network.{Network, copies, routed, IsNetwork, routes}
use Rattle.tw_theory.specs.Transitions.{Moment, Move, output}
use Rattle.tw_theory.proofs.Elements.{each-append}
use Rattle.tw_theory.proofs.Routes.{routes_lead}
use Rattle.tw_theory.proofs.Steps.{IfOk-cond}

-- a message sent by an output of stamp s
pub record IsSentAt {S : Type 0} (net : Network S) (s : ℕ) (m : Message) : Type 0 where
  pub stamp : m.stamp ≡ s + 1
  pub to : m.to < length net.models
  pub even : phase_of s ≡ 0

module _ {S : Type 0} (net : Network S) (ok : IsNetwork net) where
  copies_sent : (s : ℕ) (v : Rattle.std.proofs.Common.ℤ) (places : List (ℕ × ℕ)) → phase_of s ≡ 0 → Each (λ place. place.0 < length net.models) places
      → Each (IsSentAt net s) (copies (s + 1) v places)
  copies_sent s v [] even h = tt
  copies_sent s v (place ∷ places) even h = (record { stamp = refl; to = h.0; even = even }, copies_sent s v places even h.1)

  routed_sent : (c s : ℕ) (bag : Bag) → phase_of s ≡ 0 → Each (IsSentAt net s) (routed net c (s + 1) bag)
  routed_sent c s [] even = tt
  routed_sent c s (x ∷ bag) even = each-append (IsSentAt net s) _ _ (copies_sent s x.1 (routes net c x.0) even (routes_lead net ok c x.0)) (routed_sent c s bag even)

  none_sent : (now : Moment S) (pending : List Message) (s : ℕ) (r : Result (Move S) Limit)
      → IfOk (if_moved (transition_made now pending s) r) (λ made. Each (IsSentAt net s) made.step.sent)
  none_sent now pending s (Ok move) = tt
  none_sent now pending s (Err limit) = tt

  step_at_sends : (c : ℕ) (now : Moment S) (pending : List Message) (s : ℕ)
      → IfOk (step_at net c now pending s) (λ made. Each (IsSentAt net s) made.step.sent)
  unfolding step_at
  step_at_sends c now pending s =
      IfOk-cond (λ made. Each (IsSentAt net s) made.step.sent) (nat_le never s) _ _
      (λ e. tt)
      (λ e. IfOk-cond (λ made. Each (IsSentAt net s) made.step.sent) (phase_of s == 0) _ _
      (λ d. routed_sent c s (output net c now s).entry.bag (eqb-true (phase_of s) 0 d))
      (λ d. none_sent now pending s _))

  pub local_step_sends : (c : ℕ) (now : Moment S) (pending : List Message) (made : Made S) → local_step net c now pending ≡ Ok made
      → Each (IsSentAt net (next_of now pending)) made.step.sent
  unfolding local_step
  local_step_sends c now pending made e = IfOk-at_ok (λ made. Each (IsSentAt net (next_of now pending)) made.step.sent) e (step_at_sends c now pending (next_of now pending))
