-- One component's transition in a round is the definition's.
use Rattle.std.proofs.Common.{◌≡◌, ℕ, ◌+◌, ◌-◌, ◌<◌, ◌≤◌, ◌==◌, [], ◌∷◌, Bool, true, false, cond, Some, Ok, Err, slice_get, refl, sym, ap, subst, ◌∙◌, ⊎_elim, arith}
use Rattle.std.specs.Prelude.{◌≢◌}
use Rattle.std.proofs.lemmas.Bool.{eq-eqb, ne_eqb}
use Rattle.tw_atomic.specs.Atomic.{Meaning, CanTurn, FitsBag, IsSorted}
use Rattle.tw_msgs.specs.Bags.{Bag}
use Rattle.tw_msgs.specs.declared.record_kind.RecordKind.{RecordKind}
use Rattle.tw_network.specs.Contents.{Contents, network_of}
use Rattle.tw_rounds.specs.Invariant.{IsBetween}
use Rattle.tw_rounds.specs.Turning.{past_output}
use Rattle.tw_step.specs.Steps.{CanMove, IsAt, IsPassed, IsPassedAs}
use Rattle.tw_theory.specs.Transitions.{Moment, turn, output, transition}
use Rattle.tw_theory.specs.Network.{Network}
use Rattle.tw_theory.specs.Simulator.{RoundTurn, Stays, Moves, Stops, take_turn, after_output, turn_of_result}
use Rattle.tw_vtime.specs.Stamps.{max_tick, max_microstep, tick_of, phase_of}
use Rattle.tw_vtime.specs.declared.limits.Limit.{Limit}
use Rattle.tw_rounds.proofs.Between.{can_turn, turned_between}
use Rattle.tw_network.proofs.Places.{model_at}

pub stays_turn : {S : Type 0} (net : Network S) (c s : ℕ) (at : Moment S) (imminent : Bool) (bag : Bag) → imminent ≡ false → bag ≡ [] → take_turn net c at s imminent bag ≡ Stays
stays_turn net c s at imminent bag idle none = λ i. take_turn net c at s (idle i) (none i)

turns_made : {S : Type 0} (net : Network S) (c s : ℕ) (at : Moment S) (imminent : Bool) (bag : Bag) → (imminent ≡ false → bag ≢ []) → take_turn net c at s imminent bag ≡ turn_of_result (transition net c at s bag)
turns_made net c s at true [] some = refl
turns_made net c s at true (x ∷ xs) some = refl
turns_made net c s at false [] some = absurd (some refl refl)
turns_made net c s at false (x ∷ xs) some = refl

past_is : {S : Type 0} (net : Network S) (c t : ℕ) (now : Moment S) → after_output net c now t ≡ past_output t now
unfolding output
past_is net c t now = refl

pub past_idle : {S : Type 0} (t : ℕ) (now : Moment S) → (now.due == t) ≡ false → past_output t now ≡ now
past_idle t now idle = ap (λ b. cond b (record now { due = t + 1 }) now) idle

pub past_last : {S : Type 0} (t : ℕ) (now : Moment S) → (past_output t now).last ≡ now.last
past_last t now = go (now.due == t)
  where
    go : (b : Bool) → (cond b (record now { due = t + 1 }) now).last ≡ now.last
    go true = refl
    go false = refl

past_state : {S : Type 0} (t : ℕ) (now : Moment S) → (past_output t now).state ≡ now.state
past_state t now = go (now.due == t)
  where
    go : (b : Bool) → (cond b (record now { due = t + 1 }) now).state ≡ now.state
    go true = refl
    go false = refl

-- it is then due at the transition, if it was due at the output
past_due : {S : Type 0} (t : ℕ) (now : Moment S) → now.due ≢ t + 1 → ((past_output t now).due == t + 1) ≡ (now.due == t)
past_due t now apart = go (now.due == t)
  where
    go : (b : Bool) → ((cond b (record now { due = t + 1 }) now).due == t + 1) ≡ b
    go true = eq-eqb (t + 1) (t + 1) refl
    go false = ne_eqb now.due (t + 1) apart

module _ {S : Type 0} (valid : S → Type 0) (model : Meaning S) (t : ℕ) (now : Moment S) (at : IsBetween valid model t now) (even : phase_of t ≡ 0) (small : tick_of t < max_tick) where
  -- the transition can be made after the output
  pub can_move : (bag : Bag) → ((now.due == t) ≡ false → bag ≢ []) → IsSorted bag → FitsBag bag → CanMove valid model (past_output t now) (t + 1) bag
  can_move bag some up fits =
      let apart : now.due ≢ t + 1 = ⊎_elim (λ q h. omega (arith, q, h, even)) (λ q h. omega (arith, q, h, small)) at.due_even in
      subst (λ (x : Type 0). x) (λ i. CanTurn valid model (turn (sym (past_due t now apart) i) bag) (sym (past_state t now) i) (tick_of (t + 1) - tick_of (sym (past_last t now) i)) bag)
      (can_turn valid model t now bag at some even small up fits)

  -- and where it stands after it
  pub passed_between : (limit : ℕ) (bag : Bag) (after : Moment S) → limit ≤ max_microstep → IsPassed model limit (past_output t now) (t + 1) bag after → valid after.state → IsBetween valid model (t + 2) after
  passed_between limit bag after few passed fits =
      let due = passed.due_is in
      let back : after.last ≡ t = omega (arith, passed.last_is) in
      subst (λ (x : Type 0). x) (λ i. IsBetween valid model (t + 2) (record { state = after.state; last = sym back i; due = sym due.2 i }))
      (turned_between valid model after.state t limit due.0 fits even small few due.1)

module _ {M S : Type 0} (meaning : M → Meaning S) (contents : Contents M) (c t : ℕ) (model : M) (now : Moment S) (bag : Bag)
    (found : slice_get contents.models c ≡ Some model) (some : (now.due == t) ≡ false → bag ≢ []) where
  home : IsAt (network_of meaning contents) (meaning model) (record { component = c; micro_limit = contents.micro_limit })
  home = record { model_is = λ s. model_at meaning contents c model s found; limit_is = refl }

  abbrev turn_taken : RoundTurn S
  turn_taken = take_turn (network_of meaning contents) c (after_output (network_of meaning contents) c now t) (t + 1) (now.due == t) bag

  turns_after : turn_taken ≡ turn_of_result (transition (network_of meaning contents) c (past_output t now) (t + 1) bag)
  turns_after =
      let net = network_of meaning contents in
      turns_made net c (t + 1) (after_output net c now t) (now.due == t) bag some ∙ ap (λ m. turn_of_result (transition net c m (t + 1) bag)) (past_is net c t now)

  pub stops_turn : (after : Moment S) (limit : Limit) → IsPassedAs (meaning model) contents.micro_limit (past_output t now) (t + 1) bag after (Err limit) → Stops limit ≡ turn_taken
  stops_turn after limit met = sym (turns_after ∙ ap turn_of_result (met (network_of meaning contents) c home))

  pub moves_turn : (after : Moment S) (kind : RecordKind) → IsPassedAs (meaning model) contents.micro_limit (past_output t now) (t + 1) bag after (Ok kind)
      → Moves (record { entry = record { component = c; stamp = t + 1; kind = kind; bag = bag; words = (meaning model).words after.state }; after = after }) ≡ turn_taken
  moves_turn after kind passed = sym (turns_after ∙ ap turn_of_result (passed.1 (network_of meaning contents) c home))
