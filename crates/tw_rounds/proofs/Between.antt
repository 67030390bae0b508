-- A component between two rounds: the turn that it can make at the next one, and how it stands after it.
use Rattle.std.proofs.Common.{◌≡◌, ℕ, ◌+◌, ◌-◌, ◌<◌, ◌≤◌, ◌==◌, ◌⊎◌, inl, inr, [], Bool, true, false, nat_le, Option, Some, None, Ok, refl, sym, ap, ◌∙◌, subst, ⊎_elim, arith}
use Rattle.std.specs.Prelude.{◌≢◌}
use Rattle.std.proofs.lemmas.Bool.{cases_eq, cases_Bool, cond-true, cond-false, eqb-true, eqb-false, eq-eqb, ne_eqb}
use Rattle.tw_atomic.specs.Atomic.{Meaning, IsDue, CanTurn, FitsBag, IsSorted}
use Rattle.tw_msgs.specs.Bags.{Bag}
use Rattle.tw_rounds.specs.Invariant.{IsBetween}
use Rattle.tw_theory.specs.Standing.{IsTied, IsStanding}
use Rattle.tw_theory.specs.Transitions.{Moment, due_of, first_due, start_moment, turn}
use Rattle.tw_theory.proofs.Standing.{turn_due, tied_output, after_transition}
use Rattle.tw_vtime.specs.Advance.{advanced, next_microstep, later_tick}
use Rattle.tw_vtime.specs.Stamps.{max_tick, max_microstep, never, stamp, tick_of, micro_of, phase_of}

-- a component that is not imminent is due after the transitions of the round
due_later : (t due : ℕ) → phase_of t ≡ 0 → tick_of t < max_tick → t ≤ due → due ≢ t → (phase_of due ≡ 0) ⊎ (due ≡ never) → t + 2 ≤ due
due_later t due even small from apart whole = ⊎_elim (λ e. omega (arith, e, from, apart, even)) (λ e. omega (arith, e, small)) whole

-- the turn that a component's moment and bag call for can be made
pub can_turn : {S : Type 0} (IsValid : S → Type 0) (model : Meaning S) (t : ℕ) (now : Moment S) (bag : Bag) → IsBetween IsValid model t now → ((now.due == t) ≡ false → bag ≢ []) → phase_of t ≡ 0 → tick_of t < max_tick → IsSorted bag → FitsBag bag
    → CanTurn IsValid model (turn (now.due == t) bag) now.state (tick_of (t + 1) - tick_of now.last) bag
can_turn IsValid model t now bag at some even small up fits =
    let stands = at.stands in
    let floor = stands.from in
    record {
      valid = stands.valid;
      due = ⊎_elim
          (λ e.
          let is = eqb-true now.due t e in
          subst (λ b. IsDue (model.ta now.state) (turn b bag) (tick_of (t + 1) - tick_of now.last) bag) (sym e)
          (turn_due (model.ta now.state) now.last (t + 1) (t + 1) (t + 1) true bag (eq-eqb (t + 1) (t + 1) refl) (λ f. absurd (cc f))
          (tied_output (model.ta now.state) now.last t (subst (λ d. IsTied (model.ta now.state) now.last d) is stands.tied) (omega (arith, small)) even) (λ z. omega arith) (omega arith) (omega arith) (omega (arith, small)) (omega (arith, even))))
          (λ e.
          let apart = eqb-false now.due t e in
          let later = due_later t now.due even small floor apart at.due_even in
          subst (λ b. IsDue (model.ta now.state) (turn b bag) (tick_of (t + 1) - tick_of now.last) bag) (sym e)
          (turn_due (model.ta now.state) now.last now.due (t + 1) t false bag (ne_eqb now.due (t + 1) (omega (arith, later))) (λ f. some e)
          stands.tied stands.soon (omega arith) (omega (arith, later)) (omega (arith, small)) (omega (arith, even))))
          (cases_Bool (now.due == t));
      sorted = up;
      elapsed_fits = omega (arith, small);
      bag_fits = fits;
    }

-- at the start
pub starts_between : {S : Type 0} (IsValid : S → Type 0) (model : Meaning S) (now : Moment S) → now ≡ start_moment model → IsStanding IsValid model now 0 → IsBetween IsValid model 0 now
starts_between IsValid model now is stands = record {
  stands = stands;
  last_even = (let last = ap (λ (m : Moment _). m.last) is in omega (arith, last));
  due_even = first_even (model.ta model.start) (ap (λ (m : Moment _). m.due) is);
}
  where
    first_even : (ta : Option ℕ) → now.due ≡ first_due ta → (phase_of now.due ≡ 0) ⊎ (now.due ≡ never)
    first_even None e = inr e
    first_even (Some d) e = inl (omega (arith, e))

-- ---- where the component stands after a round

-- it was not imminent, and nothing came
pub stays_between : {S : Type 0} (IsValid : S → Type 0) (model : Meaning S) (t : ℕ) (now : Moment S) → IsBetween IsValid model t now → now.due ≢ t → phase_of t ≡ 0 → tick_of t < max_tick → IsBetween IsValid model (t + 2) now
stays_between IsValid model t now at apart even small =
    let stands = at.stands in
    record {
      stands = record {
        valid = stands.valid;
        last_is = stands.last_is;
        tied = stands.tied;
        soon = λ z. (let soon = stands.soon z in omega (arith, soon));
        from = due_later t now.due even small stands.from apart at.due_even;
      };
      last_even = at.last_even;
      due_even = at.due_even;
    }

-- up to a later time at which nothing is due before
pub between_at : {S : Type 0} (IsValid : S → Type 0) (model : Meaning S) (s t : ℕ) (now : Moment S) → s ≤ t → t ≤ now.due → IsBetween IsValid model s now → IsBetween IsValid model t now
between_at IsValid model s t now later from at =
    let stands = at.stands in
    record {
      stands = record {
        valid = stands.valid;
        last_is = stands.last_is;
        tied = stands.tied;
        soon = λ z. (let soon = stands.soon z in omega (arith, soon, later));
        from = from;
      };
      last_even = at.last_even;
      due_even = at.due_even;
    }

-- an advance gives the stamp of an output
advanced_even : (s limit : ℕ) (ta next : Option ℕ) → advanced s ta limit ≡ Ok next → (phase_of (due_of next) ≡ 0) ⊎ (due_of next ≡ never)
advanced_even s limit None next e = inr (ap due_of (sym (none_is e)))
  where
    none_is : advanced s None limit ≡ Ok next → None ≡ next
    none_is e = cc e
advanced_even s limit (Some a) next e = ⊎_elim
    (λ z. micro (nat_le (micro_of s + 1) limit) refl (sym (cond-true (a == 0) _ _ (eq-eqb a 0 z)) ∙ e))
    (λ z. tick (nat_le (tick_of s + a) max_tick) refl (sym (cond-false (a == 0) _ _ (ne_eqb a 0 z)) ∙ e))
    (cases_eq a 0)
  where
    even : (t m : ℕ) → Some (stamp t m 0) ≡ next → (phase_of (due_of next) ≡ 0) ⊎ (due_of next ≡ never)
    even t m is = let due : due_of next ≡ stamp t m 0 = ap due_of (sym is) in inl (omega (arith, due))

    micro : (b : Bool) → nat_le (micro_of s + 1) limit ≡ b → next_microstep (tick_of s) (micro_of s) limit ≡ Ok next → (phase_of (due_of next) ≡ 0) ⊎ (due_of next ≡ never)
    micro true b q = even (tick_of s) (micro_of s + 1) (cc (sym (cond-true (nat_le (micro_of s + 1) limit) _ _ b) ∙ q))
    micro false b q = absurd (cc (sym (cond-false (nat_le (micro_of s + 1) limit) _ _ b) ∙ q))

    tick : (b : Bool) → nat_le (tick_of s + a) max_tick ≡ b → later_tick (tick_of s + a) ≡ Ok next → (phase_of (due_of next) ≡ 0) ⊎ (due_of next ≡ never)
    tick true b q = even (tick_of s + a) 0 (cc (sym (cond-true (nat_le (tick_of s + a) max_tick) _ _ b) ∙ q))
    tick false b q = absurd (cc (sym (cond-false (nat_le (tick_of s + a) max_tick) _ _ b) ∙ q))

-- it made the transition of the round
pub turned_between : {S : Type 0} (IsValid : S → Type 0) (model : Meaning S) (state : S) (t limit : ℕ) (next : Option ℕ) → IsValid state → phase_of t ≡ 0 → tick_of t < max_tick → limit ≤ max_microstep → advanced (t + 1) (model.ta state) limit ≡ Ok next
    → IsBetween IsValid model (t + 2) (record { state = state; last = t; due = due_of next })
turned_between IsValid model state t limit next valid even small few e =
    let at = after_transition IsValid model state (t + 1) limit next valid (omega (arith, small)) (omega (arith, even)) few e in
    record {
      stands = record {
        valid = at.valid;
        last_is = omega (arith, small);
        tied = (let back : t + 1 - 1 ≡ t = omega arith in subst (λ l. IsTied (model.ta state) l (due_of next)) back at.tied);
        soon = λ z. (let soon = at.soon z in omega (arith, soon));
        from = (let from = at.from in omega (arith, from));
      };
      last_even = even;
      due_even = advanced_even (t + 1) limit (model.ta state) next e;
    }
