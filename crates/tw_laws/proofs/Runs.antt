-- Runs of one component by itself: their ends, their parts, and other messages behind them.
use Rattle.std.proofs.Common.{◌≡◌, ℕ, ◌<◌, ◌≤◌, List, [], ◌∷◌, ◌++◌, Bool, true, false, cond, Result, Ok, Err, refl, sym, ap, ◌∙◌, subst, subst₂, arith, append_assoc}
use Rattle.std.specs.Prelude.{nat_le, ◌==◌, IfOk}
use Rattle.std.specs.List.{AllByRecursion as Each}
use Rattle.std.proofs.lemmas.Bool.{ne_eqb}
use Rattle.std.proofs.lemmas.Result.{IfOk-at_ok}
use Rattle.tw_msgs.specs.declared.message.Message.{Message}
use Rattle.tw_vtime.specs.Stamps.{never, phase_of}
use Rattle.tw_vtime.specs.declared.limits.Limit.{Limit}
use Rattle.tw_theory.specs.Bundles.{first_stamp, front, behind, items_of, Ascending}
use Rattle.tw_theory.specs.Contents.{before_all, consumed_by}
use Rattle.tw_theory.specs.LocalRun.{Step, Made, next_of, output_made, transition_made, if_moved, step_at, local_step, Leads}
use Rattle.tw_theory.specs.Network.{Network}
use Rattle.tw_theory.specs.Soundness.{AllBefore}
use Rattle.tw_theory.specs.Transitions.{Moment, Move, output, transition}
use Rattle.tw_theory.proofs.Elements.{each_parts}
use Rattle.tw_theory.proofs.Steps.{Follows, local_step_follows, IfOk-cond}

front_none : (s : ℕ) (ms : List Message) → s < first_stamp ms → front s ms ≡ []
front_none s [] l = refl
front_none s (m ∷ ms) l = ap (λ b. cond b (m ∷ front s ms) []) (ne_eqb m.stamp s (λ e. omega arith))

behind_all : (s : ℕ) (ms : List Message) → s < first_stamp ms → behind s ms ≡ ms
behind_all s [] l = refl
behind_all s (m ∷ ms) l = ap (λ b. cond b (behind s ms) (m ∷ ms)) (ne_eqb m.stamp s (λ e. omega arith))

front_again : (s : ℕ) (ms other : List Message) → s < first_stamp other → front s (front s ms ++ other) ≡ front s ms
front_again s [] other l = front_none s other l
front_again s (m ∷ ms) other l = go (m.stamp == s) refl (front_again s ms other l)
  where
    go : (b : Bool) → (m.stamp == s) ≡ b → front s (front s ms ++ other) ≡ front s ms
        → front s (cond b (m ∷ front s ms) [] ++ other) ≡ cond b (m ∷ front s ms) []
    go true e ih = ap (λ b. cond b (m ∷ front s (front s ms ++ other)) []) e ∙ ap (λ l. m ∷ l) ih
    go false e ih = front_none s other l

behind_again : (s : ℕ) (ms other : List Message) → s < first_stamp other → behind s (front s ms ++ other) ≡ other
behind_again s [] other l = behind_all s other l
behind_again s (m ∷ ms) other l = go (m.stamp == s) refl (behind_again s ms other l)
  where
    go : (b : Bool) → (m.stamp == s) ≡ b → behind s (front s ms ++ other) ≡ other → behind s (cond b (m ∷ front s ms) [] ++ other) ≡ other
    go true e ih = ap (λ b. cond b (behind s (front s ms ++ other)) (m ∷ (front s ms ++ other))) e ∙ ih
    go false e ih = behind_all s other l

first_other : (s : ℕ) (xs ys zs : List Message) → s < first_stamp (xs ++ ys) → s < first_stamp zs → s < first_stamp (xs ++ zs)
first_other s [] ys zs h l = l
first_other s (x ∷ xs) ys zs h l = h

next_other : {S : Type 0} (now : Moment S) (xs ys zs : List Message) → next_of now (xs ++ ys) < first_stamp ys
    → next_of now (xs ++ ys) < first_stamp zs → next_of now (xs ++ zs) ≡ next_of now (xs ++ ys)
next_other now [] ys zs h l = omega arith
next_other now (x ∷ xs) ys zs h l = refl

module _ {S : Type 0} (net : Network S) (c : ℕ) where
  -- the same step, with other messages behind those that it consumed
  record Same (now : Moment S) (s : ℕ) (other : List Message) (made : Made S) : Type 0 where
    again : Made S
    is : step_at net c now (made.step.consumed ++ other) s ≡ Ok again
    step : again.step ≡ made.step
    after : again.after ≡ made.after
    left : again.left ≡ other

  at_output : (now : Moment S) (pending : List Message) (s : ℕ) → nat_le never s ≡ false → (phase_of s == 0) ≡ true
      → step_at net c now pending s ≡ Ok (output_made net c now pending s (output net c now s))
  unfolding step_at
  at_output now pending s e d = rw (e, d) refl

  at_transition : (now : Moment S) (pending : List Message) (s : ℕ) → nat_le never s ≡ false → (phase_of s == 0) ≡ false
      → step_at net c now pending s ≡ if_moved (transition_made now pending s) (transition net c now s (items_of (front s pending)))
  unfolding step_at
  at_transition now pending s e d = rw (e, d) refl

  same_transition : (now : Moment S) (pending other : List Message) (s : ℕ) → s < first_stamp other → nat_le never s ≡ false
      → (phase_of s == 0) ≡ false → (r : Result (Move S) Limit) → transition net c now s (items_of (front s pending)) ≡ r
      → IfOk (if_moved (transition_made now pending s) r) (Same now s other)
  same_transition now pending other s l e d (Ok move) is =
      let f = front_again s pending other l in
      record {
        again = transition_made now (front s pending ++ other) s move;
        is = at_transition now (front s pending ++ other) s e d ∙ ap (λ ms. if_moved (transition_made now (front s pending ++ other) s) (transition net c now s (items_of ms))) f ∙ ap (if_moved (transition_made now (front s pending ++ other) s)) is;
        step = λ i. record { entry = move.entry; before = now; consumed = f i; sent = [] };
        after = refl;
        left = behind_again s pending other l;
      }
  same_transition now pending other s l e d (Err limit) is = tt

  step_at_same : (now : Moment S) (pending other : List Message) (s : ℕ) → s < first_stamp other
      → IfOk (step_at net c now pending s) (Same now s other)
  unfolding step_at
  step_at_same now pending other s l =
      IfOk-cond (Same now s other) (nat_le never s) _ _
      (λ e. tt)
      (λ e. IfOk-cond (Same now s other) (phase_of s == 0) _ _
      (λ d. record { again = output_made net c now other s (output net c now s); is = at_output now other s e d; step = refl; after = refl; left = refl })
      (λ d. same_transition now pending other s l e d _ refl))

  local_same : (now : Moment S) (pending other : List Message) (made : Made S) → local_step net c now pending ≡ Ok made
      → next_of now pending < first_stamp made.left → next_of now pending < first_stamp other
      → (again : Made S) × (local_step net c now (made.step.consumed ++ other) ≡ Ok again) × (again.step ≡ made.step) × (again.after ≡ made.after) × (again.left ≡ other)
  unfolding local_step
  local_same now pending other made e h l =
      let same = IfOk-at_ok (Same now (next_of now pending) other) e (step_at_same now pending other (next_of now pending) l) in
      let f = local_step_follows net c now pending made e in
      let back = ap (next_of now) (sym f.messages) in
      let next = next_other now made.step.consumed made.left other (omega (arith, back, h)) (omega (arith, back, l)) ∙ sym back in
      (same.again, ap (λ s. step_at net c now (made.step.consumed ++ other) s) next ∙ same.is, same.step, same.after, same.left)

  -- ---- runs

  pub leads_start : (from : Moment S) (all : List Message) (steps : List (Step S)) (now : Moment S) (pending : List Message)
      → Leads net c from all steps now pending → (before_all steps now ≡ from) × (consumed_by steps ++ pending ≡ all)
  leads_start from all [] now pending h = (sym h.0, sym h.1)
  leads_start from all (x ∷ steps) now pending h =
      let f = local_step_follows net c from all h.0 h.1 in
      let rest = leads_start h.0.after h.0.left steps now pending h.3 in (
        ap (λ step. step.before) (sym h.2) ∙ f.before,
        append_assoc x.consumed (consumed_by steps) pending ∙ ap (λ l. x.consumed ++ l) rest.1 ∙ ap (λ step. step.consumed ++ h.0.left) (sym h.2) ∙ f.messages,
      )

  pub leads_split : (from : Moment S) (all : List Message) (xs ys : List (Step S)) (now : Moment S) (pending : List Message)
      → Leads net c from all (xs ++ ys) now pending
      → Leads net c from all xs (before_all ys now) (consumed_by ys ++ pending) × Leads net c (before_all ys now) (consumed_by ys ++ pending) ys now pending
  leads_split from all [] ys now pending h =
      let start = leads_start from all ys now pending h in
      ((sym start.0, sym start.1), subst₂ (λ x y. Leads net c x y ys now pending) (sym start.0) (sym start.1) h)
  leads_split from all (x ∷ xs) ys now pending h =
      let rest = leads_split h.0.after h.0.left xs ys now pending h.3 in
      ((h.0, h.1, h.2, rest.0), rest.1)

  -- what is known of the stamps of a run
  pub record InOrder (from : Moment S) (all : List Message) (steps : List (Step S)) (now : Moment S) (pending : List Message) : Type 0 where
    pub past : AllBefore (next_of now pending) steps
    pub not_earlier : next_of from all ≤ next_of now pending
    pub ascending : Ascending pending

  -- each message to come is of phase 1
  abbrev pub AllOdd : List Message → Type 0
  AllOdd ms = Each (λ m. phase_of m.stamp ≡ 1) ms

  first_odd : (ms : List Message) → AllOdd ms → phase_of (first_stamp ms) ≡ 1
  first_odd [] h = refl
  first_odd (m ∷ ms) h = h.0

  -- one step of a run, from messages that are in order and of phase 1
  pub record StepInOrder (from : Moment S) (all : List Message) (made : Made S) : Type 0 where
    pub follows : Follows from all (next_of from all) made
    pub ascending : Ascending made.left
    pub strict : next_of from all < first_stamp made.left
    pub odd : AllOdd made.left

  pub step_in_order : (from : Moment S) (all : List Message) (made : Made S) → local_step net c from all ≡ Ok made → Ascending all → AllOdd all
      → StepInOrder from all made
  step_in_order from all made e up odd =
      let f = local_step_follows net c from all made e in
      let least : next_of from all ≤ first_stamp all = omega arith in
      record {
        follows = f;
        ascending = (f.ascending up least).0;
        strict = f.strict up least (first_odd all odd);
        odd = (each_parts (λ m. phase_of m.stamp ≡ 1) made.step.consumed made.left (subst AllOdd (sym f.messages) odd)).1;
      }

  pub in_order : (from : Moment S) (all : List Message) (steps : List (Step S)) (now : Moment S) (pending : List Message)
      → Leads net c from all steps now pending → Ascending all → AllOdd all → InOrder from all steps now pending
  in_order from all [] now pending h up odd = record {
    past = tt;
    not_earlier = subst₂ (λ x y. next_of from all ≤ next_of x y) h.0 h.1 (omega arith);
    ascending = subst Ascending h.1 up;
  }
  in_order from all (x ∷ steps) now pending h up odd =
      let one = step_in_order from all h.0 h.1 up odd in
      let rest = in_order h.0.after h.0.left steps now pending h.3 one.ascending one.odd in
      let at : x.entry.stamp ≡ next_of from all = ap (λ step. step.entry.stamp) (sym h.2) ∙ one.follows.stamp_is in
      record {
        past = (omega (arith, at, one.strict, one.follows.later, rest.not_earlier), rest.past);
        not_earlier = omega (arith, one.strict, one.follows.later, rest.not_earlier);
        ascending = rest.ascending;
      }

  -- the same run, with other messages behind those that it consumed
  pub leads_other : (from : Moment S) (all : List Message) (steps : List (Step S)) (now : Moment S) (pending other : List Message)
      → Leads net c from all steps now pending → Ascending all → AllOdd all → AllBefore (first_stamp other) steps
      → Leads net c from (consumed_by steps ++ other) steps now other
  leads_other from all [] now pending other h up odd before = (h.0, refl)
  leads_other from all (x ∷ steps) now pending other h up odd before =
      let one = step_in_order from all h.0 h.1 up odd in
      let at : x.entry.stamp ≡ next_of from all = ap (λ step. step.entry.stamp) (sym h.2) ∙ one.follows.stamp_is in
      let start = (leads_start h.0.after h.0.left steps now pending h.3).1 in
      let l = first_other (next_of from all) (consumed_by steps) pending other (subst (λ ms. next_of from all < first_stamp ms) (sym start) one.strict) (omega (arith, at, before.0)) in
      let same = local_same from all (consumed_by steps ++ other) h.0 h.1 one.strict l in
      let rest = leads_other h.0.after h.0.left steps now pending other h.3 one.ascending one.odd before.1 in (
        same.0,
        ap (local_step net c from) (append_assoc x.consumed (consumed_by steps) other ∙ ap (λ step. step.consumed ++ (consumed_by steps ++ other)) (sym h.2)) ∙ same.1,
        same.2 ∙ h.2,
        subst₂ (λ now' ms. Leads net c now' ms steps now other) (sym same.3) (sym same.4) rest,
      )
