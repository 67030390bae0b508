-- What each step of a component by itself does to what is pending and to its next stamp.
use Rattle.std.proofs.Common.{◌≡◌, ℕ, ◌+◌, ◌<◌, ◌≤◌, List, [], ◌∷◌, ◌++◌, Bool, true, false, cond, Option, Some, None, Result, Ok, Err, refl, ap, arith, ◌-◌}
use Rattle.std.specs.Prelude.{nat_le, ◌==◌, IfOk, ◌≢◌}
use Rattle.std.specs.List.{AllByRecursion as Each}
use Rattle.std.proofs.lemmas.Bool.{cond_both, leb-false, eqb-true, eqb-false}
use Rattle.std.proofs.lemmas.Result.{IfOk-at_ok}
use Rattle.tw_atomic.specs.Atomic.{turned}
use Rattle.tw_msgs.specs.Bags.{Bag}
use Rattle.tw_msgs.specs.declared.message.Message.{Message}
use Rattle.tw_msgs.specs.declared.record_kind.RecordKind.{RecordKind}
use Rattle.tw_vtime.specs.Advance.{advanced}
use Rattle.tw_vtime.specs.Stamps.{never, tick_of, phase_of, micro_of, max_tick}
use Rattle.tw_vtime.specs.declared.limits.Limit.{Limit}
use Rattle.tw_theory.specs.Bundles.{first_stamp, front, behind, Ascending}
use Rattle.tw_theory.specs.LocalRun.{Made, next_of, output_made, if_moved, step_at, local_step}
use Rattle.tw_theory.specs.Network.{Network, model_of}
use Rattle.tw_theory.specs.Transitions.{Moment, Move, output, moved, if_within, transition, due_of, turn, kind_of}

-- a step made at s, from now, with these messages pending
pub record Follows {S : Type 0} (now : Moment S) (pending : List Message) (s : ℕ) (made : Made S) : Type 0 where
  pub before : made.step.before ≡ now
  pub messages : made.step.consumed ++ made.left ≡ pending
  pub stamp_is : made.step.entry.stamp ≡ s
  pub later : s < made.after.due
  pub ascending : Ascending pending → s ≤ first_stamp pending → Ascending made.left × (s ≤ first_stamp made.left)
  pub strict : Ascending pending → s ≤ first_stamp pending → phase_of (first_stamp pending) ≡ 1 → s < first_stamp made.left
  pub consumed_at : Each (λ m. m.stamp ≡ s) made.step.consumed
  pub before_never : s < never

joined : (b : Bool) (m : Message) (xs ys ms : List Message) → xs ++ ys ≡ ms → cond b (m ∷ xs) [] ++ cond b ys (m ∷ ms) ≡ m ∷ ms
joined true m xs ys ms e = ap (λ l. m ∷ l) e
joined false m xs ys ms e = refl

pub front-behind : (s : ℕ) (ms : List Message) → front s ms ++ behind s ms ≡ ms
front-behind s [] = refl
front-behind s (m ∷ ms) = joined (m.stamp == s) m (front s ms) (behind s ms) ms (front-behind s ms)

behind_ascending : (s : ℕ) (ms : List Message) → s ≤ never → Ascending ms → s ≤ first_stamp ms
    → Ascending (behind s ms) × (s ≤ first_stamp (behind s ms))
behind_ascending s [] top up le = (tt, top)
behind_ascending s (m ∷ ms) top up le =
    cond_both (m.stamp == s) (behind s ms) (m ∷ ms) (λ l. Ascending l × (s ≤ first_stamp l))
    (λ e. behind_ascending s ms top up.1 (omega (arith, up.0, eqb-true m.stamp s e)))
    (λ e. (up, le))

pub IfOk-cond : {T E : Type 0} (P : T → Type 0) (b : Bool) (x y : Result T E) → (b ≡ true → IfOk x P) → (b ≡ false → IfOk y P) → IfOk (cond b x y) P
IfOk-cond P true x y f g = f refl
IfOk-cond P false x y f g = g refl

pub behind_strict : (s : ℕ) (ms : List Message) → s < never → Ascending ms → s ≤ first_stamp ms → s < first_stamp (behind s ms)
behind_strict s [] top up le = top
behind_strict s (m ∷ ms) top up le =
    cond_both (m.stamp == s) (behind s ms) (m ∷ ms) (λ l. s < first_stamp l)
    (λ e. behind_strict s ms top up.1 (omega (arith, up.0, eqb-true m.stamp s e)))
    (λ e. let d : m.stamp ≢ s = eqb-false m.stamp s e in omega arith)

pub front_at : (s : ℕ) (ms : List Message) → Each (λ m. m.stamp ≡ s) (front s ms)
front_at s [] = tt
front_at s (m ∷ ms) = cond_both (m.stamp == s) (m ∷ front s ms) [] (Each (λ m. m.stamp ≡ s)) (λ e. (eqb-true m.stamp s e, front_at s ms)) (λ e. tt)

advance_later : (s : ℕ) (ta : Option ℕ) (limit : ℕ) → s < never → IfOk (advanced s ta limit) (λ due. s < due_of due)
advance_later s None limit l = l
advance_later s (Some d) limit l =
    IfOk-cond (λ due. s < due_of due) (d == 0) _ _
    (λ e. IfOk-cond (λ due. s < due_of due) (nat_le (micro_of s + 1) limit) _ _ (λ k. omega arith) (λ k. tt))
    (λ e. IfOk-cond (λ due. s < due_of due) (nat_le (tick_of s + d) max_tick) _ _ (λ k. let n : d ≢ 0 = eqb-false d 0 e in omega arith) (λ k. tt))

abbrev Moves : {S : Type 0} → ℕ → Move S → Type 0
Moves s move = (move.entry.stamp ≡ s) × (s < move.after.due)

within : {S : Type 0} (r : Result (Option ℕ) Limit) (move : ℕ → Move S) (P : Move S → Type 0) (Q : ℕ → Type 0) → IfOk r (λ due. Q (due_of due))
    → ((due : ℕ) → Q due → P (move due)) → IfOk (if_within move r) P
within (Ok due) move P Q q f = f (due_of due) q
within (Err limit) move P Q q f = tt

if_moved_follows : {S : Type 0} (made : Move S → Made S) (r : Result (Move S) Limit) (P : Move S → Type 0) (Q : Made S → Type 0) → IfOk r P
    → ((move : Move S) → P move → Q (made move)) → IfOk (if_moved made r) Q
if_moved_follows made (Ok move) P Q p f = f move p
if_moved_follows made (Err limit) P Q p f = tt

module _ {S : Type 0} (net : Network S) (c : ℕ) where
  output_follows : (now : Moment S) (pending : List Message) (s : ℕ) → s < never → phase_of s ≡ 0
      → Follows now pending s (output_made net c now pending s (output net c now s))
  unfolding output
  output_follows now pending s top even = record {
    before = refl;
    messages = refl;
    stamp_is = refl;
    later = omega arith;
    ascending = λ up le. (up, le);
    strict = λ up le odd. omega arith;
    consumed_at = tt;
    before_never = top;
  }

  moved_moves : (s : ℕ) (kind : RecordKind) (bag : Bag) (state : S) (due : ℕ) → s < due → Moves s (moved net c s kind bag state due)
  unfolding moved
  moved_moves s kind bag state due l = (refl, l)

  transition_moves : (now : Moment S) (s : ℕ) (bag : Bag) → s < never → IfOk (transition net c now s bag) (Moves s)
  unfolding transition
  transition_moves now s bag top =
      let model = model_of net c now.state in
      let taken = turn (now.due == s) bag in
      let state = turned model taken now.state (tick_of s - tick_of now.last) bag in
      within (advanced s (model.ta state) net.micro_limit) (moved net c s (kind_of taken) bag state) (Moves s) (λ due. s < due)
      (advance_later s (model.ta state) net.micro_limit top) (λ due l. moved_moves s (kind_of taken) bag state due l)

  step_at_follows : (now : Moment S) (pending : List Message) (s : ℕ) → IfOk (step_at net c now pending s) (Follows now pending s)
  unfolding step_at
  step_at_follows now pending s =
      IfOk-cond (Follows now pending s) (nat_le never s) _ _
      (λ e. tt)
      (λ e. IfOk-cond (Follows now pending s) (phase_of s == 0) _ _
      (λ d. output_follows now pending s (leb-false never s e) (eqb-true (phase_of s) 0 d))
      (λ d. if_moved_follows _ _ (Moves s) (Follows now pending s) (transition_moves now s _ (leb-false never s e))
      (λ move m. record {
        before = refl;
        messages = front-behind s pending;
        stamp_is = m.0;
        later = m.1;
        ascending = λ up le. behind_ascending s pending (omega (arith, leb-false never s e)) up le;
        strict = λ up le odd. behind_strict s pending (leb-false never s e) up le;
        consumed_at = front_at s pending;
        before_never = leb-false never s e;
      })))

  pub local_step_follows : (now : Moment S) (pending : List Message) (made : Made S) → local_step net c now pending ≡ Ok made
      → Follows now pending (next_of now pending) made
  unfolding local_step
  local_step_follows now pending made e = IfOk-at_ok (Follows now pending (next_of now pending)) e (step_at_follows now pending (next_of now pending))
