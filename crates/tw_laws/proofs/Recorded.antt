-- What a step's record says of the messages that it sent and consumed.
use Rattle.std.proofs.Common.{◌≡◌, ℕ, List, [], ◌∷◌, ◌++◌, Bool, true, false, Result, Ok, Err, refl, sym, ap₂, ◌∙◌, subst, Option}
use Rattle.std.specs.Prelude.{nat_le, ◌==◌, IfOk}
use Rattle.std.specs.List.{AllByRecursion as Each}
use Rattle.std.proofs.lemmas.Result.{IfOk-at_ok}
use Rattle.tw_msgs.specs.Bags.{Bag}
use Rattle.tw_msgs.specs.declared.message.Message.{Message}
use Rattle.tw_msgs.specs.declared.record_kind.RecordKind.TheVariants.{Out, Int, Ext, Con}
use Rattle.tw_vtime.specs.Stamps.{never, phase_of}
use Rattle.tw_vtime.specs.declared.limits.Limit.{Limit}
use Rattle.tw_theory.specs.Balance.{consumed_in, all_consumed}
use Rattle.tw_theory.specs.Bundles.{front, behind, items_of, messages_for}
use Rattle.tw_theory.specs.Contents.{records_of, sent_by, consumed_by}
use Rattle.tw_theory.specs.LocalRun.{Step, Made, next_of, output_made, transition_made, if_moved, step_at, local_step, Leads}
use Rattle.tw_theory.specs.Network.{Network}
use Rattle.tw_theory.specs.Simulator.{sent_in, all_sent}
use Rattle.tw_theory.specs.Transitions.{Moment, Move, turn, output, moved, if_within, transition, kind_of}
use Rattle.tw_theory.proofs.Elements.{each_parts}
use Rattle.tw_theory.proofs.Steps.{IfOk-cond, front-behind, front_at, local_step_follows}

no_output : {X : Type 0} (b : Bool) (bag : Bag) (x y : X) → elim (kind_of (turn b bag)) [ Out ↦ x | Int ↦ y | Ext ↦ y | Con ↦ y ] ≡ y
no_output false bag x y = refl
no_output true [] x y = refl
no_output true (i ∷ is) x y = refl

again : (c s : ℕ) (ms : List Message) → Each (λ m. m.to ≡ c) ms → Each (λ m. m.stamp ≡ s) ms → messages_for c s (items_of ms) ≡ ms
again c s [] h k = refl
again c s (m ∷ ms) h k =
    ap₂ (λ (x : Message) (l : List Message). x ∷ l) (λ i. record { to = sym h.0 i; port = m.port; stamp = sym k.0 i; value = m.value }) (again c s ms h.1 k.1)

module _ {S : Type 0} (net : Network S) (c : ℕ) where
  record IsRecorded (pending : List Message) (made : Made S) : Type 0 where
    sent : made.step.sent ≡ sent_in net made.step.entry
    consumed : Each (λ m. m.to ≡ c) pending → made.step.consumed ≡ consumed_in made.step.entry

  record IsTurn (s : ℕ) (bag : Bag) (move : Move S) : Type 0 where
    sent : sent_in net move.entry ≡ []
    consumed : consumed_in move.entry ≡ messages_for c s bag

  output_recorded : (now : Moment S) (pending : List Message) (s : ℕ) → IsRecorded pending (output_made net c now pending s (output net c now s))
  unfolding output
  output_recorded now pending s = record { sent = refl; consumed = λ h. refl }

  moved_turn : (s : ℕ) (b : Bool) (bag : Bag) (state : S) (r : Result (Option ℕ) Limit)
      → IfOk (if_within (moved net c s (kind_of (turn b bag)) bag state) r) (IsTurn s bag)
  unfolding moved
  moved_turn s b bag state (Ok due) = record { sent = no_output b bag _ []; consumed = no_output b bag [] _ }
  moved_turn s b bag state (Err limit) = tt

  transition_turn : (now : Moment S) (s : ℕ) (bag : Bag) → IfOk (transition net c now s bag) (IsTurn s bag)
  unfolding transition
  transition_turn now s bag = moved_turn s (now.due == s) bag _ _

  turn_recorded : (now : Moment S) (pending : List Message) (s : ℕ) (r : Result (Move S) Limit) → IfOk r (IsTurn s (items_of (front s pending)))
      → IfOk (if_moved (transition_made now pending s) r) (IsRecorded pending)
  turn_recorded now pending s (Ok move) h = record {
    sent = sym h.sent;
    consumed = λ to. sym (h.consumed ∙ again c s (front s pending) (each_parts (λ m. m.to ≡ c) (front s pending) (behind s pending) (subst (Each (λ m. m.to ≡ c)) (sym (front-behind s pending)) to)).0 (front_at s pending));
  }
  turn_recorded now pending s (Err limit) h = tt

  step_at_recorded : (now : Moment S) (pending : List Message) (s : ℕ) → IfOk (step_at net c now pending s) (IsRecorded pending)
  unfolding step_at
  step_at_recorded now pending s =
      IfOk-cond (IsRecorded pending) (nat_le never s) _ _ (λ e. tt)
      (λ e. IfOk-cond (IsRecorded pending) (phase_of s == 0) _ _ (λ d. output_recorded now pending s) (λ d. turn_recorded now pending s _ (transition_turn now s _)))

  local_step_recorded : (now : Moment S) (pending : List Message) (made : Made S) → local_step net c now pending ≡ Ok made → IsRecorded pending made
  unfolding local_step
  local_step_recorded now pending made e = IfOk-at_ok (IsRecorded pending) e (step_at_recorded now pending (next_of now pending))

  -- the records of a run say what it sent and consumed
  pub leads_recorded : (from : Moment S) (all : List Message) (steps : List (Step S)) (now : Moment S) (pending : List Message)
      → Leads net c from all steps now pending → Each (λ m. m.to ≡ c) all
      → (all_sent net (records_of steps) ≡ sent_by steps) × (all_consumed (records_of steps) ≡ consumed_by steps)
  leads_recorded from all [] now pending h to = (refl, refl)
  leads_recorded from all (x ∷ steps) now pending h to =
      let r = local_step_recorded from all h.0 h.1 in
      let f = local_step_follows net c from all h.0 h.1 in
      let left = (each_parts (λ m. m.to ≡ c) h.0.step.consumed h.0.left (subst (Each (λ m. m.to ≡ c)) (sym f.messages) to)).1 in
      let rest = leads_recorded h.0.after h.0.left steps now pending h.3 left in
      let sent = subst (λ step. step.sent ≡ sent_in net step.entry) h.2 r.sent in
      let consumed = subst (λ step. step.consumed ≡ consumed_in step.entry) h.2 (r.consumed to) in
      (ap₂ (λ (a b : List Message). a ++ b) (sym sent) rest.0, ap₂ (λ (a b : List Message). a ++ b) (sym consumed) rest.1)
