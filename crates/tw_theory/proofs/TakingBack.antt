-- Steps that are taken back.
use Rattle.std.proofs.Common.{◌≡◌, ℕ, ◌-◌, List, [], ◌∷◌, ◌++◌, length, take, drop, Ok, refl, sym, ap, ap₂, ◌∙◌, arith, append_assoc, append-nil, length-append}
use Rattle.std.proofs.lemmas.List.{take_at, drop_at, map-append}
use Rattle.tw_msgs.specs.declared.message.Item.{Item}
use Rattle.tw_msgs.specs.declared.message.Message.{Message}
use Rattle.tw_theory.specs.Bundles.{positive, positives, antis, sent_anew, still_owed}
use Rattle.tw_theory.specs.Contents.{Process, Cancel, Aggressive, Lazy, with_step, with_lists, with_outgoing, undo_last, back_to_first, before_all, consumed_by, sent_by, unsent_by, sent_out, owed_after, outgoing_undone, owed_undone}
use Rattle.tw_theory.specs.Laws.{UndoLaw}
use Rattle.tw_theory.specs.LocalRun.{Step, Made, local_step}
use Rattle.tw_theory.specs.Network.{Network}
use Rattle.tw_theory.specs.Transitions.{Moment}
use Rattle.tw_theory.proofs.Owing.{out-append, after-append}
use Rattle.tw_theory.proofs.Steps.{Follows, local_step_follows}

-- p' is p after these steps
pub record IsAfter {S : Type 0} (p p' : Process S) (steps : List (Step S)) : Type 0 where
  pub history : p'.history ≡ p.history ++ steps
  pub now : before_all steps p'.now ≡ p.now
  pub pending : consumed_by steps ++ p'.pending ≡ p.pending
  pub outgoing : p'.outgoing ≡ p.outgoing ++ positives (sent_out p.cancel p.owed (sent_by steps))
  pub owed : p'.owed ≡ owed_after p.cancel p.owed (sent_by steps)
  pub waiting : p'.waiting ≡ p.waiting
  pub line : p'.line ≡ p.line
  pub cancel : p'.cancel ≡ p.cancel

before_all-push : {S : Type 0} (steps : List (Step S)) (step : Step S) (now : Moment S)
    → before_all (steps ++ step ∷ []) now ≡ before_all steps step.before
before_all-push [] step now = refl
before_all-push (s ∷ steps) step now = refl

pub consumed_by-append : {S : Type 0} (xs ys : List (Step S)) → consumed_by (xs ++ ys) ≡ consumed_by xs ++ consumed_by ys
consumed_by-append [] ys = refl
consumed_by-append (x ∷ xs) ys = rw (consumed_by-append xs ys, append_assoc x.consumed (consumed_by xs) (consumed_by ys)) refl

pub sent_by-append : {S : Type 0} (xs ys : List (Step S)) → sent_by (xs ++ ys) ≡ sent_by xs ++ sent_by ys
sent_by-append [] ys = refl
sent_by-append (x ∷ xs) ys = rw (sent_by-append xs ys, append_assoc x.sent (sent_by xs) (sent_by ys)) refl

sent_by-push : {S : Type 0} (steps : List (Step S)) (step : Step S) → sent_by (steps ++ step ∷ []) ≡ sent_by steps ++ step.sent
sent_by-push steps step = sent_by-append steps (step ∷ []) ∙ ap (λ l. sent_by steps ++ l) (append-nil step.sent)

nothing_out : (k : Cancel) (owed : List Message) → sent_out k owed [] ≡ []
nothing_out Aggressive owed = refl
nothing_out Lazy owed = refl

nothing_after : (k : Cancel) (owed : List Message) → owed_after k owed [] ≡ owed
nothing_after Aggressive owed = refl
nothing_after Lazy owed = refl

pub is_after_none : {S : Type 0} (p : Process S) → IsAfter p p []
is_after_none p = record {
  history = sym (append-nil p.history);
  now = refl;
  pending = refl;
  outgoing = sym (append-nil p.outgoing) ∙ ap (λ l. p.outgoing ++ positives l) (sym (nothing_out p.cancel p.owed));
  owed = sym (nothing_after p.cancel p.owed);
  waiting = refl;
  line = refl;
  cancel = refl;
}

pub is_after_more : {S : Type 0} (p p' : Process S) (steps : List (Step S)) (made : Made S) (s : ℕ) → IsAfter p p' steps
    → Follows p'.now p'.pending s made → IsAfter p (with_step p' made) (steps ++ made.step ∷ [])
is_after_more p p' steps made s a f = record {
  history = ap (λ l. l ++ made.step ∷ []) a.history ∙ append_assoc p.history steps (made.step ∷ []);
  now = before_all-push steps made.step made.after ∙ ap (before_all steps) f.before ∙ a.now;
  pending = rw (consumed_by-append steps (made.step ∷ []), append-nil made.step.consumed, append_assoc (consumed_by steps) made.step.consumed made.left, f.messages) a.pending;
  outgoing =
      let new = sent_out p.cancel p.owed (sent_by steps) in
      let more = sent_out p.cancel (owed_after p.cancel p.owed (sent_by steps)) made.step.sent in
      ap (λ out. out ++ positives (sent_out p'.cancel p'.owed made.step.sent)) a.outgoing
      ∙ ap₂ (λ (k : Cancel) (owed : List Message). (p.outgoing ++ positives new) ++ positives (sent_out k owed made.step.sent)) a.cancel a.owed
      ∙ append_assoc p.outgoing (positives new) (positives more)
      ∙ ap (λ l. p.outgoing ++ l) (sym (map-append positive new more))
      ∙ ap (λ l. p.outgoing ++ positives l) (sym (out-append p.cancel p.owed (sent_by steps) made.step.sent))
      ∙ ap (λ l. p.outgoing ++ positives (sent_out p.cancel p.owed l)) (sym (sent_by-push steps made.step));
  owed =
      ap₂ (λ (k : Cancel) (owed : List Message). owed_after k owed made.step.sent) a.cancel a.owed
      ∙ sym (after-append p.cancel p.owed (sent_by steps) made.step.sent) ∙ ap (owed_after p.cancel p.owed) (sym (sent_by-push steps made.step));
  waiting = a.waiting;
  line = a.line;
  cancel = a.cancel;
}

-- what p is after these steps were made and taken back, if it cancels so
abbrev pub restored_as : {S : Type 0} → Cancel → Process S → List (Step S) → Process S
restored_as k p steps =
    with_lists p (outgoing_undone k (p.outgoing ++ positives (sent_out k p.owed (sent_by steps))) (unsent_by steps)) (owed_undone k (owed_after k p.owed (sent_by steps)) (unsent_by steps))

pub back_to_before : {S : Type 0} (p p' : Process S) (steps : List (Step S)) → IsAfter p p' steps
    → back_to_first (length p.history) p' ≡ restored_as p.cancel p steps
unfolding back_to_first
back_to_before p p' steps a =
    let d = ap (drop (length p.history)) a.history ∙ drop_at p.history steps (length p.history) refl in
    let t = ap (take (length p.history)) a.history ∙ take_at p.history steps (length p.history) refl in
    let now = ap (λ l. before_all l p'.now) d ∙ a.now in
    let pending = ap (λ l. consumed_by l ++ p'.pending) d ∙ a.pending in
    let outgoing = ap (λ l. outgoing_undone p'.cancel p'.outgoing (unsent_by l)) d ∙ ap₂ (λ (l : List Item) (k : Cancel). outgoing_undone k l (unsent_by steps)) a.outgoing a.cancel in
    let owed = ap (λ l. owed_undone p'.cancel p'.owed (unsent_by l)) d ∙ ap₂ (λ (l : List Message) (k : Cancel). owed_undone k l (unsent_by steps)) a.owed a.cancel in
    λ i. record { now = now i; pending = pending i; history = t i; waiting = a.waiting i; outgoing = outgoing i; owed = owed i; line = a.line i; cancel = a.cancel i }

step_undone : {S : Type 0} (net : Network S) (c : ℕ) (p : Process S) (made : Made S) → local_step net c p.now p.pending ≡ Ok made
    → undo_last (with_step p made) ≡ restored_as p.cancel p (made.step ∷ [])
step_undone net c p made e =
    let f = local_step_follows net c p.now p.pending made e in
    let a = is_after_more p p [] made _ (is_after_none p) f in
    let n : length (p.history ++ made.step ∷ []) - 1 ≡ length p.history = omega (arith, length-append p.history (made.step ∷ [])) in
    ap (λ k. back_to_first k (with_step p made)) n ∙ back_to_before p (with_step p made) (made.step ∷ []) a

pub undo_law : {S : Type 0} → UndoLaw S
undo_law {S} = record {
  aggressive = λ net c p made e k.
      step_undone net c p made e ∙ ap (λ x. restored_as x p (made.step ∷ [])) k ∙ ap (λ l. with_outgoing p ((p.outgoing ++ positives l) ++ antis made.step.sent)) (append-nil made.step.sent);
  lazy = λ net c p made e k.
      step_undone net c p made e ∙ ap (λ x. restored_as x p (made.step ∷ [])) k
      ∙ ap (λ l. with_lists p (p.outgoing ++ positives (sent_anew p.owed l)) (still_owed p.owed l ++ made.step.sent)) (append-nil made.step.sent);
}
