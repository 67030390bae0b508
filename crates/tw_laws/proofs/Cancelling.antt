-- How an executive cancels stays as it began.
use Rattle.std.proofs.Common.{◌≡◌, ℕ, zero, suc, ◌-◌, ◌≤◌, min, List, [], ◌∷◌, length, drop, Bool, true, false, cond, not, Option, Some, None, Result, Ok, Err, refl, ap, ◌∙◌, arith}
use Rattle.std.specs.Prelude.{slice_get, slice_set, nat_lt, ◌==◌}
use Rattle.std.specs.List.{AllByRecursion as Each}
use Rattle.std.proofs.lemmas.Bool.{cond_both, ltb-false}
use Rattle.tw_atomic.specs.Atomic.{Meaning}
use Rattle.tw_msgs.specs.Messages.{has}
use Rattle.tw_msgs.specs.declared.message.Item.{Item}
use Rattle.tw_msgs.specs.declared.message.Message.{Message}
use Rattle.tw_msgs.specs.declared.message.Sign.{Sign}
use Rattle.tw_msgs.specs.declared.message.Sign.TheVariants.{Positive, Anti}
use Rattle.tw_vtime.specs.Stamps.{stamp, never, is_overdue}
use Rattle.tw_theory.specs.Bundles.{least_stamp, least_owed, overdue}
use Rattle.tw_theory.specs.Contents.{Process, Cancel, Aggressive, Lazy, next, owed_after, owed_undone, unsent_by, consumed_by, steps_from, with_step, with_outgoing, settled_as, settle, back_to_first, cut, harvested, Received, receive, receive_signed}
use Rattle.tw_theory.specs.Executive.{World, Answer, Action, Post, Deliver, Back, Raise, Harvest, act, act_step, act_post, act_deliver, act_back, act_harvest, if_made, mail_of, least_next, least_mail}
use Rattle.tw_theory.specs.LocalRun.{Made, NoStep}
use Rattle.tw_theory.specs.Marks.{rewind, rewound, any_committed}
use Rattle.tw_theory.specs.Network.{Network}
use Rattle.tw_theory.specs.Soundness.{Cancels, new_processes}
use Rattle.tw_theory.proofs.Elements.{each-get}
use Rattle.tw_laws.specs.Cancelling.{CancelStays, least_own, IsSwept, SweptLeast}

pub each-set : {X : Type 0} (P : X → Type 0) (xs : List X) (c : ℕ) (y : X) → P y → Each P xs → Each P (slice_set xs c y)
each-set P [] c y p h = tt
each-set P (x ∷ xs) zero y p h = (p, h.1)
each-set P (x ∷ xs) (suc c) y p h = (h.0, each-set P xs c y p h.1)

module _ {S : Type 0} (cancel : Cancel) where
  pub stepped : (p : Process S) (made : Made S) → Cancels cancel p → Cancels cancel (with_step p made)
  stepped p made h = record { is = h.is; nothing_owed = λ k. ap (λ c. owed_after c p.owed made.step.sent) (h.is ∙ k) ∙ h.nothing_owed k }

  pub undone : (n : ℕ) (p : Process S) → Cancels cancel p → Cancels cancel (back_to_first n p)
  unfolding back_to_first
  undone n p h = record { is = h.is; nothing_owed = λ k. ap (λ c. owed_undone c p.owed (unsent_by (drop n p.history))) (h.is ∙ k) ∙ h.nothing_owed k }

  pub settled : (p : Process S) → Cancels cancel p → Cancels cancel (settle p)
  settled p h = go p.cancel h.is
    where
      go : (c : Cancel) → c ≡ cancel → Cancels cancel (settled_as c p)
      go Aggressive e = h
      go Lazy e = record { is = h.is; nothing_owed = λ k. let bad : Lazy ≡ Aggressive = e ∙ k in cc }

  pub received : (p : Process S) (sign : Sign) (m : Message) → Cancels cancel p → Cancels cancel (receive_signed p sign m).1
  received p Positive m h =
      cond_both (has m p.waiting) _ _ (λ (r : Received × Process S). Cancels cancel r.1) (λ e. record { is = h.is; nothing_owed = h.nothing_owed })
      (λ e. cond_both (steps_from m.stamp p == 0) _ _ (λ (r : Received × Process S). Cancels cancel r.1) (λ d. record { is = h.is; nothing_owed = h.nothing_owed })
      (λ d. let k = undone _ p h in record { is = k.is; nothing_owed = k.nothing_owed }))
  received p Anti m h =
      cond_both (has m p.pending) _ _ (λ (r : Received × Process S). Cancels cancel r.1) (λ e. record { is = h.is; nothing_owed = h.nothing_owed })
      (λ e. cond_both (has m (consumed_by p.history)) _ _ (λ (r : Received × Process S). Cancels cancel r.1)
      (λ d. let k = undone _ p h in record { is = k.is; nothing_owed = k.nothing_owed })
      (λ d. record { is = h.is; nothing_owed = h.nothing_owed }))

  pub started : (net : Network S) (c : ℕ) (models : List (Meaning S)) → Each (Cancels cancel) (new_processes net cancel c models)
  started net c [] = tt
  started net c (model ∷ models) = (record { is = refl; nothing_owed = λ k. refl }, started net (suc c) models)

  pub rewound_cancels : (ss : List ℕ) (ps : List (Process S)) → Each (Cancels cancel) ps → Each (Cancels cancel) (rewound ss ps)
  rewound_cancels [] ps h = h
  rewound_cancels (s ∷ ss) [] h = tt
  rewound_cancels (s ∷ ss) (p ∷ ps) h = (undone _ p h.0, rewound_cancels ss ps h.1)

  rewind_cancels : (w : World S) (ss : List ℕ) → Each (Cancels cancel) w.processes → Each (Cancels cancel) (rewind w ss).1.processes
  unfolding rewind
  rewind_cancels w ss h =
      cond_both (not (length ss == length w.processes)) _ _ (λ (r : Answer × World S). Each (Cancels cancel) r.1.processes) (λ e. h)
      (λ e. cond_both (any_committed w.gvt ss w.processes w.columns) _ _ (λ (r : Answer × World S). Each (Cancels cancel) r.1.processes) (λ d. h) (λ d. rewound_cancels ss w.processes h))

  module _ (net : Network S) (until : ℕ) (w : World S) (h : Each (Cancels cancel) w.processes) where
    at_place : (c : ℕ) (p : Process S) → slice_get w.processes c ≡ Some p → Cancels cancel p
    at_place c p at = each-get (Cancels cancel) w.processes c p at h

    made_cancels : (c : ℕ) (p : Process S) (r : Result (Made S) NoStep) → slice_get w.processes c ≡ Some p
        → Each (Cancels cancel) (if_made w c p r).1.processes
    made_cancels c p (Ok made) at = each-set (Cancels cancel) w.processes c (with_step p made) (stepped p made (at_place c p at)) h
    made_cancels c p (Err why) at = h

    step_cancels : (c : ℕ) (o : Option (Process S)) → slice_get w.processes c ≡ o → Each (Cancels cancel) (act_step net until w c o).1.processes
    step_cancels c None at = h
    step_cancels c (Some p) at = cond_both (nat_lt (next p) (stamp until 0 0)) _ _ (λ (r : Answer × World S). Each (Cancels cancel) r.1.processes) (λ e. made_cancels c p _ at) (λ e. h)

    post_cancels : (c : ℕ) (o : Option (Process S)) → slice_get w.processes c ≡ o → Each (Cancels cancel) (act_post w c o).1.processes
    post_cancels c None at = h
    post_cancels c (Some p) at = let k = settled p (at_place c p at) in each-set (Cancels cancel) w.processes c (with_outgoing (settle p) []) (record { is = k.is; nothing_owed = k.nothing_owed }) h

    deliver_cancels : (c i : ℕ) (o : Option (Process S)) (x : Option Item) → slice_get w.processes c ≡ o
        → Each (Cancels cancel) (act_deliver w c i o x).1.processes
    deliver_cancels c i None x at = h
    deliver_cancels c i (Some p) None at = h
    deliver_cancels c i (Some p) (Some x) at = each-set (Cancels cancel) w.processes c (receive p x).1 (received p x.sign x.message (at_place c p at)) h

    back_cancels : (c s : ℕ) (o : Option (Process S)) → slice_get w.processes c ≡ o → Each (Cancels cancel) (act_back w c s o).1.processes
    back_cancels c s None at = h
    back_cancels c s (Some p) at =
        cond_both (nat_lt s w.gvt) _ _ (λ (r : Answer × World S). Each (Cancels cancel) r.1.processes) (λ e. h) (λ e. each-set (Cancels cancel) w.processes c (cut s p) (undone _ p (at_place c p at)) h)

    harvest_cancels : (c : ℕ) (o : Option (Process S)) → slice_get w.processes c ≡ o → Each (Cancels cancel) (act_harvest w c o).1.processes
    harvest_cancels c None at = h
    harvest_cancels c (Some p) at = let k = at_place c p at in each-set (Cancels cancel) w.processes c (harvested w.gvt p) (record { is = k.is; nothing_owed = k.nothing_owed }) h

    act_cancels : (action : Action) → Each (Cancels cancel) (act net until w action).1.processes
    unfolding act
    act_cancels (Action.Step c) = step_cancels c (slice_get w.processes c) refl
    act_cancels (Post c) = post_cancels c (slice_get w.processes c) refl
    act_cancels (Deliver c i) = deliver_cancels c i (slice_get w.processes c) (slice_get (mail_of w.mail c) i) refl
    act_cancels (Back c s) = back_cancels c s (slice_get w.processes c) refl
    act_cancels Raise = h
    act_cancels (Harvest c) = harvest_cancels c (slice_get w.processes c) refl

pub cancel_stays : {S : Type 0} → CancelStays S
cancel_stays = record {
  start = λ net cancel. started cancel net 0 net.models;
  act = λ net until cancel w action h. act_cancels cancel net until w h action;
  rewind = λ cancel w ss h. rewind_cancels cancel w ss h;
}

-- ---- the least stamp when all is posted and delivered

owed_later : (s : ℕ) (owed : List Message) → overdue s owed ≡ [] → min s never ≤ least_owed owed
owed_later s [] none = omega arith
owed_later s (m ∷ owed) none = go (is_overdue m.stamp s) refl (λ k. owed_later s owed k) none
  where
    go : (b : Bool) → is_overdue m.stamp s ≡ b → (overdue s owed ≡ [] → min s never ≤ least_owed owed) → cond b (m ∷ overdue s owed) (overdue s owed) ≡ []
        → min s never ≤ least_owed (m ∷ owed)
    go true is rest k = absurd (cc k)
    go false is rest k = let later = ltb-false (m.stamp - 1) s is in omega (arith, later, rest k)

own_top : {S : Type 0} (ps : List (Process S)) → least_own ps ≤ never
own_top [] = omega arith
own_top (p ∷ ps) = let rest = own_top ps in omega arith

mail_top : (mail : List (List Item)) → Each (λ box. box ≡ []) mail → least_mail mail ≡ never
mail_top [] h = refl
mail_top (box ∷ mail) h = let first : least_stamp box ≡ never = ap least_stamp h.0 in omega (arith, first, mail_top mail h.1)

next_own : {S : Type 0} (ps : List (Process S)) → Each IsSwept ps → least_next ps ≡ least_own ps
next_own [] h = refl
next_own (p ∷ ps) h =
    let none : least_stamp p.outgoing ≡ never = ap least_stamp h.0.outgoing in
    let owed = owed_later (next p) p.owed h.0.owed in
    let top = own_top ps in
    omega (arith, none, owed, next_own ps h.1)

pub swept_least : {S : Type 0} → SweptLeast S
swept_least {S} w h mail = let top = own_top w.processes in omega (arith, next_own w.processes h, mail_top w.mail mail)
