-- What is committed stays, and a refused action changes nothing.
use Rattle.std.proofs.Common.{◌≡◌, ℕ, zero, suc, ◌≤◌, List, [], ◌∷◌, ◌++◌, length, not, Option, Some, None, Result, Ok, Err, refl, sym, ap, ◌∙◌, arith, append_assoc, append-nil, length-append}
use Rattle.std.specs.Prelude.{slice_get, slice_set, nat_lt, ◌==◌, Ok, Err}
use Rattle.std.proofs.lemmas.Bool.{cond_both}
use Rattle.tw_msgs.specs.Counting.{total}
use Rattle.tw_msgs.specs.declared.message.Item.{Item}
use Rattle.tw_msgs.specs.declared.record.Record.{Record}
use Rattle.tw_vtime.specs.Stamps.{stamp}
use Rattle.tw_theory.specs.Contents.{Process, next, steps_from, receive, settle}
use Rattle.tw_theory.specs.Executive.{World, Action, Post, Deliver, Back, Raise, Harvest, Answer, Stepped, Posted, Received, Undone, Raised, Harvested, Refusal, act, replay, act_step, act_post, act_deliver, act_back, act_harvest, if_made, mail_of, column_of}
use Rattle.tw_theory.specs.LocalRun.{Made, NoStep, local_step}
use Rattle.tw_theory.specs.Marks.{rewind, any_committed}
use Rattle.tw_theory.specs.Network.{Network}
use Rattle.tw_laws.specs.Committed.{Grow}
use Rattle.tw_laws.specs.Keeping.{RefusedLaw}

pub grow_none : (xs : List (List Record)) → Grow xs xs
grow_none [] = tt
grow_none (x ∷ xs) = (([], sym (append-nil x)), grow_none xs)

grow_set : (xs : List (List Record)) (c : ℕ) (more : List Record) → Grow xs (slice_set xs c (column_of xs c ++ more))
grow_set [] c more = tt
grow_set (x ∷ xs) zero more = ((more, refl), grow_none xs)
grow_set (x ∷ xs) (suc c) more = (([], sym (append-nil x)), grow_set xs c more)

pub grow_both : (xs ys zs : List (List Record)) → Grow xs ys → Grow ys zs → Grow xs zs
grow_both [] [] [] h k = tt
grow_both [] [] (z ∷ zs) h k = absurd k
grow_both [] (y ∷ ys) zs h k = absurd h
grow_both (x ∷ xs) [] zs h k = absurd h
grow_both (x ∷ xs) (y ∷ ys) [] h k = absurd k
grow_both (x ∷ xs) (y ∷ ys) (z ∷ zs) h k =
    let one = h.0.0 in
    let two = k.0.0 in
    ((one ++ two, k.0.1 ∙ ap (λ l. l ++ two) h.0.1 ∙ append_assoc x one two), grow_both xs ys zs h.1 k.1)

pub count_grows : (xs ys : List (List Record)) → Grow xs ys → total length xs ≤ total length ys
count_grows [] [] h = omega arith
count_grows [] (y ∷ ys) h = absurd h
count_grows (x ∷ xs) [] h = absurd h
count_grows (x ∷ xs) (y ∷ ys) h = omega (arith, count_grows xs ys h.1, ap length h.0.1, length-append x h.0.0)

module _ {S : Type 0} (net : Network S) (until : ℕ) (w : World S) where
  abbrev Grown : Answer × World S → Type 0
  Grown r = Grow w.columns r.1.columns

  made_grows : (c : ℕ) (p : Process S) (r : Result (Made S) NoStep) → Grown (if_made w c p r)
  made_grows c p (Ok made) = grow_none w.columns
  made_grows c p (Err why) = grow_none w.columns

  step_grows : (c : ℕ) (o : Option (Process S)) → Grown (act_step net until w c o)
  step_grows c None = grow_none w.columns
  step_grows c (Some p) = cond_both (nat_lt (next p) (stamp until 0 0)) _ _ Grown (λ e. made_grows c p (local_step net c p.now p.pending)) (λ e. grow_none w.columns)

  post_grows : (c : ℕ) (o : Option (Process S)) → Grown (act_post w c o)
  post_grows c None = grow_none w.columns
  post_grows c (Some p) = grow_none w.columns

  deliver_grows : (c i : ℕ) (o : Option (Process S)) (x : Option Item) → Grown (act_deliver w c i o x)
  deliver_grows c i None x = grow_none w.columns
  deliver_grows c i (Some p) None = grow_none w.columns
  deliver_grows c i (Some p) (Some x) = grow_none w.columns

  back_grows : (c s : ℕ) (o : Option (Process S)) → Grown (act_back w c s o)
  back_grows c s None = grow_none w.columns
  back_grows c s (Some p) = cond_both (nat_lt s w.gvt) _ _ Grown (λ e. grow_none w.columns) (λ e. grow_none w.columns)

  harvest_grows : (c : ℕ) (o : Option (Process S)) → Grown (act_harvest w c o)
  harvest_grows c None = grow_none w.columns
  harvest_grows c (Some p) = grow_set w.columns c _

pub act_grows : {S : Type 0} (net : Network S) (until : ℕ) (w : World S) (action : Action) → Grow w.columns (act net until w action).1.columns
unfolding act
act_grows net until w (Action.Step c) = step_grows net until w c (slice_get w.processes c)
act_grows net until w (Post c) = post_grows net until w c (slice_get w.processes c)
act_grows net until w (Deliver c i) = deliver_grows net until w c i (slice_get w.processes c) (slice_get (mail_of w.mail c) i)
act_grows net until w (Back c s) = back_grows net until w c s (slice_get w.processes c)
act_grows net until w Raise = grow_none w.columns
act_grows net until w (Harvest c) = harvest_grows net until w c (slice_get w.processes c)

pub replay_grows : {S : Type 0} (net : Network S) (until : ℕ) (w : World S) (actions : List Action) → Grow w.columns (replay net until w actions).columns
replay_grows net until w [] = grow_none w.columns
replay_grows net until w (a ∷ actions) =
    let next = (act net until w a).1 in
    grow_both w.columns next.columns (replay net until next actions).columns (act_grows net until w a) (replay_grows net until next actions)

-- ---- a rewind leaves gvt and the columns

pub rewind_leaves : {S : Type 0} (w : World S) (ss : List ℕ) → ((rewind w ss).1.gvt ≡ w.gvt) × ((rewind w ss).1.columns ≡ w.columns)
unfolding rewind
rewind_leaves {S} w ss =
    cond_both (not (length ss == length w.processes)) _ _ (λ (r : Answer × World S). (r.1.gvt ≡ w.gvt) × (r.1.columns ≡ w.columns)) (λ e. (refl, refl))
    (λ e. cond_both (any_committed w.gvt ss w.processes w.columns) _ _ (λ (r : Answer × World S). (r.1.gvt ≡ w.gvt) × (r.1.columns ≡ w.columns)) (λ d. (refl, refl)) (λ d. (refl, refl)))

-- ---- what is refused

module _ {S : Type 0} (net : Network S) (until : ℕ) (w : World S) (why : Refusal) where
  abbrev Left : Answer × World S → Type 0
  Left r = r.0 ≡ Err why → r.1 ≡ w

  made_left : (c : ℕ) (p : Process S) (r : Result (Made S) NoStep) → Left (if_made w c p r)
  made_left c p (Ok made) e = absurd (let bad : Ok (Stepped made.step.entry.stamp made.step.entry.kind) ≡ Err why = e in cc)
  made_left c p (Err reason) e = refl

  step_left : (c : ℕ) (o : Option (Process S)) → Left (act_step net until w c o)
  step_left c None e = refl
  step_left c (Some p) e = cond_both (nat_lt (next p) (stamp until 0 0)) _ _ Left (λ t. made_left c p (local_step net c p.now p.pending)) (λ t k. refl) e

  post_left : (c : ℕ) (o : Option (Process S)) → Left (act_post w c o)
  post_left c None e = refl
  post_left c (Some p) e = absurd (let bad : Ok (Posted (length (settle p).outgoing)) ≡ Err why = e in cc)

  deliver_left : (c i : ℕ) (o : Option (Process S)) (x : Option Item) → Left (act_deliver w c i o x)
  deliver_left c i None x e = refl
  deliver_left c i (Some p) None e = refl
  deliver_left c i (Some p) (Some x) e = absurd (let bad : Ok (Received (receive p x).0) ≡ Err why = e in cc)

  back_left : (c s : ℕ) (o : Option (Process S)) → Left (act_back w c s o)
  back_left c s None e = refl
  back_left c s (Some p) e = cond_both (nat_lt s w.gvt) _ _ Left (λ t k. refl) (λ t k. absurd (let bad : Ok (Undone (steps_from s p)) ≡ Err why = k in cc)) e

  harvest_left : (c : ℕ) (o : Option (Process S)) → Left (act_harvest w c o)
  harvest_left c None e = refl
  harvest_left c (Some p) e = absurd (never_refused _ e)
    where
      never_refused : (n : ℕ) → Ok (Harvested n) ≡ Err why → ⊥
      never_refused n bad = cc

  act_left : (action : Action) → Left (act net until w action)
  unfolding act
  act_left (Action.Step c) e = step_left c (slice_get w.processes c) e
  act_left (Post c) e = post_left c (slice_get w.processes c) e
  act_left (Deliver c i) e = deliver_left c i (slice_get w.processes c) (slice_get (mail_of w.mail c) i) e
  act_left (Back c s) e = back_left c s (slice_get w.processes c) e
  act_left Raise e = absurd (never_refused _ e)
    where
      never_refused : (n : ℕ) → Ok (Raised n) ≡ Err why → ⊥
      never_refused n bad = cc
  act_left (Harvest c) e = harvest_left c (slice_get w.processes c) e

rewind_left : {S : Type 0} (w : World S) (ss : List ℕ) (why : Refusal) → (rewind w ss).0 ≡ Err why → (rewind w ss).1 ≡ w
unfolding rewind
rewind_left {S} w ss why =
    cond_both (not (length ss == length w.processes)) _ _ (λ (r : Answer × World S). r.0 ≡ Err why → r.1 ≡ w) (λ t e. refl)
    (λ t. cond_both (any_committed w.gvt ss w.processes w.columns) _ _ (λ (r : Answer × World S). r.0 ≡ Err why → r.1 ≡ w) (λ d e. refl) (λ d e. absurd (never_refused _ e)))
  where
    never_refused : (n : ℕ) → Ok (Undone n) ≡ Err why → ⊥
    never_refused n bad = cc

pub refused_law : {S : Type 0} → RefusedLaw S
refused_law = record { act = λ net until w action why e. act_left net until w why action e; rewind = rewind_left }
