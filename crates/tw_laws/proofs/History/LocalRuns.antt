-- The steps that one component makes by itself are its run by the clock.
use Rattle.std.proofs.Common.{◌≡◌, ℕ, zero, suc, ◌+◌, ◌-◌, ◌<◌, ◌≤◌, ◌⊎◌, ◌&&◌, ◌||◌, ◌==◌, nat_lt, nat_le, true, false, List, [], ◌∷◌, ◌++◌, take, drop, refl, sym, ap, ◌∙◌, subst, inl, inr, ⊎_elim, arith, Bool, eq-eqb, eqb-true, lt-ltb, le-ltb, ne_eqb, ltb-true, le-leb, int_lt, int_eq, if◌then◌else◌, Option, Some, None, Result, Ok, Err, append_assoc, append-nil, cond}
use Rattle.std.proofs.lemmas.Bool.{eqb-false, and_from, and_right, and_parts, or_cases, cases_Bool, cases_lt, cases_eq, cond-true, cond-false, cond_both, lt-leb}
use Rattle.std.proofs.lemmas.Bool.Decides.{Decides-int_eq}
use Rattle.std.proofs.lemmas.Int.{ints}
use Rattle.std.specs.Prelude.{◌≢◌}
use Rattle.tw_atomic.specs.Atomic.{turned}
use Rattle.tw_msgs.specs.Bags.{Bag, by_port, sorted_bag, insert_item}
use Rattle.tw_msgs.specs.Messages.{at_or_before, IsBeforeFirst}
use Rattle.tw_msgs.specs.declared.message.Message.{Message}
use Rattle.tw_msgs.specs.declared.record.Record.{Record}
use Rattle.tw_vtime.specs.Advance.{advanced, next_microstep, later_tick}
use Rattle.tw_vtime.specs.Stamps.{never, stamp, tick_of, micro_of, phase_of, max_tick}
use Rattle.tw_vtime.specs.declared.limits.Limit.{Limit}
use Rattle.tw_vtime.specs.declared.limits.Limit.TheVariants.{Microstep, Tick}
use Rattle.tw_theory.specs.Bundles.{items_of, first_stamp, front, behind}
use Rattle.tw_theory.specs.Contents.{before_all, steps_before, records_of, sent_by}
use Rattle.tw_theory.specs.LocalRun.{Step, Made, NothingDue, output_made, if_moved, transition_made, next_of, step_at, local_step, Leads, NoStep}
use Rattle.tw_theory.specs.Network.{Network, model_of}
use Rattle.tw_theory.specs.Simulator.{Stays, Moves, turn_of_result, take_turn, sent_in, all_sent}
use Rattle.tw_theory.specs.Transitions.{Moment, Move, output, moved, if_within, transition, turn, due_of, kind_of}
use Rattle.tw_msgs.proofs.Messages.{stamps_rise}
use Rattle.tw_laws.specs.History.{AreInputs}
use Rattle.tw_laws.proofs.History.Bags.{Past, past, insert_front}
use Rattle.tw_laws.proofs.History.Clock.{arrived, bag_of, act, act_if, place_after, moment_after, record_after, NoLimit, alone, alone_step, AllFrom}
use Rattle.tw_laws.proofs.History.GoingOn.{from_weaken}

-- ---- messages in order

ports_in_order : (m n : Message) → at_or_before m n ≡ true → m.stamp ≡ n.stamp → by_port (m.port, m.value) (n.port, n.value) ≡ true
ports_in_order m n e same =
    ⊎_elim (λ t. t) (λ f. absurd (wrong (past (m.port, m.value) (n.port, n.value) f))) (cases_Bool (by_port (m.port, m.value) (n.port, n.value)))
  where
    rest : ⊥ ⊎ (((nat_lt m.port n.port || (m.port == n.port) && (int_lt m.value n.value || int_eq m.value n.value && nat_le m.to n.to)) ≡ true))
    rest =
        ⊎_elim
        (λ a. let l = ltb-true m.stamp n.stamp a in inl (omega (arith, l, same)))
        (λ a. inr (and_parts (m.stamp == n.stamp) _ a).1)
        (or_cases (nat_lt m.stamp n.stamp) _ e)

    wrong : Past (m.port, m.value) (n.port, n.value) → ⊥
    wrong p =
        ⊎_elim (λ a. a)
        (λ a.
        ⊎_elim
        (λ b. let l = ltb-true m.port n.port b in omega (arith, ints, p, l))
        (λ b.
        let q = and_parts (m.port == n.port) _ b in
        let port = eqb-true m.port n.port q.0 in
        ⊎_elim
        (λ d. omega (arith, ints, p, port, d))
        (λ d. let v = (Decides-int_eq m.value n.value).0 (and_parts (int_eq m.value n.value) _ d).0 in omega (arith, ints, p, port, v))
        (or_cases (int_lt m.value n.value) _ q.1))
        (or_cases (nat_lt m.port n.port) _ a))
        rest

-- those behind m are at or after any stamp that m is
rest_from : (s : ℕ) (m : Message) (ms : List Message) → IsBeforeFirst m ms → s ≤ m.stamp → s ≤ never → s ≤ first_stamp ms
rest_from s m [] b l n = n
rest_from s m (k ∷ ks) b l n = let f = stamps_rise m k b in omega (arith, f, l)

arrived_skip : (c s : ℕ) (m : Message) (ms : List Message) → (s ≡ m.stamp → ⊥) → arrived c s (m ∷ ms) ≡ arrived c s ms
unfolding arrived
arrived_skip c s m ms h = cond-false ((c == m.to) && (s == m.stamp)) _ _ (and_right (c == m.to) _ (ne_eqb s m.stamp h))

arrived_take : (c s : ℕ) (m : Message) (ms : List Message) → m.to ≡ c → m.stamp ≡ s → arrived c s (m ∷ ms) ≡ m ∷ arrived c s ms
unfolding arrived
arrived_take c s m ms p q = cond-true ((c == m.to) && (s == m.stamp)) _ _ (and_from (c == m.to) _ (eq-eqb c m.to (sym p)) (eq-eqb s m.stamp (sym q)))

-- none at a stamp before the first
arrived_none : (c s : ℕ) (ms : List Message) → AreInputs c ms → s < first_stamp ms → s < never → arrived c s ms ≡ []
unfolding arrived
arrived_none c s [] a l n = refl
arrived_none c s (m ∷ ms) a l n =
    let r : suc s ≤ first_stamp ms = rest_from (suc s) m ms a.2 l n in
    arrived_skip c s m ms (λ e. omega (arith, e, l)) ∙ arrived_none c s ms a.3 r n

front_skip : (s : ℕ) (m : Message) (ms : List Message) → (m.stamp ≡ s → ⊥) → front s (m ∷ ms) ≡ []
front_skip s m ms h = cond-false (m.stamp == s) _ _ (ne_eqb m.stamp s h)

front_take : (s : ℕ) (m : Message) (ms : List Message) → m.stamp ≡ s → front s (m ∷ ms) ≡ m ∷ front s ms
front_take s m ms e = cond-true (m.stamp == s) _ _ (eq-eqb m.stamp s e)

behind_skip : (s : ℕ) (m : Message) (ms : List Message) → (m.stamp ≡ s → ⊥) → behind s (m ∷ ms) ≡ m ∷ ms
behind_skip s m ms h = cond-false (m.stamp == s) _ _ (ne_eqb m.stamp s h)

behind_take : (s : ℕ) (m : Message) (ms : List Message) → m.stamp ≡ s → behind s (m ∷ ms) ≡ behind s ms
behind_take s m ms e = cond-true (m.stamp == s) _ _ (eq-eqb m.stamp s e)

-- those at the front are all of that stamp
pub arrived_front : (c s : ℕ) (ms : List Message) → AreInputs c ms → s ≤ first_stamp ms → s < never → arrived c s ms ≡ front s ms
unfolding arrived
arrived_front c s [] a l n = refl
arrived_front c s (m ∷ ms) a l n =
    let r : s ≤ first_stamp ms = rest_from s m ms a.2 l (omega (arith, n)) in
    let ih = arrived_front c s ms a.3 r n in
    ⊎_elim (λ e. here e ih) (λ h. arrived_none c s (m ∷ ms) a (omega (arith, h, l)) n ∙ sym (front_skip s m ms h)) (cases_eq m.stamp s)
  where
    here : m.stamp ≡ s → arrived c s ms ≡ front s ms → arrived c s (m ∷ ms) ≡ front s (m ∷ ms)
    here e ih = arrived_take c s m ms a.0 e ∙ ap (λ x. m ∷ x) ih ∙ sym (front_take s m ms e)

-- they make a sorted bag
abbrev Inserted : Message → List Message → Type 0
Inserted m l = insert_item (m.port, m.value) (items_of l) ≡ (m.port, m.value) ∷ items_of l

front_insert : (c s : ℕ) (m : Message) (ms : List Message) → IsBeforeFirst m ms → m.stamp ≡ s
    → insert_item (m.port, m.value) (items_of (front s ms)) ≡ (m.port, m.value) ∷ items_of (front s ms)
front_insert c s m [] b e = refl
front_insert c s m (n ∷ ns) b e = ⊎_elim here (λ h. subst (Inserted m) (sym (front_skip s n ns h)) refl) (cases_eq n.stamp s)
  where
    here : n.stamp ≡ s → Inserted m (front s (n ∷ ns))
    here q = subst (Inserted m) (sym (front_take s n ns q)) (insert_front (m.port, m.value) (n.port, n.value) (items_of (front s ns)) (ports_in_order m n b (e ∙ sym q)))

abbrev IsSorted : List Message → Type 0
IsSorted l = sorted_bag (items_of l) ≡ items_of l

pub front_sorted : (c s : ℕ) (ms : List Message) → AreInputs c ms → sorted_bag (items_of (front s ms)) ≡ items_of (front s ms)
front_sorted c s [] a = refl
front_sorted c s (m ∷ ms) a =
    let ih = front_sorted c s ms a.3 in
    ⊎_elim (λ e. here e ih) (λ h. subst IsSorted (sym (front_skip s m ms h)) refl) (cases_eq m.stamp s)
  where
    here : m.stamp ≡ s → IsSorted (front s ms) → IsSorted (front s (m ∷ ms))
    here e ih = subst IsSorted (sym (front_take s m ms e)) (ap (insert_item (m.port, m.value)) ih ∙ front_insert c s m ms a.2 e)

-- what is left behind them
behind_inputs : (c s : ℕ) (ms : List Message) → AreInputs c ms → AreInputs c (behind s ms)
behind_inputs c s [] a = a
behind_inputs c s (m ∷ ms) a =
    let ih = behind_inputs c s ms a.3 in
    ⊎_elim (λ e. subst (AreInputs c) (sym (behind_take s m ms e)) ih) (λ h. subst (AreInputs c) (sym (behind_skip s m ms h)) a) (cases_eq m.stamp s)

behind_first : (c s : ℕ) (ms : List Message) → AreInputs c ms → s ≤ first_stamp ms → s < never → s < first_stamp (behind s ms)
behind_first c s [] a l n = n
behind_first c s (m ∷ ms) a l n =
    let r : s ≤ first_stamp ms = rest_from s m ms a.2 l (omega (arith, n)) in
    let ih = behind_first c s ms a.3 r n in
    ⊎_elim (λ e. subst (λ x. s < first_stamp x) (sym (behind_take s m ms e)) ih)
    (λ h. let o : s < m.stamp = omega (arith, h, l) in subst (λ x. s < first_stamp x) (sym (behind_skip s m ms h)) o)
    (cases_eq m.stamp s)

behind_arrived : (c s r : ℕ) (ms : List Message) → (r ≡ s → ⊥) → arrived c r (behind s ms) ≡ arrived c r ms
unfolding arrived
behind_arrived c s r [] h = refl
behind_arrived c s r (m ∷ ms) h =
    let ih = behind_arrived c s r ms h in
    ⊎_elim (λ e. ap (arrived c r) (behind_take s m ms e) ∙ ih ∙ sym (arrived_skip c r m ms (λ q. h (q ∙ e)))) (λ k. ap (arrived c r) (behind_skip s m ms k)) (cases_eq m.stamp s)

first_phase : (c : ℕ) (ms : List Message) → AreInputs c ms → (first_stamp ms ≡ never) ⊎ (phase_of (first_stamp ms) ≡ 1)
first_phase c [] a = inl refl
first_phase c (m ∷ ms) a = inr a.1

-- ---- between steps nothing happens

pub act_idle : {S : Type 0} (net : Network S) (c s : ℕ) (now : Moment S) → (now.due ≡ s → ⊥) → act net c s [] now ≡ Stays
unfolding act
act_idle net c s now h =
    let e : (now.due == s) ≡ false = ne_eqb now.due s h in
    cond_both (phase_of s == 0) _ _ (λ t. t ≡ Stays) (λ _. cond-false (now.due == s) _ _ e) (λ _. ap (λ b. take_turn net c now s b []) e)

-- where a component stands at s, on what it hears
pub record Ahead {S : Type 0} (c : ℕ) (heard : List Message) (s : ℕ) (now : Moment S) (pending : List Message) : Type 0 where
  pub due : s ≤ now.due
  pub first : s ≤ first_stamp pending
  pub are : AreInputs c pending
  pub same : (r : ℕ) → s ≤ r → bag_of c r heard ≡ bag_of c r pending

pub bag_idle : {S : Type 0} (c : ℕ) (heard : List Message) (s : ℕ) (now : Moment S) (pending : List Message) → Ahead c heard s now pending
    → s < first_stamp pending → s < never → bag_of c s heard ≡ []
bag_idle c heard s now pending a l n = a.same s (omega arith) ∙ ap (λ x. sorted_bag (items_of x)) (arrived_none c s pending a.are l n)

-- the local run by the clock has come to this place
pub record Come {S : Type 0} (net : Network S) (c : ℕ) (heard : List Message) (p : Option (Moment S)) (line i : ℕ) (now : Moment S) (made : List Record) : Type 0 where
  pub place : (alone net c heard p line i).place ≡ Some now
  pub records : (alone net c heard p line i).records ≡ made
  pub quiet : (j : ℕ) → j < i → NoLimit (alone_step net c heard (line + j) (alone net c heard p line j))

quiet_more : {S : Type 0} (net : Network S) (c : ℕ) (heard : List Message) (p : Option (Moment S)) (line i : ℕ)
    → ((j : ℕ) → j < i → NoLimit (alone_step net c heard (line + j) (alone net c heard p line j)))
    → NoLimit (alone_step net c heard (line + i) (alone net c heard p line i)) → (j : ℕ) → j < suc i
    → NoLimit (alone_step net c heard (line + j) (alone net c heard p line j))
quiet_more net c heard p line i q here j l =
    ⊎_elim (λ e. subst (λ n. NoLimit (alone_step net c heard (line + n) (alone net c heard p line n))) (sym e) here) (λ h. q j (omega (arith, h, l))) (cases_eq j i)

come_stays : {S : Type 0} (net : Network S) (c : ℕ) (heard : List Message) (p : Option (Moment S)) (line i : ℕ) (now : Moment S) (made : List Record)
    → Come net c heard p line i now made → act net c (line + i) (bag_of c (line + i) heard) now ≡ Stays → Come net c heard p line (suc i) now made
unfolding alone act_if place_after moment_after record_after NoLimit
come_stays net c heard p line i now made come e =
    let step : alone_step net c heard (line + i) (alone net c heard p line i) ≡ Stays = ap (act_if net c (line + i) (bag_of c (line + i) heard)) come.place ∙ e in
    record {
      place = ap (λ q. place_after q (alone_step net c heard (line + i) (alone net c heard p line i))) come.place ∙ ap (λ t. place_after (Some now) t) step;
      records = ap (λ t. (alone net c heard p line i).records ++ record_after t) step ∙ append-nil (alone net c heard p line i).records ∙ come.records;
      quiet = quiet_more net c heard p line i come.quiet (subst NoLimit (sym step) tt);
    }

come_moves : {S : Type 0} (net : Network S) (c : ℕ) (heard : List Message) (p : Option (Moment S)) (line i : ℕ) (now : Moment S) (made : List Record) (move : Move S)
    → Come net c heard p line i now made → act net c (line + i) (bag_of c (line + i) heard) now ≡ Moves move
    → Come net c heard p line (suc i) move.after (made ++ move.entry ∷ [])
unfolding alone act_if place_after moment_after record_after NoLimit
come_moves net c heard p line i now made move come e =
    let step : alone_step net c heard (line + i) (alone net c heard p line i) ≡ Moves move = ap (act_if net c (line + i) (bag_of c (line + i) heard)) come.place ∙ e in
    record {
      place = ap (λ q. place_after q (alone_step net c heard (line + i) (alone net c heard p line i))) come.place ∙ ap (λ t. place_after (Some now) t) step;
      records = ap (λ t. (alone net c heard p line i).records ++ record_after t) step ∙ ap (λ l. l ++ move.entry ∷ []) come.records;
      quiet = quiet_more net c heard p line i come.quiet (subst NoLimit (sym step) tt);
    }

pub ahead_more : {S : Type 0} (c : ℕ) (heard : List Message) (s t : ℕ) (now : Moment S) (pending : List Message) → Ahead c heard s now pending → s ≤ t
    → t ≤ next_of now pending → Ahead c heard t now pending
ahead_more c heard s t now pending a l m = record { due = omega (arith, m); first = omega (arith, m); are = a.are; same = λ r h. a.same r (omega (arith, l, h)) }

-- up to the next step
come_idle : {S : Type 0} (net : Network S) (c : ℕ) (heard : List Message) (p : Option (Moment S)) (line i : ℕ) (now : Moment S) (pending : List Message) (made : List Record)
    → Come net c heard p line i now made → Ahead c heard (line + i) now pending → (j : ℕ) → line + (i + j) ≤ next_of now pending
    → line + (i + j) ≤ never → Come net c heard p line (i + j) now made
come_idle net c heard p line i now pending made come ahead zero l n = let e : i ≡ i + zero = omega arith in subst (λ k. Come net c heard p line k now made) e come
come_idle net c heard p line i now pending made come ahead (suc j) l n =
    let before = come_idle net c heard p line i now pending made come ahead j (omega (arith, l)) (omega (arith, n)) in
    let s : ℕ = line + (i + j) in
    let a = ahead_more c heard (line + i) s now pending ahead (omega arith) (omega (arith, l)) in
    let bag = bag_idle c heard s now pending a (omega (arith, l)) (omega (arith, n)) in
    let still : act net c s (bag_of c s heard) now ≡ Stays = ap (λ b. act net c s b now) bag ∙ act_idle net c s now (λ e. omega (arith, l, e)) in
    let e : suc (i + j) ≡ i + suc j = omega arith in
    subst (λ k. Come net c heard p line k now made) e (come_stays net c heard p line (i + j) now made before still)

-- ---- one step

-- what holds of the next own step after a transition, whichever case gives it
advanced_is : (P : ℕ → Type 0) (s : ℕ) (ta : Option ℕ) (limit : ℕ) (due : Option ℕ)
    → P never → P (stamp (tick_of s) (micro_of s + 1) 0) → ((d : ℕ) → d ≢ 0 → P (stamp (tick_of s + d) 0 0)) → advanced s ta limit ≡ Ok due → P (due_of due)
advanced_is P s None limit due p q r e = let f : None ≡ due = cc e in subst (λ d. P (due_of d)) f p
advanced_is P s (Some d) limit due p q r e = go (d == 0) refl e
  where
    within_limit : (b : Bool) (limit : Limit) (n : ℕ) → P n → cond b (Ok (Some n)) (Err limit) ≡ Ok due → P (due_of due)
    within_limit true limit n p e = let f : Some n ≡ due = cc e in subst (λ d. P (due_of d)) f p
    within_limit false limit n p e = absurd (cc e)

    go : (b : Bool) → (d == 0) ≡ b → cond b (next_microstep (tick_of s) (micro_of s) limit) (later_tick (tick_of s + d)) ≡ Ok due → P (due_of due)
    go true is e = within_limit (nat_le (micro_of s + 1) limit) Microstep _ q e
    go false is e = within_limit (nat_le (tick_of s + d) max_tick) Tick _ (r d (eqb-false d 0 is)) e

advance_later : (s : ℕ) (ta : Option ℕ) (limit : ℕ) (due : Option ℕ) → advanced s ta limit ≡ Ok due → s < never → s < due_of due
advance_later s ta limit due e n = advanced_is (λ d. s < d) s ta limit due n (omega arith) (λ d z. omega arith) e

-- a transition's record and what follows it
pub record IsTransition {S : Type 0} (net : Network S) (s : ℕ) (move : Move S) : Type 0 where
  pub stamp : move.entry.stamp ≡ s
  pub due : s < move.after.due
  pub even : phase_of s ≡ 1 → (phase_of move.after.due ≡ 0) ⊎ (move.after.due ≡ never)
  pub sent : sent_in net move.entry ≡ []

advance_even : (s : ℕ) (ta : Option ℕ) (limit : ℕ) (due : Option ℕ) → advanced s ta limit ≡ Ok due
    → (phase_of (due_of due) ≡ 0) ⊎ (due_of due ≡ never)
advance_even s ta limit due e = advanced_is (λ d. (phase_of d ≡ 0) ⊎ (d ≡ never)) s ta limit due (inr refl) (inl (omega arith)) (λ d z. inl (omega arith)) e

moved_sent : {S : Type 0} (net : Network S) (c s : ℕ) (b : Bool) (bag : Bag) (state : S) (due : ℕ)
    → sent_in net (moved net c s (kind_of (turn b bag)) bag state due).entry ≡ []
unfolding moved
moved_sent net c s true [] state due = refl
moved_sent net c s true (x ∷ xs) state due = refl
moved_sent net c s false bag state due = refl

within_is : {S : Type 0} (net : Network S) (c s : ℕ) (b : Bool) (bag : Bag) (state : S) (ta : Option ℕ) (a : Result (Option ℕ) Limit) (move : Move S)
    → s < never → advanced s ta net.micro_limit ≡ a → if_within (moved net c s (kind_of (turn b bag)) bag state) a ≡ Ok move → IsTransition net s move
unfolding moved
within_is net c s b bag state ta (Err limit) move n e f = absurd (cc f)
within_is net c s b bag state ta (Ok d) move n e f =
    let q : moved net c s (kind_of (turn b bag)) bag state (due_of d) ≡ move = cc f in
    subst (IsTransition net s) q (made (due_of d) (advance_later s ta net.micro_limit d e n) (λ odd. advance_even s ta net.micro_limit d e))
  where
    made : (d : ℕ) → s < d → (phase_of s ≡ 1 → (phase_of d ≡ 0) ⊎ (d ≡ never)) → IsTransition net s (moved net c s (kind_of (turn b bag)) bag state d)
    made d l o = record { stamp = refl; due = l; even = o; sent = moved_sent net c s b bag state d }

pub transition_is : {S : Type 0} (net : Network S) (c s : ℕ) (bag : Bag) (now : Moment S) (move : Move S) → s < never
    → transition net c now s bag ≡ Ok move → IsTransition net s move
unfolding transition
transition_is net c s bag now move n e =
    let model = model_of net c now.state in
    let state = turned model (turn (now.due == s) bag) now.state (tick_of s - tick_of now.last) bag in
    within_is net c s (now.due == s) bag state (model.ta state) (advanced s (model.ta state) net.micro_limit) move n refl e

pub turn_is : {S : Type 0} (net : Network S) (c s : ℕ) (b : Bool) (bag : Bag) (now : Moment S) → (b ≡ false → bag ≡ [] → ⊥)
    → take_turn net c now s b bag ≡ turn_of_result (transition net c now s bag)
turn_is net c s true bag now h = refl
turn_is net c s false [] now h = absurd (h refl refl)
turn_is net c s false (x ∷ xs) now h = refl

-- the step that was made, as the clock makes it
pub record Stepped {S : Type 0} (net : Network S) (c : ℕ) (heard : List Message) (s : ℕ) (now : Moment S) (pending : List Message) (made : Made S) : Type 0 where
  pub move : Move S
  pub acts : act net c s (items_of (front s pending)) now ≡ Moves move
  pub entry : move.entry ≡ made.step.entry
  pub after : move.after ≡ made.after
  pub before : made.step.before ≡ now
  pub sent : made.step.sent ≡ sent_in net made.step.entry
  pub stamp : made.step.entry.stamp ≡ s
  pub ahead : Ahead c heard (suc s) made.after made.left

-- which step it makes is told by its stamp
step_before_never : {S : Type 0} (net : Network S) (c s : ℕ) (now : Moment S) (pending : List Message) (made : Made S)
    → step_at net c now pending s ≡ Ok made → s < never
unfolding step_at
step_before_never net c s now pending made e = ⊎_elim (λ l. l) (λ l. absurd (stuck (sym (cond-true (nat_le never s) _ _ (le-leb never s l)) ∙ e))) (cases_lt s never)
  where
    stuck : Err NothingDue ≡ Ok made → ⊥
    stuck f = cc f

pub front_some : (s : ℕ) (ms : List Message) → s ≡ first_stamp ms → s < never → items_of (front s ms) ≡ [] → ⊥
front_some s [] e n h = omega (arith, e, n)
front_some s (m ∷ ms) e n h = cc (ap items_of (sym (front_take s m ms (sym e))) ∙ h)

output_stepped : {S : Type 0} (net : Network S) (c : ℕ) (heard : List Message) (s : ℕ) (now : Moment S) (pending : List Message) (made : Made S)
    → Ahead c heard s now pending → s ≡ next_of now pending → s < never → phase_of s == 0 ≡ true
    → ◌≡◌ {A = Result (Made S) NoStep} (Ok (output_made net c now pending s (output net c now s))) (Ok made) → Stepped net c heard s now pending made
unfolding output act
output_stepped net c heard s now pending made ahead next n p e =
    let is : output_made net c now pending s (output net c now s) ≡ made = cc e in
    let even = eqb-true (phase_of s) 0 p in
    let first = first_phase c pending ahead.are in
    let due : now.due ≡ s = omega (arith, even, first, next, n) in
    let over : s < first_stamp pending = omega (arith, even, first, next, n, ahead.first) in
    subst (Stepped net c heard s now pending) is
    (record {
      move = output net c now s;
      acts = cond-true (phase_of s == 0) _ _ p ∙ cond-true (now.due == s) _ _ (eq-eqb now.due s due);
      entry = refl;
      after = refl;
      before = refl;
      sent = refl;
      stamp = refl;
      ahead = record { due = omega arith; first = over; are = ahead.are; same = λ r h. ahead.same r (omega (arith, h)) };
    })

transition_stepped : {S : Type 0} (net : Network S) (c : ℕ) (heard : List Message) (s : ℕ) (now : Moment S) (pending : List Message) (made : Made S)
    → Ahead c heard s now pending → s ≡ next_of now pending → s < never → phase_of s == 0 ≡ false → (result : Result (Move S) Limit)
    → transition net c now s (items_of (front s pending)) ≡ result → if_moved (transition_made now pending s) result ≡ Ok made
    → Stepped net c heard s now pending made
unfolding act
transition_stepped net c heard s now pending made ahead next n p (Err limit) t e = absurd (cc e)
transition_stepped net c heard s now pending made ahead next n p (Ok move) t e =
    let is : transition_made now pending s move ≡ made = cc e in
    let facts = transition_is net c s (items_of (front s pending)) now move n t in
    let some : now.due == s ≡ false → items_of (front s pending) ≡ [] → ⊥ =
    λ d. front_some s pending (let k = eqb-false now.due s d in omega (arith, next, k)) n in
    subst (Stepped net c heard s now pending) is
    (record {
      move = move;
      acts = cond-false (phase_of s == 0) _ _ p ∙ turn_is net c s (now.due == s) (items_of (front s pending)) now some ∙ ap turn_of_result t;
      entry = refl;
      after = refl;
      before = refl;
      sent = sym facts.sent;
      stamp = facts.stamp;
      ahead = record {
        due = facts.due;
        first = behind_first c s pending ahead.are ahead.first n;
        are = behind_inputs c s pending ahead.are;
        same = λ r h. ahead.same r (omega (arith, h)) ∙ ap (λ x. sorted_bag (items_of x)) (sym (behind_arrived c s r pending (λ q. omega (arith, q, h))));
      };
    })

-- the step at the next stamp
step_made : {S : Type 0} (net : Network S) (c : ℕ) (heard : List Message) (s : ℕ) (now : Moment S) (pending : List Message) (made : Made S)
    → Ahead c heard s now pending → s ≡ next_of now pending → s < never → step_at net c now pending s ≡ Ok made
    → Stepped net c heard s now pending made
unfolding step_at
step_made net c heard s now pending made ahead next n e = ⊎_elim outputs transits (cases_Bool (phase_of s == 0))
  where
    rest : (if phase_of s == 0 then Ok (output_made net c now pending s (output net c now s)) else if_moved (transition_made now pending s) (transition net c now s (items_of (front s pending)))) ≡ Ok made
    rest = sym (cond-false (nat_le never s) _ _ (lt-leb never s n)) ∙ e

    outputs : phase_of s == 0 ≡ true → Stepped net c heard s now pending made
    outputs p = output_stepped net c heard s now pending made ahead next n p (sym (cond-true (phase_of s == 0) _ _ p) ∙ rest)

    transits : phase_of s == 0 ≡ false → Stepped net c heard s now pending made
    transits p = transition_stepped net c heard s now pending made ahead next n p (transition net c now s (items_of (front s pending))) refl (sym (cond-false (phase_of s == 0) _ _ p) ∙ rest)

-- ---- a run of steps

pub step_taken : {S : Type 0} (net : Network S) (c : ℕ) (heard : List Message) (s : ℕ) (now : Moment S) (pending : List Message) (made : Made S)
    → Ahead c heard s now pending → local_step net c now pending ≡ Ok made
    → Stepped net c heard (next_of now pending) now pending made × (next_of now pending < never)
unfolding local_step
step_taken net c heard s now pending made ahead e =
    let next : s ≤ next_of now pending = let d = ahead.due in let f = ahead.first in omega (arith, d, f) in
    let n = step_before_never net c (next_of now pending) now pending made e in
    (step_made net c heard (next_of now pending) now pending made (ahead_more c heard s (next_of now pending) now pending ahead next (omega arith)) refl n e, n)

pub records_split : {S : Type 0} (n : ℕ) (steps : List (Step S)) → records_of steps ≡ records_of (take n steps) ++ records_of (drop n steps)
records_split zero steps = refl
records_split (suc n) [] = refl
records_split (suc n) (x ∷ xs) = ap (λ l. x.entry ∷ l) (records_split n xs)

steps_before_more : {S : Type 0} (g : ℕ) (step : Step S) (steps : List (Step S)) → step.entry.stamp < g
    → steps_before g (step ∷ steps) ≡ suc (steps_before g steps)
steps_before_more g step steps l = cond-true (nat_lt step.entry.stamp g) _ _ (lt-ltb step.entry.stamp g l)

steps_before_none : {S : Type 0} (g : ℕ) (step : Step S) (steps : List (Step S)) → g ≤ step.entry.stamp → steps_before g (step ∷ steps) ≡ 0
steps_before_none g step steps l = cond-false (nat_lt step.entry.stamp g) _ _ (le-ltb step.entry.stamp g l)

-- what the steps sent, and that they lie ahead
pub record RunFacts {S : Type 0} (net : Network S) (s g : ℕ) (steps : List (Step S)) : Type 0 where
  pub sent : sent_by steps ≡ all_sent net (records_of steps)
  pub from : AllFrom s (records_of steps)
  pub later : AllFrom g (records_of (drop (steps_before g steps) steps))

pub leads_facts : {S : Type 0} (net : Network S) (c : ℕ) (heard : List Message) (g : ℕ) (steps : List (Step S)) (s : ℕ) (now : Moment S) (pending : List Message) (now' : Moment S) (pending' : List Message)
    → Ahead c heard s now pending → Leads net c now pending steps now' pending' → RunFacts net s g steps
leads_facts net c heard g [] s now pending now' pending' ahead leads = record { sent = refl; from = tt; later = tt }
leads_facts {S} net c heard g (step ∷ steps) s now pending now' pending' ahead leads =
    let made = leads.0 in
    let taken = step_taken net c heard s now pending made ahead leads.1 in
    let one = taken.0 in
    let facts = leads_facts net c heard g steps (suc (next_of now pending)) made.after made.left now' pending' one.ahead leads.3 in
    step_facts made step leads.2 (next_of now pending) one (let d = ahead.due in let f = ahead.first in omega (arith, d, f)) facts
  where
    step_facts : (made : Made S) (step : Step S) → made.step ≡ step → (t : ℕ) → Stepped net c heard t now pending made → s ≤ t
        → RunFacts net (suc t) g steps → RunFacts net s g (step ∷ steps)
    step_facts made step e t one l facts =
        let at : step.entry.stamp ≡ t = sym (ap (λ x. x.entry.stamp) e) ∙ one.stamp in
        let sent : step.sent ≡ sent_in net step.entry = sym (ap (λ x. x.sent) e) ∙ one.sent ∙ ap (λ x. sent_in net x.entry) e in
        let from : AllFrom s (records_of (step ∷ steps)) = (omega (arith, at, l), from_weaken (suc t) s (records_of steps) (omega (arith, l)) facts.from) in
        record {
          sent = ap (λ x. x ++ sent_by steps) sent ∙ ap (λ x. sent_in net step.entry ++ x) facts.sent;
          from = from;
          later =
              ⊎_elim
              (λ h. subst (λ n. AllFrom g (records_of (drop n (step ∷ steps)))) (sym (steps_before_more g step steps h)) facts.later)
              (λ h. subst (λ n. AllFrom g (records_of (drop n (step ∷ steps)))) (sym (steps_before_none g step steps h)) (h, from_weaken (suc t) g (records_of steps) (omega (arith, at, h)) facts.from))
              (cases_lt step.entry.stamp g);
        }

-- where the local run by the clock comes to
pub record RunEnds {S : Type 0} (net : Network S) (c : ℕ) (heard : List Message) (p : Option (Moment S)) (line k g : ℕ) (steps : List (Step S)) (made : List Record) (now' : Moment S) : Type 0 where
  pub come : Come net c heard p line k (before_all (drop (steps_before g steps) steps) now') (made ++ records_of (take (steps_before g steps) steps))

pub acts_at : {S : Type 0} (net : Network S) (c : ℕ) (heard : List Message) (s : ℕ) (now : Moment S) (pending : List Message) (made : Made S) (t u : ℕ)
    → Ahead c heard s now pending → (one : Stepped net c heard u now pending made) → t ≡ u → s ≤ u → u < never → u ≤ first_stamp pending
    → act net c t (bag_of c t heard) now ≡ Moves one.move
acts_at net c heard s now pending made t u ahead one e l n f =
    let bag : bag_of c u heard ≡ items_of (front u pending) =
    ahead.same u l ∙ ap (λ x. sorted_bag (items_of x)) (arrived_front c u pending ahead.are f n) ∙ front_sorted c u pending ahead.are in
    ap (λ n. act net c n (bag_of c n heard) now) e ∙ ap (λ b. act net c u b now) bag ∙ one.acts

went : {S : Type 0} (net : Network S) (c : ℕ) (heard : List Message) (p : Option (Moment S)) (line k g : ℕ) (step : Step S) (steps : List (Step S)) (made : List Record) (now' : Moment S)
    → step.entry.stamp < g → RunEnds net c heard p line k g steps (made ++ step.entry ∷ []) now'
    → RunEnds net c heard p line k g (step ∷ steps) made now'
went net c heard p line k g step steps made now' h ends =
    let n = steps_before_more g step steps h in
    let come = subst (λ l. Come net c heard p line k (before_all (drop (steps_before g steps) steps) now') l) (append_assoc made (step.entry ∷ []) (records_of (take (steps_before g steps) steps))) ends.come in
    record { come = subst (λ m. Come net c heard p line k (before_all (drop m (step ∷ steps)) now') (made ++ records_of (take m (step ∷ steps)))) (sym n) come }

stayed : {S : Type 0} (net : Network S) (c : ℕ) (heard : List Message) (p : Option (Moment S)) (line k g : ℕ) (step : Step S) (steps : List (Step S)) (made : List Record) (now now' : Moment S)
    → step.before ≡ now → g ≤ step.entry.stamp → Come net c heard p line k now made → RunEnds net c heard p line k g (step ∷ steps) made now'
stayed net c heard p line k g step steps made now now' b h come =
    let n = steps_before_none g step steps h in
    let moved = subst (λ x. Come net c heard p line k x (made ++ [])) (sym b) (subst (λ l. Come net c heard p line k now l) (sym (append-nil made)) come) in
    record { come = subst (λ m. Come net c heard p line k (before_all (drop m (step ∷ steps)) now') (made ++ records_of (take m (step ∷ steps)))) (sym n) moved }

pub leads_ends : {S : Type 0} (net : Network S) (c : ℕ) (heard : List Message) (p : Option (Moment S)) (line k g : ℕ) → line + k ≡ g → g ≤ never
    → (steps : List (Step S)) (i : ℕ) (now : Moment S) (pending : List Message) (made : List Record) (now' : Moment S) (pending' : List Message)
    → line + i ≤ g → Come net c heard p line i now made → Ahead c heard (line + i) now pending → Leads net c now pending steps now' pending'
    → g ≤ next_of now' pending' → RunEnds net c heard p line k g steps made now'
leads_ends net c heard p line k g at top [] i now pending made now' pending' l come ahead leads next =
    let j : ℕ = k - i in
    let e : i + j ≡ k = omega (arith, l, at) in
    let same : next_of now pending ≡ next_of now' pending' = ap (λ x. next_of x pending) leads.0 ∙ ap (next_of now') leads.1 in
    let idle = come_idle net c heard p line i now pending made come ahead j (omega (arith, e, at, same, next)) (omega (arith, e, at, top)) in
    record { come = subst (λ n. Come net c heard p line n now' (made ++ [])) e (subst (λ x. Come net c heard p line (i + j) x (made ++ [])) leads.0 (subst (λ l. Come net c heard p line (i + j) now l) (sym (append-nil made)) idle)) }
leads_ends {S} net c heard p line k g at top (step ∷ steps) i now pending made now' pending' l come ahead leads next =
    let first = leads.0 in
    let taken = step_taken net c heard (line + i) now pending first ahead leads.1 in
    let one = taken.0 in
    let stamped : step.entry.stamp ≡ next_of now pending = sym (ap (λ x. x.entry.stamp) leads.2) ∙ one.stamp in
    let before : step.before ≡ now = sym (ap (λ x. x.before) leads.2) ∙ one.before in
    let s : ℕ = next_of now pending in
    let upto : line + i ≤ s = (let d = ahead.due in let f = ahead.first in omega (arith, d, f)) in
    ⊎_elim
    (λ h.
    let j : ℕ = s - (line + i) in
    let e : line + (i + j) ≡ s = omega (arith, upto) in
    let idle = come_idle net c heard p line i now pending made come ahead j (omega (arith, e)) (omega (arith, e, taken.1)) in
    let moves = come_moves net c heard p line (i + j) now made one.move idle (acts_at net c heard (line + i) now pending first (line + (i + j)) s ahead one e upto taken.1 (omega arith)) in
    let moved : Come net c heard p line (suc (i + j)) first.after (made ++ step.entry ∷ []) =
    subst (λ x. Come net c heard p line (suc (i + j)) x (made ++ step.entry ∷ [])) one.after
    (subst (λ r. Come net c heard p line (suc (i + j)) one.move.after (made ++ r ∷ [])) (one.entry ∙ ap (λ x. x.entry) leads.2) moves) in
    let there : suc s ≡ line + suc (i + j) = omega (arith, e) in
    let ends =
    leads_ends net c heard p line k g at top steps (suc (i + j)) first.after first.left (made ++ step.entry ∷ []) now' pending' (omega (arith, there, h)) moved
    (subst (λ n. Ahead c heard n first.after first.left) there one.ahead) leads.3 next in
    went net c heard p line k g step steps made now' (omega (arith, stamped, h)) ends)
    (λ h.
    let j : ℕ = k - i in
    let e : i + j ≡ k = omega (arith, l, at) in
    let idle = come_idle net c heard p line i now pending made come ahead j (omega (arith, e, at, h)) (omega (arith, e, at, top)) in
    stayed net c heard p line k g step steps made now now' before (omega (arith, stamped, h)) (subst (λ n. Come net c heard p line n now made) e idle))
    (cases_lt s g)

-- ---- what is left at g

pub record RunRest {S : Type 0} (net : Network S) (c : ℕ) (heard : List Message) (g : ℕ) (steps : List (Step S)) (now' : Moment S) (pending' : List Message) : Type 0 where
  pub pending : List Message
  pub ahead : Ahead c heard g (before_all (drop (steps_before g steps) steps) now') pending
  pub leads : Leads net c (before_all (drop (steps_before g steps) steps) now') pending (drop (steps_before g steps) steps) now' pending'

pub leads_rest : {S : Type 0} (net : Network S) (c : ℕ) (heard : List Message) (g : ℕ) (steps : List (Step S)) (s : ℕ) (now : Moment S) (pending : List Message) (now' : Moment S) (pending' : List Message)
    → s ≤ g → Ahead c heard s now pending → Leads net c now pending steps now' pending' → g ≤ next_of now' pending'
    → RunRest net c heard g steps now' pending'
leads_rest net c heard g [] s now pending now' pending' l ahead leads next =
    let same : next_of now pending ≡ next_of now' pending' = ap (λ x. next_of x pending) leads.0 ∙ ap (next_of now') leads.1 in
    let here = ahead_more c heard s g now pending ahead l (omega (arith, same, next)) in
    record { pending = pending; ahead = subst (λ x. Ahead c heard g x pending) leads.0 here; leads = (refl, leads.1) }
leads_rest {S} net c heard g (step ∷ steps) s now pending now' pending' l ahead leads next =
    let made = leads.0 in
    let taken = step_taken net c heard s now pending made ahead leads.1 in
    let one = taken.0 in
    let stamped : step.entry.stamp ≡ next_of now pending = sym (ap (λ x. x.entry.stamp) leads.2) ∙ one.stamp in
    let before : now ≡ step.before = sym one.before ∙ ap (λ x. x.before) leads.2 in
    ⊎_elim
    (λ h.
    let rest = leads_rest net c heard g steps (suc (next_of now pending)) made.after made.left now' pending' (omega (arith, stamped, h)) one.ahead leads.3 next in
    let n = steps_before_more g step steps h in
    record {
      pending = rest.pending;
      ahead = subst (λ m. Ahead c heard g (before_all (drop m (step ∷ steps)) now') rest.pending) (sym n) rest.ahead;
      leads = subst (λ m. Leads net c (before_all (drop m (step ∷ steps)) now') rest.pending (drop m (step ∷ steps)) now' pending') (sym n) rest.leads;
    })
    (λ h.
    let n = steps_before_none g step steps h in
    let here = ahead_more c heard s g now pending ahead l (omega (arith, stamped, h)) in
    record {
      pending = pending;
      ahead = subst (λ m. Ahead c heard g (before_all (drop m (step ∷ steps)) now') pending) (sym n) (subst (λ x. Ahead c heard g x pending) before here);
      leads = subst (λ m. Leads net c (before_all (drop m (step ∷ steps)) now') pending (drop m (step ∷ steps)) now' pending') (sym n) (subst (λ x. Leads net c x pending (step ∷ steps) now' pending') before leads);
    })
    (cases_lt step.entry.stamp g)

-- after a step, the next is later
pub leads_later : {S : Type 0} (net : Network S) (c : ℕ) (heard : List Message) (steps : List (Step S)) (s : ℕ) (now : Moment S) (pending : List Message) (now' : Moment S) (pending' : List Message)
    → Ahead c heard s now pending → Leads net c now pending steps now' pending' → s ≤ next_of now' pending'
leads_later net c heard [] s now pending now' pending' ahead leads =
    let same : next_of now pending ≡ next_of now' pending' = ap (λ x. next_of x pending) leads.0 ∙ ap (next_of now') leads.1 in
    let d = ahead.due in
    let f = ahead.first in
    omega (arith, same, d, f)
leads_later net c heard (step ∷ steps) s now pending now' pending' ahead leads =
    let made = leads.0 in
    let taken = step_taken net c heard s now pending made ahead leads.1 in
    let later = leads_later net c heard steps (suc (next_of now pending)) made.after made.left now' pending' taken.0.ahead leads.3 in
    let d = ahead.due in
    let f = ahead.first in
    omega (arith, later, d, f)
