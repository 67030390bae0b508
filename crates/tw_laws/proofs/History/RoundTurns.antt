-- The transitions of a round are the clock's at phase 1.
use Rattle.std.proofs.Common.{◌≡◌, ℕ, zero, suc, ◌+◌, ◌<◌, ◌≤◌, ◌⊎◌, ◌==◌, true, false, length, List, [], ◌∷◌, ◌++◌, refl, sym, ap, ◌∙◌, subst, ⊎_elim, arith, Bool, eq-eqb, ne_eqb, Option, Some, None, Result, Ok, Err, slice_get}
use Rattle.std.proofs.lemmas.Bool.{cases_Bool, cond-true, cond-false, eqb-false}
use Rattle.tw_msgs.specs.Bags.{Bag, sorted_bag}
use Rattle.tw_msgs.specs.declared.message.Message.{Message}
use Rattle.tw_msgs.specs.declared.record.Record.{Record}
use Rattle.tw_vtime.specs.Stamps.{never, phase_of}
use Rattle.tw_vtime.specs.declared.limits.Limit.{Limit}
use Rattle.tw_theory.specs.Bundles.{items_of, addressed}
use Rattle.tw_theory.specs.Network.{Network}
use Rattle.tw_theory.specs.Simulator.{RoundTurn, Stays, Moves, Stops, turn_of_result, take_turn, after_output, outputs, turns, turn_records, turned_moments, first_stop, all_sent, with_stamp}
use Rattle.tw_theory.specs.Transitions.{Moment, Move, output, transition}
use Rattle.tw_laws.proofs.History.Clock.{bag_of, act, act_if, place_after, moment_after, record_after, NoLimit, sent_in_all, clock, clock_step}
use Rattle.tw_laws.proofs.History.Components.{own, own_take, own_skip}
use Rattle.tw_laws.proofs.History.GoingOn.{MadeAt, turn_at}
use Rattle.tw_laws.proofs.History.LocalRuns.{transition_is}
use Rattle.tw_laws.proofs.History.RoundBags.{after_out, even_place, round_bag}

-- the messages of a round at t
abbrev pub messages_at : {S : Type 0} → Network S → ℕ → List (Moment S) → List Message → List Message
messages_at net t nows inputs = all_sent net (outputs net t 0 nows) ++ with_stamp (t + 1) inputs

-- the turn of a component, if it is there
abbrev pub odd_turn : {S : Type 0} → Network S → ℕ → List Message → ℕ → Option (Moment S) → RoundTurn S
odd_turn net t msgs c None = Stays
odd_turn net t msgs c (Some now) = take_turn net c (after_output net c now t) (t + 1) (now.due == t) (sorted_bag (items_of (addressed c msgs)))

abbrev pub odd_if : {S : Type 0} → Network S → ℕ → List Message → ℕ → Option (Moment S) → Option (RoundTurn S)
odd_if net t msgs c None = None
odd_if net t msgs c (Some now) = Some (odd_turn net t msgs c (Some now))

pub turns_own : {S : Type 0} (net : Network S) (t : ℕ) (msgs : List Message) (b : ℕ) (nows : List (Moment S)) (i : ℕ)
    → slice_get (turns net t msgs b nows) i ≡ odd_if net t msgs (b + i) (slice_get nows i)
turns_own net t msgs b [] i = refl
turns_own net t msgs b (now ∷ nows) zero = let e : b ≡ b + zero = omega arith in ap (λ c. Some (odd_turn net t msgs c (Some now))) e
turns_own net t msgs b (now ∷ nows) (suc i) =
    let e : suc b + i ≡ b + suc i = omega arith in
    turns_own net t msgs (suc b) nows i ∙ ap (λ c. odd_if net t msgs c (slice_get nows i)) e

-- a next own step: at or after s, and of phase 0 or never
abbrev pub IsDue : ℕ → ℕ → Type 0
IsDue s d = (s ≤ d) × ((phase_of d ≡ 0) ⊎ (d ≡ never))

output_due : {S : Type 0} (net : Network S) (c t : ℕ) (now : Moment S) → now.due == t ≡ true → (after_output net c now t).due ≡ t + 1
unfolding output
output_due net c t now e = ap (λ m. m.due) (cond-true (now.due == t) (output net c now t).after now e)

no_output : {S : Type 0} (net : Network S) (c t : ℕ) (now : Moment S) → now.due == t ≡ false → after_output net c now t ≡ now
no_output net c t now e = cond-false (now.due == t) (output net c now t).after now e

due_same : {S : Type 0} (net : Network S) (c t : ℕ) (now : Moment S) → phase_of t ≡ 0 → t + 1 < never → IsDue t now.due
    → ((after_output net c now t).due == (t + 1)) ≡ (now.due == t)
due_same net c t now p n d =
    ⊎_elim
    (λ e. eq-eqb (after_output net c now t).due (t + 1) (output_due net c t now e) ∙ sym e)
    (λ e.
    let kept = ap (λ m. m.due) (no_output net c t now e) in
    let either = d.1 in
    ne_eqb (after_output net c now t).due (t + 1) (λ q. omega (arith, p, n, either, kept, q)) ∙ sym e)
    (cases_Bool (now.due == t))

-- the clock at phase 1
odd_act : {S : Type 0} (net : Network S) (c t : ℕ) (bag : Bag) (now : Moment S) → phase_of t ≡ 0 → t + 1 < never → IsDue t now.due
    → act net c (t + 1) bag (after_output net c now t) ≡ take_turn net c (after_output net c now t) (t + 1) (now.due == t) bag
unfolding act
odd_act net c t bag now p n d =
    cond-false (phase_of (t + 1) == 0) _ _ (ne_eqb (phase_of (t + 1)) 0 (λ e. omega (arith, e, p)))
    ∙ ap (λ b. take_turn net c (after_output net c now t) (t + 1) b bag) (due_same net c t now p n d)

odd_if_act : {S : Type 0} (net : Network S) (c t : ℕ) (msgs : List Message) (o : Option (Moment S)) → phase_of t ≡ 0 → t + 1 < never
    → ((now : Moment S) → o ≡ Some now → IsDue t now.due)
    → act_if net c (t + 1) (sorted_bag (items_of (addressed c msgs))) (after_out net t c o) ≡ odd_turn net t msgs c o
unfolding act_if
odd_if_act net c t msgs None p n d = refl
odd_if_act net c t msgs (Some now) p n d = odd_act net c t (sorted_bag (items_of (addressed c msgs))) now p n (d now refl)

pub odd_step : {S : Type 0} (net : Network S) (c t : ℕ) (nows : List (Moment S)) (inputs : List Message) → phase_of t ≡ 0 → t + 1 < never
    → length nows ≡ length net.models → ((d : ℕ) → slice_get nows d ≡ (clock net t).place d)
    → ((d : ℕ) (now : Moment S) → slice_get nows d ≡ Some now → IsDue t now.due)
    → ((x : Message) → t < x.stamp → Rattle.tw_laws.specs.History.count x inputs ≡ Rattle.tw_laws.specs.History.count x net.inputs)
    → clock_step net c (suc t) ≡ odd_turn net t (messages_at net t nows inputs) c (slice_get nows c)
unfolding clock
odd_step net c t nows inputs p n size same due given =
    let place : (clock net (suc t)).place c ≡ after_out net t c (slice_get nows c) = even_place net c t _ ((clock net t).place c) p ∙ ap (after_out net t c) (sym (same c)) in
    let e : suc t ≡ t + 1 = omega arith in
    let bag = round_bag net t c nows inputs p size same given in
    ap (λ s. act_if net c s (bag_of c s (sent_in_all net (clock net (suc t)).records)) ((clock net (suc t)).place c)) e
    ∙ ap (λ b. act_if net c (t + 1) b ((clock net (suc t)).place c)) bag
    ∙ ap (act_if net c (t + 1) (sorted_bag (items_of (addressed c (messages_at net t nows inputs))))) place
    ∙ odd_if_act net c t (messages_at net t nows inputs) (slice_get nows c) p n (due c)

-- ---- what follows from a turn

result_moves : {S : Type 0} (r : Result (Move S) Limit) (move : Move S) → turn_of_result r ≡ Moves move → r ≡ Ok move
result_moves (Ok m) move e = let q : m ≡ move = cc e in ap Ok q
result_moves (Err limit) move e = absurd (cc e)

result_stays : {S : Type 0} (r : Result (Move S) Limit) → turn_of_result r ≡ Stays → ⊥
result_stays (Ok m) e = cc e
result_stays (Err limit) e = cc e

turn_moves : {S : Type 0} (net : Network S) (c s : ℕ) (b : Bool) (bag : Bag) (now : Moment S) (move : Move S)
    → take_turn net c now s b bag ≡ Moves move → transition net c now s bag ≡ Ok move
turn_moves net c s true bag now move e = result_moves (transition net c now s bag) move e
turn_moves net c s false [] now move e = absurd (cc e)
turn_moves net c s false (x ∷ xs) now move e = result_moves (transition net c now s (x ∷ xs)) move e

turn_stays : {S : Type 0} (net : Network S) (c s : ℕ) (b : Bool) (bag : Bag) (now : Moment S) → take_turn net c now s b bag ≡ Stays → b ≡ false
turn_stays net c s true bag now e = absurd (result_stays (transition net c now s bag) e)
turn_stays net c s false bag now e = refl

abbrev pub turned_one : {S : Type 0} → Option (Moment S) → Option (RoundTurn S) → Option (Moment S)
turned_one None a = None
turned_one (Some now) None = Some now
turned_one (Some now) (Some Stays) = Some now
turned_one (Some now) (Some (Moves move)) = Some move.after
turned_one (Some now) (Some (Stops limit)) = Some now

kept : {S : Type 0} (o : Option (Moment S)) → o ≡ turned_one o None
kept None = refl
kept (Some now) = refl

pub turned_own : {S : Type 0} (nows : List (Moment S)) (ts : List (RoundTurn S)) (i : ℕ)
    → slice_get (turned_moments nows ts) i ≡ turned_one (slice_get nows i) (slice_get ts i)
turned_own [] ts i = refl
turned_own (now ∷ nows) [] zero = refl
turned_own (now ∷ nows) [] (suc i) = kept (slice_get nows i)
turned_own (now ∷ nows) (Stays ∷ ts) zero = refl
turned_own (now ∷ nows) (Moves move ∷ ts) zero = refl
turned_own (now ∷ nows) (Stops limit ∷ ts) zero = refl
turned_own (now ∷ nows) (Stays ∷ ts) (suc i) = turned_own nows ts i
turned_own (now ∷ nows) (Moves move ∷ ts) (suc i) = turned_own nows ts i
turned_own (now ∷ nows) (Stops limit ∷ ts) (suc i) = turned_own nows ts i

pub length-turned : {S : Type 0} (nows : List (Moment S)) (ts : List (RoundTurn S)) → length (turned_moments nows ts) ≡ length nows
length-turned [] ts = refl
length-turned (now ∷ nows) [] = refl
length-turned (now ∷ nows) (Stays ∷ ts) = ap suc (length-turned nows ts)
length-turned (now ∷ nows) (Moves move ∷ ts) = ap suc (length-turned nows ts)
length-turned (now ∷ nows) (Stops limit ∷ ts) = ap suc (length-turned nows ts)

-- where a component stands after its turn
turned_place : {S : Type 0} (net : Network S) (t c : ℕ) (msgs : List Message) (now : Moment S) (a : RoundTurn S)
    → odd_turn net t msgs c (Some now) ≡ a → NoLimit a → turned_one (Some now) (Some a) ≡ place_after (Some (after_output net c now t)) a
unfolding place_after moment_after NoLimit
turned_place net t c msgs now Stays e l =
    ap Some (sym (no_output net c t now (turn_stays net c (t + 1) (now.due == t) _ (after_output net c now t) e)))
turned_place net t c msgs now (Moves move) e l = refl
turned_place net t c msgs now (Stops limit) e l = absurd l

pub odd_place : {S : Type 0} (net : Network S) (t c : ℕ) (msgs : List Message) (o : Option (Moment S)) → NoLimit (odd_turn net t msgs c o)
    → turned_one o (odd_if net t msgs c o) ≡ place_after (after_out net t c o) (odd_turn net t msgs c o)
unfolding place_after
odd_place net t c msgs None l = refl
odd_place net t c msgs (Some now) l = turned_place net t c msgs now (odd_turn net t msgs c (Some now)) refl l

-- and when its next step is
turned_due : {S : Type 0} (net : Network S) (t c : ℕ) (msgs : List Message) (now : Moment S) (a : RoundTurn S) (now' : Moment S)
    → odd_turn net t msgs c (Some now) ≡ a → NoLimit a → phase_of t ≡ 0 → t + 1 < never → IsDue t now.due → turned_one (Some now) (Some a) ≡ Some now'
    → IsDue (t + 2) now'.due
unfolding NoLimit
turned_due net t c msgs now Stays now' e l p n d q =
    let same : now ≡ now' = cc q in
    let apart = eqb-false now.due t (turn_stays net c (t + 1) (now.due == t) _ (after_output net c now t) e) in
    let either = d.1 in
    let from = d.0 in
    let later : t + 2 ≤ now.due = omega (arith, p, n, apart, either, from) in
    subst (λ m. IsDue (t + 2) m.due) same (later, either)
turned_due net t c msgs now (Moves move) now' e l p n d q =
    let same : move.after ≡ now' = cc q in
    let odd : phase_of (t + 1) ≡ 1 = omega (arith, p) in
    let facts = transition_is net c (t + 1) _ (after_output net c now t) move n (turn_moves net c (t + 1) (now.due == t) _ (after_output net c now t) move e) in
    let due = facts.due in
    let later : t + 2 ≤ move.after.due = omega (arith, due) in
    subst (λ m. IsDue (t + 2) m.due) same (later, facts.even odd)
turned_due net t c msgs now (Stops limit) now' e l p n d q = absurd l

pub odd_due : {S : Type 0} (net : Network S) (t c : ℕ) (msgs : List Message) (o : Option (Moment S)) (now' : Moment S)
    → NoLimit (odd_turn net t msgs c o) → phase_of t ≡ 0 → t + 1 < never → ((now : Moment S) → o ≡ Some now → IsDue t now.due)
    → turned_one o (odd_if net t msgs c o) ≡ Some now' → IsDue (t + 2) now'.due
odd_due net t c msgs None now' l p n d q = absurd (cc q)
odd_due net t c msgs (Some now) now' l p n d q = turned_due net t c msgs now (odd_turn net t msgs c (Some now)) now' refl l p n (d now refl) q

-- ---- records and faults

abbrev pub MadeFrom : {S : Type 0} → ℕ → ℕ → List (RoundTurn S) → Type 0
MadeFrom b s [] = Unit {0}
MadeFrom b s (a ∷ ts) = MadeAt b s a × MadeFrom (suc b) s ts

pub turns_made : {S : Type 0} (net : Network S) (t : ℕ) (msgs : List Message) (b : ℕ) (nows : List (Moment S))
    → MadeFrom b (t + 1) (turns net t msgs b nows)
turns_made net t msgs b [] = tt
turns_made net t msgs b (now ∷ nows) = (turn_at net b (t + 1) (now.due == t) _ (after_output net b now t), turns_made net t msgs (suc b) nows)

abbrev pub record_if : {S : Type 0} → Option (RoundTurn S) → List Record
record_if None = []
record_if (Some a) = record_after a

records_past : {S : Type 0} (b s c : ℕ) (ts : List (RoundTurn S)) → MadeFrom b s ts → c < b → own c (turn_records ts) ≡ []
records_past b s c [] m l = refl
records_past b s c (Stays ∷ ts) m l = records_past (suc b) s c ts m.1 (omega (arith, l))
records_past b s c (Stops limit ∷ ts) m l = records_past (suc b) s c ts m.1 (omega (arith, l))
records_past b s c (Moves move ∷ ts) m l =
    let at : move.entry.component ≡ b = m.0.0 in
    own_skip c move.entry (turn_records ts) (λ e. omega (arith, e, at, l)) ∙ records_past (suc b) s c ts m.1 (omega (arith, l))

pub records_own : {S : Type 0} (b s : ℕ) (ts : List (RoundTurn S)) (i : ℕ) → MadeFrom b s ts
    → own (b + i) (turn_records ts) ≡ record_if (slice_get ts i)
unfolding record_after
records_own b s [] i m = refl
records_own b s (Stays ∷ ts) zero m = records_past (suc b) s (b + zero) ts m.1 (omega arith)
records_own b s (Stops limit ∷ ts) zero m = records_past (suc b) s (b + zero) ts m.1 (omega arith)
records_own b s (Moves move ∷ ts) zero m =
    let at : move.entry.component ≡ b = m.0.0 in
    own_take (b + zero) move.entry (turn_records ts) (omega (arith, at)) ∙ ap (λ l. move.entry ∷ l) (records_past (suc b) s (b + zero) ts m.1 (omega arith))
records_own b s (Stays ∷ ts) (suc i) m = let e : suc b + i ≡ b + suc i = omega arith in subst (λ c. own c (turn_records ts) ≡ record_if (slice_get ts i)) e (records_own (suc b) s ts i m.1)
records_own b s (Stops limit ∷ ts) (suc i) m = let e : suc b + i ≡ b + suc i = omega arith in subst (λ c. own c (turn_records ts) ≡ record_if (slice_get ts i)) e (records_own (suc b) s ts i m.1)
records_own b s (Moves move ∷ ts) (suc i) m =
    let at : move.entry.component ≡ b = m.0.0 in
    let e : suc b + i ≡ b + suc i = omega arith in
    own_skip (b + suc i) move.entry (turn_records ts) (λ q. omega (arith, q, at)) ∙ subst (λ c. own c (turn_records ts) ≡ record_if (slice_get ts i)) e (records_own (suc b) s ts i m.1)

pub record_turn : {S : Type 0} (net : Network S) (t c : ℕ) (msgs : List Message) (o : Option (Moment S))
    → record_if (odd_if net t msgs c o) ≡ record_after (odd_turn net t msgs c o)
unfolding record_after
record_turn net t c msgs None = refl
record_turn net t c msgs (Some now) = refl

-- no turn meets a limit
pub stop_none : {S : Type 0} (b : ℕ) (ts : List (RoundTurn S)) → first_stop b ts ≡ None → (i : ℕ) (a : RoundTurn S) → slice_get ts i ≡ Some a
    → NoLimit a
unfolding NoLimit
stop_none b [] e i a q = absurd (cc q)
stop_none b (Stays ∷ ts) e zero a q = let s : Stays ≡ a = cc q in subst NoLimit s tt
stop_none b (Moves move ∷ ts) e zero a q = let s : Moves move ≡ a = cc q in subst NoLimit s tt
stop_none b (Stops limit ∷ ts) e i a q = absurd (cc e)
stop_none b (Stays ∷ ts) e (suc i) a q = stop_none (suc b) ts e i a q
stop_none b (Moves move ∷ ts) e (suc i) a q = stop_none (suc b) ts e i a q

pub no_stop : {S : Type 0} (net : Network S) (t c : ℕ) (msgs : List Message) (o : Option (Moment S))
    → ((a : RoundTurn S) → odd_if net t msgs c o ≡ Some a → NoLimit a) → NoLimit (odd_turn net t msgs c o)
unfolding NoLimit
no_stop net t c msgs None h = tt
no_stop net t c msgs (Some now) h = h (odd_turn net t msgs c (Some now)) refl

-- the first that does
pub record StopsAt {S : Type 0} (b : ℕ) (ts : List (RoundTurn S)) (f : ℕ × Limit) : Type 0 where
  pub place : ℕ
  pub component : f.0 ≡ b + place
  pub turn : slice_get ts place ≡ Some (Stops f.1)
  pub least : (i : ℕ) (a : RoundTurn S) → i < place → slice_get ts i ≡ Some a → NoLimit a

later_stop : {S : Type 0} (b : ℕ) (first : RoundTurn S) (ts : List (RoundTurn S)) (f : ℕ × Limit) → NoLimit first → StopsAt (suc b) ts f
    → StopsAt b (first ∷ ts) f
later_stop {S} b first ts f n s =
    let c = s.component in
    record { place = suc s.place; component = omega (arith, c); turn = s.turn; least = least }
  where
    least : (i : ℕ) (a : RoundTurn S) → i < suc s.place → slice_get (first ∷ ts) i ≡ Some a → NoLimit a
    least zero a l q = let e : first ≡ a = cc q in subst NoLimit e n
    least (suc i) a l q = s.least i a (omega (arith, l)) q

pub stop_some : {S : Type 0} (b : ℕ) (ts : List (RoundTurn S)) (f : ℕ × Limit) → first_stop b ts ≡ Some f → StopsAt b ts f
unfolding NoLimit
stop_some b [] f e = absurd (cc e)
stop_some b (Stays ∷ ts) f e = later_stop b Stays ts f tt (stop_some (suc b) ts f e)
stop_some b (Moves move ∷ ts) f e = later_stop b (Moves move) ts f tt (stop_some (suc b) ts f e)
stop_some b (Stops limit ∷ ts) f e =
    let q : (b, limit) ≡ f = cc e in
    let c = ap (λ x. x.0) q in
    record { place = 0; component = omega (arith, c); turn = ap (λ x. Some (Stops x.1)) q; least = λ i a l k. absurd (omega (arith, l)) }
