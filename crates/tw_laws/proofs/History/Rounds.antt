-- The rounds are the clock.
use Rattle.std.proofs.Common.{◌≡◌, ℕ, zero, suc, ◌+◌, ◌-◌, ◌<◌, ◌≤◌, ◌==◌, min, nat_lt, false, length, List, [], ◌∷◌, ◌++◌, refl, sym, ap, ◌∙◌, subst, inl, inr, ⊎_elim, arith, ne_eqb, lt-ltb, le-ltb, Option, Some, None, slice_get, append_assoc, append-nil, ◌/◌, map}
use Rattle.std.proofs.lemmas.Bool.{cases_eq, cases_lt, cond-true, cond-false}
use Rattle.std.specs.Option.{option_map}
use Rattle.std.proofs.lemmas.Option.{slice_get_past}
use Rattle.std.specs.List.{AllByRecursion as Each}
use Rattle.std.proofs.lemmas.List.{length-map}
use Rattle.tw_atomic.specs.Atomic.{Meaning}
use Rattle.tw_msgs.specs.declared.message.Message.{Message}
use Rattle.tw_msgs.specs.declared.record.Record.{Record}
use Rattle.tw_vtime.specs.Stamps.{never, phase_of}
use Rattle.tw_vtime.specs.declared.limits.Limit.{Limit}
use Rattle.tw_theory.specs.Network.{Network}
use Rattle.tw_theory.specs.Simulator.{Fault, RoundTurn, Stays, Stops, start_moments, take_turn, after_output, Configuration, least_due, least_input, round_time, outputs, turns, turn_records, turned_moments, first_stop, all_sent, with_stamp, past_stamp, Run, round_end, round, rounds_from, rounds}
use Rattle.tw_theory.specs.Traces.{IsTrace}
use Rattle.tw_theory.specs.Transitions.{Moment, first_due, start_moment}
use Rattle.tw_theory.proofs.Elements.{each-append, each_weaker}
use Rattle.tw_theory.proofs.Rounds.{from_round, from_rest, from_fault}
use Rattle.tw_laws.specs.History.{count, AllPhaseOne}
use Rattle.tw_laws.proofs.History.Clock.{place_after, record_after, NoLimit, clock, clock_step}
use Rattle.tw_laws.proofs.History.Components.{own, own-append, count-past_stamp}
use Rattle.tw_laws.proofs.History.RecordOrder.{IsAt, outputs_trace, turns_trace, trace-append, each_at}
use Rattle.tw_laws.proofs.History.RoundBags.{out_of, outs_own, after_out, even_record, even_place, even_quiet}
use Rattle.tw_laws.proofs.History.RoundTurns.{messages_at, odd_turn, odd_if, turns_own, IsDue, odd_step, turned_one, turned_own, length-turned, odd_place, odd_due, turns_made, record_if, records_own, record_turn, stop_none, no_stop, stop_some}

-- a fault, by its parts
abbrev pub met_by : ℕ → ℕ → Limit → Fault
met_by c s limit = record { component = c; stamp = s; limit = limit }

-- inputs after stamp s, of phase 1
abbrev pub AllAfter : ℕ → List Message → Type 0
AllAfter s [] = Unit {0}
AllAfter s (m ∷ ms) = (s < m.stamp) × (phase_of m.stamp ≡ 1) × AllAfter s ms

-- the run stands as the clock does before stamp s, of phase 0
pub record Stand {S : Type 0} (net : Network S) (s : ℕ) (run : Run S) : Type 0 where
  pub even : phase_of s ≡ 0
  pub going : run.fault ≡ None
  pub size : length run.at.moments ≡ length net.models
  pub moments : (c : ℕ) → slice_get run.at.moments c ≡ (clock net s).place c
  pub dues : (c : ℕ) (now : Moment S) → slice_get run.at.moments c ≡ Some now → IsDue s now.due
  pub inputs : (x : Message) → s < x.stamp → count x run.at.inputs ≡ count x net.inputs
  pub given : AllAfter s run.at.inputs
  pub records : (c : ℕ) → own c run.records ≡ (clock net s).records c
  pub trace : IsTrace run.records
  pub past : Each (λ r. r.stamp < s) run.records
  pub quiet : (c r : ℕ) → r < s → NoLimit (clock_step net c r)

-- the run ended in a round whose transitions are of stamp s
pub record Ended {S : Type 0} (net : Network S) (s : ℕ) (run : Run S) : Type 0 where
  pub component : ℕ
  pub limit : Limit
  pub below : component < length net.models
  pub odd : phase_of s ≡ 1
  pub fault : run.fault ≡ Some (met_by component s limit)
  pub stops : clock_step net component s ≡ Stops limit
  pub least : (d : ℕ) → d < component → NoLimit (clock_step net d s)
  pub records : (c : ℕ) → own c run.records ≡ (clock net s).records c
  pub trace : IsTrace run.records
  pub past : Each (λ r. r.stamp < s) run.records
  pub quiet : (c r : ℕ) → r < s → NoLimit (clock_step net c r)

after_past : (s t : ℕ) (ms : List Message) → AllAfter s ms → AllAfter t (past_stamp t ms)
after_past s t [] a = tt
after_past s t (m ∷ ms) a =
    let ih = after_past s t ms a.2 in
    ⊎_elim
    (λ l. subst (AllAfter t) (sym (cond-true (nat_lt t m.stamp) _ _ (lt-ltb t m.stamp l))) (l, a.1, ih))
    (λ l. subst (AllAfter t) (sym (cond-false (nat_lt t m.stamp) _ _ (le-ltb t m.stamp l))) ih)
    (cases_lt t m.stamp)

after_even : (s : ℕ) (ms : List Message) → phase_of s ≡ 1 → AllAfter s ms → AllAfter (s + 1) ms
after_even s [] p a = tt
after_even s (m ∷ ms) p a = let l = a.0 in let q = a.1 in (omega (arith, p, l, q), q, after_even s ms p a.2)

-- a step more in quiet
quiet_next : {S : Type 0} (net : Network S) (s : ℕ) → ((c r : ℕ) → r < s → NoLimit (clock_step net c r)) → ((c : ℕ) → NoLimit (clock_step net c s))
    → (c r : ℕ) → r < suc s → NoLimit (clock_step net c r)
quiet_next net s before here c r l =
    ⊎_elim (λ e. subst (λ n. NoLimit (clock_step net c n)) (sym e) (here c)) (λ h. before c r (omega (arith, h, l))) (cases_eq r s)

-- the round's outputs and turns, of a run that stands at t
abbrev outs_at : {S : Type 0} → Network S → ℕ → Run S → List Record
outs_at net t run = outputs net t 0 run.at.moments

abbrev turns_at : {S : Type 0} → Network S → ℕ → Run S → List (RoundTurn S)
turns_at net t run = turns net t (messages_at net t run.at.moments run.at.inputs) 0 run.at.moments

round_by : {S : Type 0} (net : Network S) (t : ℕ) (run : Run S) (o : Option (ℕ × Limit)) → first_stop 0 (turns_at net t run) ≡ o
    → round net run t ≡ round_end run t (outs_at net t run) (turns_at net t run) o
unfolding round
round_by net t run o e = ap (round_end run t (outs_at net t run) (turns_at net t run)) e

step_at_one : {S : Type 0} (net : Network S) (t : ℕ) (run : Run S) → Stand net t run → t + 1 < never → (c : ℕ)
    → clock_step net c (suc t) ≡ odd_turn net t (messages_at net t run.at.moments run.at.inputs) c (slice_get run.at.moments c)
step_at_one net t run at n c = odd_step net c t run.at.moments run.at.inputs at.even n at.size at.moments at.dues at.inputs

outs_records : {S : Type 0} (net : Network S) (t : ℕ) (run : Run S) → Stand net t run → (c : ℕ)
    → own c (run.records ++ outs_at net t run) ≡ (clock net (suc t)).records c
unfolding clock
outs_records net t run at c =
    let z : 0 + c ≡ c = omega arith in
    let outs : own c (outs_at net t run) ≡ record_after (clock_step net c t) =
    subst (λ d. own d (outs_at net t run) ≡ out_of net t d (slice_get run.at.moments c)) z (outs_own net t 0 run.at.moments c) ∙ ap (out_of net t c) (at.moments c) ∙ sym (even_record net c t _ ((clock net t).place c) at.even) in
    own-append c run.records (outs_at net t run) ∙ ap (λ l. l ++ own c (outs_at net t run)) (at.records c) ∙ ap (λ l. (clock net t).records c ++ l) outs

even_quiet_at : {S : Type 0} (net : Network S) (t : ℕ) (run : Run S) → Stand net t run → (c r : ℕ) → r < suc t → NoLimit (clock_step net c r)
even_quiet_at net t run at = quiet_next net t at.quiet (λ c. even_quiet net c t _ ((clock net t).place c) at.even)

-- a round without a fault
round_on : {S : Type 0} (net : Network S) (t : ℕ) (run : Run S) → Stand net t run → t + 1 < never → first_stop 0 (turns_at net t run) ≡ None
    → Stand net (suc (suc t)) (round_end run t (outs_at net t run) (turns_at net t run) None)
unfolding clock
round_on {S} net t run at n stop =
    record {
      even = (let p = at.even in omega (arith, p));
      going = refl;
      size = length-turned run.at.moments ts ∙ at.size;
      moments = moments;
      dues = dues;
      inputs = λ x l. count-past_stamp x (t + 1) run.at.inputs (omega (arith, l)) ∙ at.inputs x (omega (arith, l));
      given = given;
      records = records;
      trace = trace-append t run.records (outs_at net t run ++ turn_records ts) at.trace at.past both from;
      past = each-append (λ r. r.stamp < suc (suc t)) run.records (outs_at net t run ++ turn_records ts) (each_weaker (λ r. r.stamp < t) (λ r. r.stamp < suc (suc t)) (λ r l. omega arith) run.records at.past)
          (each-append (λ r. r.stamp < suc (suc t)) (outs_at net t run) (turn_records ts) (each_at t 0 (λ r. r.stamp < suc (suc t)) (λ r e. omega arith) (outs_at net t run) first.1) (each_at (t + 1) 0 (λ r. r.stamp < suc (suc t)) (λ r e. omega arith) (turn_records ts) second.1));
      quiet = quiet_next net (suc t) (even_quiet_at net t run at) (λ c. subst NoLimit (sym (step c)) (free c));
    }
  where
    msgs : List Message
    msgs = messages_at net t run.at.moments run.at.inputs

    ts : List (RoundTurn S)
    ts = turns_at net t run

    first : IsTrace (outs_at net t run) × Each (IsAt t 0) (outs_at net t run)
    first = outputs_trace net t 0 run.at.moments

    second : IsTrace (turn_records (turns_at net t run)) × Each (IsAt (t + 1) 0) (turn_records (turns_at net t run))
    second = turns_trace (t + 1) 0 (turns_at net t run) (turns_made net t msgs 0 run.at.moments)

    both : IsTrace (outs_at net t run ++ turn_records (turns_at net t run))
    both = trace-append (t + 1) (outs_at net t run) (turn_records ts) first.0 (each_at t 0 (λ r. r.stamp < t + 1) (λ r e. omega arith) (outs_at net t run) first.1) second.0 (each_at (t + 1) 0 (λ r. t + 1 ≤ r.stamp) (λ r e. omega arith) (turn_records ts) second.1)

    from : Each (λ r. t ≤ r.stamp) (outs_at net t run ++ turn_records (turns_at net t run))
    from = each-append (λ r. t ≤ r.stamp) (outs_at net t run) (turn_records ts) (each_at t 0 (λ r. t ≤ r.stamp) (λ r e. omega arith) (outs_at net t run) first.1) (each_at (t + 1) 0 (λ r. t ≤ r.stamp) (λ r e. omega arith) (turn_records ts) second.1)

    step : (c : ℕ) → clock_step net c (suc t) ≡ odd_turn net t (messages_at net t run.at.moments run.at.inputs) c (slice_get run.at.moments c)
    step c = step_at_one net t run at n c

    own_turn : (c : ℕ)
        → slice_get (turns_at net t run) c ≡ odd_if net t (messages_at net t run.at.moments run.at.inputs) c (slice_get run.at.moments c)
    own_turn c = let z : 0 + c ≡ c = omega arith in turns_own net t msgs 0 run.at.moments c ∙ ap (λ d. odd_if net t msgs d (slice_get run.at.moments c)) z

    free : (c : ℕ) → NoLimit (odd_turn net t (messages_at net t run.at.moments run.at.inputs) c (slice_get run.at.moments c))
    free c = no_stop net t c msgs (slice_get run.at.moments c) (λ a q. stop_none 0 ts stop c a (own_turn c ∙ q))

    turned : (c : ℕ)
        → slice_get (turned_moments run.at.moments (turns_at net t run)) c ≡ turned_one (slice_get run.at.moments c) (odd_if net t (messages_at net t run.at.moments run.at.inputs) c (slice_get run.at.moments c))
    turned c = turned_own run.at.moments ts c ∙ ap (turned_one (slice_get run.at.moments c)) (own_turn c)

    moments : (c : ℕ) → slice_get (turned_moments run.at.moments (turns_at net t run)) c ≡ (clock net (suc (suc t))).place c
    moments c =
        let out : after_out net t c (slice_get run.at.moments c) ≡ (clock net (suc t)).place c = ap (after_out net t c) (at.moments c) ∙ sym (even_place net c t _ ((clock net t).place c) at.even) in
        turned c ∙ odd_place net t c msgs (slice_get run.at.moments c) (free c) ∙ ap (λ o. place_after o (odd_turn net t msgs c (slice_get run.at.moments c))) out ∙ ap (place_after ((clock net (suc t)).place c)) (sym (step c))

    dues : (c : ℕ) (now : Moment S) → slice_get (turned_moments run.at.moments (turns_at net t run)) c ≡ Some now → IsDue (suc (suc t)) now.due
    dues c now q =
        let e : t + 2 ≡ suc (suc t) = omega arith in
        subst (λ s. IsDue s now.due) e (odd_due net t c msgs (slice_get run.at.moments c) now (free c) at.even n (at.dues c) (sym (turned c) ∙ q))

    given : AllAfter (suc (suc t)) (past_stamp (t + 1) run.at.inputs)
    given =
        let p = at.even in
        let odd : phase_of (t + 1) ≡ 1 = omega (arith, p) in
        let e : t + 1 + 1 ≡ suc (suc t) = omega arith in
        subst (λ s. AllAfter s (past_stamp (t + 1) run.at.inputs)) e (after_even (t + 1) (past_stamp (t + 1) run.at.inputs) odd (after_past t (t + 1) run.at.inputs at.given))

    records : (c : ℕ) → own c (run.records ++ (outs_at net t run ++ turn_records (turns_at net t run))) ≡ (clock net (suc (suc t))).records c
    records c =
        let z : 0 + c ≡ c = omega arith in
        let made : own c (turn_records ts) ≡ record_after (clock_step net c (suc t)) =
        subst (λ d. own d (turn_records ts) ≡ record_if (slice_get ts c)) z (records_own 0 (t + 1) ts c (turns_made net t msgs 0 run.at.moments))
        ∙ ap record_if (own_turn c) ∙ record_turn net t c msgs (slice_get run.at.moments c) ∙ ap record_after (sym (step c)) in
        ap (own c) (sym (append_assoc run.records (outs_at net t run) (turn_records ts)))
        ∙ own-append c (run.records ++ outs_at net t run) (turn_records ts)
        ∙ ap (λ l. l ++ own c (turn_records ts)) (outs_records net t run at c)
        ∙ ap (λ l. (clock net (suc t)).records c ++ l) made

turn_stop : {S : Type 0} (net : Network S) (t c : ℕ) (msgs : List Message) (o : Option (Moment S)) (a : RoundTurn S) → odd_if net t msgs c o ≡ Some a
    → odd_turn net t msgs c o ≡ a
turn_stop net t c msgs None a e = absurd (cc e)
turn_stop net t c msgs (Some now) a e = cc e

turn_below : {S : Type 0} (net : Network S) (t c : ℕ) (msgs : List Message) (nows : List (Moment S)) (i : ℕ) (a : RoundTurn S)
    → odd_if net t msgs c (slice_get nows i) ≡ Some a → i < length nows
turn_below net t c msgs nows i a e =
    ⊎_elim (λ l. l) (λ l. absurd (none (sym (ap (odd_if net t msgs c) (slice_get_past nows i l)) ∙ e))) (cases_lt i (length nows))
  where
    none : None ≡ Some a → ⊥
    none q = cc q

zero_more : (d : ℕ) → 0 + d ≡ d
zero_more d = omega arith

-- a round with a fault
round_stop : {S : Type 0} (net : Network S) (t : ℕ) (run : Run S) → Stand net t run → t + 1 < never → (f : ℕ × Limit)
    → first_stop 0 (turns_at net t run) ≡ Some f → Ended net (suc t) (round_end run t (outs_at net t run) (turns_at net t run) (Some f))
round_stop net t run at n f stop =
    let s = stop_some 0 (turns_at net t run) f stop in
    let msgs = messages_at net t run.at.moments run.at.inputs in
    let e : t + 1 ≡ suc t = omega arith in
    let found : odd_if net t msgs f.0 (slice_get run.at.moments s.place) ≡ Some (Stops f.1) =
    ap (λ c. odd_if net t msgs c (slice_get run.at.moments s.place)) s.component ∙ sym (turns_own net t msgs 0 run.at.moments s.place) ∙ s.turn in
    let turn = turn_stop net t f.0 msgs (slice_get run.at.moments s.place) (Stops f.1) found in
    let c = s.component in
    let here : f.0 ≡ s.place = omega (arith, c) in
    let size = at.size in
    let below = turn_below net t f.0 msgs run.at.moments s.place (Stops f.1) found in
    record {
      component = f.0;
      limit = f.1;
      below = omega (arith, here, size, below);
      odd = (let p = at.even in omega (arith, p));
      fault = ap (λ (n : ℕ). Some (met_by f.0 n f.1)) e;
      least = λ d l.
          subst NoLimit (sym (step_at_one net t run at n d))
          (no_stop net t d msgs (slice_get run.at.moments d)
          (λ a q. s.least d a (omega (arith, here, l)) (turns_own net t msgs 0 run.at.moments d ∙ ap (λ k. odd_if net t msgs k (slice_get run.at.moments d)) (zero_more d) ∙ q)));
      stops = step_at_one net t run at n f.0 ∙ ap (λ i. odd_turn net t msgs f.0 (slice_get run.at.moments i)) here ∙ turn;
      records = outs_records net t run at;
      trace = (let first = outputs_trace net t 0 run.at.moments in trace-append t run.records (outs_at net t run) at.trace at.past first.0 (each_at t 0 (λ r. t ≤ r.stamp) (λ r e. omega arith) (outs_at net t run) first.1));
      past = each-append (λ r. r.stamp < suc t) run.records (outs_at net t run) (each_weaker (λ r. r.stamp < t) (λ r. r.stamp < suc t) (λ r l. omega arith) run.records at.past) (each_at t 0 (λ r. r.stamp < suc t) (λ r e. omega arith) (outs_at net t run) (outputs_trace net t 0 run.at.moments).1);
      quiet = even_quiet_at net t run at;
    }

-- ---- where nothing is due

all_stay : {S : Type 0} → List (Moment S) → List (RoundTurn S)
all_stay [] = []
all_stay (now ∷ nows) = Stays ∷ all_stay nows

idle_outs : {S : Type 0} (net : Network S) (t b : ℕ) (nows : List (Moment S)) → t < least_due nows → outputs net t b nows ≡ []
idle_outs net t b [] l = refl
idle_outs net t b (now ∷ nows) l = cond-false (now.due == t) _ _ (ne_eqb now.due t (λ e. omega (arith, e, l))) ∙ idle_outs net t (suc b) nows (omega (arith, l))

idle_turns : {S : Type 0} (net : Network S) (t b : ℕ) (nows : List (Moment S)) → t < least_due nows → turns net t [] b nows ≡ all_stay nows
unfolding all_stay
idle_turns net t b [] l = refl
idle_turns net t b (now ∷ nows) l =
    let e : (now.due == t) ≡ false = ne_eqb now.due t (λ e. omega (arith, e, l)) in
    let first = ap (λ x. take_turn net b (after_output net b now t) (t + 1) x []) e in
    ap (λ a. a ∷ turns net t [] (suc b) nows) first ∙ ap (λ ts. Stays ∷ ts) (idle_turns net t (suc b) nows (omega (arith, l)))

idle_given : (t : ℕ) (ms : List Message) → t < least_input ms → with_stamp (t + 1) ms ≡ []
idle_given t [] l = refl
idle_given t (m ∷ ms) l = cond-false (m.stamp == (t + 1)) _ _ (ne_eqb m.stamp (t + 1) (λ e. omega (arith, e, l))) ∙ idle_given t ms (omega (arith, l))

idle_past : (t : ℕ) (ms : List Message) → t < least_input ms → past_stamp (t + 1) ms ≡ ms
idle_past t [] l = refl
idle_past t (m ∷ ms) l = cond-true (nat_lt (t + 1) m.stamp) _ _ (lt-ltb (t + 1) m.stamp (omega (arith, l))) ∙ ap (λ x. m ∷ x) (idle_past t ms (omega (arith, l)))

stay_stop : {S : Type 0} (b : ℕ) (nows : List (Moment S)) → first_stop b (all_stay nows) ≡ None
unfolding all_stay
stay_stop b [] = refl
stay_stop b (now ∷ nows) = stay_stop (suc b) nows

stay_records : {S : Type 0} (nows : List (Moment S)) → turn_records (all_stay nows) ≡ []
unfolding all_stay
stay_records [] = refl
stay_records (now ∷ nows) = stay_records nows

stay_moments : {S : Type 0} (nows : List (Moment S)) → turned_moments nows (all_stay nows) ≡ nows
unfolding all_stay
stay_moments [] = refl
stay_moments (now ∷ nows) = ap (λ l. now ∷ l) (stay_moments nows)

idle_stand : {S : Type 0} (net : Network S) (t : ℕ) (run : Run S) → Stand net t run → t < round_time run.at → t + 1 < never
    → Stand net (suc (suc t)) run
idle_stand {S} net t run at l n =
    let due : t < least_due run.at.moments = omega (arith, l) in
    let given : t < least_input run.at.inputs = omega (arith, l) in
    let outs = idle_outs net t 0 run.at.moments due in
    let msgs : messages_at net t run.at.moments run.at.inputs ≡ [] = ap (λ r. all_sent net r ++ with_stamp (t + 1) run.at.inputs) outs ∙ idle_given t run.at.inputs given in
    let ts : turns_at net t run ≡ all_stay run.at.moments = ap (λ m. turns net t m 0 run.at.moments) msgs ∙ idle_turns net t 0 run.at.moments due in
    let stop : first_stop 0 (turns_at net t run) ≡ None = ap (first_stop 0) ts ∙ stay_stop 0 run.at.moments in
    let moments : turned_moments run.at.moments (turns_at net t run) ≡ run.at.moments = ap (turned_moments run.at.moments) ts ∙ stay_moments run.at.moments in
    let inputs = idle_past t run.at.inputs given in
    let records : run.records ++ (outs_at net t run ++ turn_records (turns_at net t run)) ≡ run.records =
    ap (λ r. run.records ++ (r ++ turn_records (turns_at net t run))) outs ∙ ap (λ r. run.records ++ r) (ap turn_records ts ∙ stay_records run.at.moments) ∙ append-nil run.records in
    let same : round_end run t (outs_at net t run) (turns_at net t run) None ≡ run =
    λ i. record { at = record { moments = moments i; inputs = inputs i }; records = records i; fault = sym at.going i } in
    subst (Stand net (suc (suc t))) same (round_on net t run at n stop)

-- ---- the time of the next round

time_top : {S : Type 0} (at : Configuration S) → round_time at ≤ never
time_top at = let l = least_top at.moments in omega (arith, l)
  where
    least_top : {S : Type 0} (nows : List (Moment S)) → least_due nows ≤ never
    least_top [] = omega arith
    least_top (now ∷ nows) = let ih = least_top nows in omega (arith, ih)

least_of_two : (s a b : ℕ) → IsDue s a → IsDue s b → IsDue s (min a b)
least_of_two s a b p q = ⊎_elim (λ l. let e : a ≡ min a b = omega (arith, l) in subst (IsDue s) e p) (λ l. let e : b ≡ min a b = omega (arith, l) in subst (IsDue s) e q) (cases_lt a b)

due_least : {S : Type 0} (s : ℕ) (nows : List (Moment S)) → s ≤ never → ((i : ℕ) (now : Moment S) → slice_get nows i ≡ Some now → IsDue s now.due)
    → IsDue s (least_due nows)
due_least s [] n h = (n, inr refl)
due_least s (now ∷ nows) n h = least_of_two s now.due (least_due nows) (h 0 now refl) (due_least s nows n (λ i x q. h (suc i) x q))

input_least : (s : ℕ) (ms : List Message) → s ≤ never → AllAfter s ms → IsDue s (least_input ms)
input_least s [] n a = (n, inr refl)
input_least s (m ∷ ms) n a =
    let l = a.0 in
    let p = a.1 in
    least_of_two s (m.stamp - 1) (least_input ms) (omega (arith, l), inl (omega (arith, l, p))) (input_least s ms n a.2)

pub time_due : {S : Type 0} (net : Network S) (s : ℕ) (run : Run S) → Stand net s run → s ≤ never → IsDue s (round_time run.at)
time_due net s run at n = least_of_two s (least_due run.at.moments) (least_input run.at.inputs) (due_least s run.at.moments n at.dues) (input_least s run.at.inputs n at.given)

-- up to the next round
idle_to : {S : Type 0} (net : Network S) (s : ℕ) (run : Run S) → Stand net s run → (j : ℕ) → s + (j + j) ≤ round_time run.at
    → Stand net (s + (j + j)) run
idle_to net s run at zero l = let e : s ≡ s + (zero + zero) = omega arith in subst (λ n. Stand net n run) e at
idle_to net s run at (suc j) l =
    let top = time_top run.at in
    let before = idle_to net s run at j (omega (arith, l)) in
    let e : suc (suc (s + (j + j))) ≡ s + (suc j + suc j) = omega arith in
    subst (λ n. Stand net n run) e (idle_stand net (s + (j + j)) run before (omega (arith, l)) (omega (arith, l, top)))

stand_at : {S : Type 0} (net : Network S) (s t : ℕ) (run : Run S) → Stand net s run → s ≤ t → t ≤ round_time run.at → phase_of t ≡ 0 → Stand net t run
stand_at net s t run at l m p =
    let q = at.even in
    let j : ℕ = (t - s) / 2 in
    let e : s + (j + j) ≡ t = omega (arith, p, q, l) in
    subst (λ n. Stand net n run) e (idle_to net s run at j (omega (arith, e, m)))

-- ---- all rounds

-- the run stands at b, or has ended in a fault before it
pub data Reached {S : Type 0} (net : Network S) (b : ℕ) (run : Run S) : Type 0 where
  Running : Stand net b run → Reached net b run
  Faulted : (f : ℕ) → f < b → Ended net f run → Reached net b run

-- with fuel for the stamps that are left
go : {S : Type 0} (net : Network S) (bound b : ℕ) → bound ≤ b → b ≤ bound + 1 → phase_of b ≡ 0 → b < never → (n s : ℕ) (run : Run S) → Stand net s run
    → s ≤ b → b ≤ s + (n + n) → Reached net b (rounds_from net bound n run None)
go net bound b low high even top zero s run at l m = let e : s ≡ b = omega (arith, l, m) in Running (subst (λ n. Stand net n run) e at)
go {S} net bound b low high even top (suc n) s run at l m =
    let due = time_due net s run at (omega (arith, l, top)) in
    let from = due.0 in
    let either = due.1 in
    let t : ℕ = round_time run.at in
    ⊎_elim
    (λ before.
    let p : phase_of t ≡ 0 = omega (arith, either, before, low, top, high) in
    let here = stand_at net s t run at from (omega arith) p in
    let next : suc (suc t) ≤ b = omega (arith, p, even, before, low) in
    let fuel : b ≤ suc (suc t) + (n + n) = omega (arith, m, from) in
    subst (Reached net b) (sym (from_round net bound n run before))
    (one_round net bound b n t run here (omega (arith, next, top)) next
    (go net bound b low high even top n (suc (suc t)) (round_end run t (outs_at net t run) (turns_at net t run) None))
    fuel (first_stop 0 (turns_at net t run)) refl))
    (λ after.
    let within : b ≤ t = omega (arith, after, low, high, even, either, top) in
    subst (Reached net b) (sym (from_rest net bound (suc n) run after)) (Running (stand_at net s b run at l within even)))
    (cases_lt t bound)
  where
    one_round : {S : Type 0} (net : Network S) (bound b n t : ℕ) (run : Run S) → Stand net t run → t + 1 < never → suc (suc t) ≤ b
        → (Stand net (suc (suc t)) (round_end run t (outs_at net t run) (turns_at net t run) None) → suc (suc t) ≤ b → b ≤ suc (suc t) + (n + n) → Reached net b (rounds_from net bound n (round_end run t (outs_at net t run) (turns_at net t run) None) None))
        → b ≤ suc (suc t) + (n + n) → (o : Option (ℕ × Limit)) → first_stop 0 (turns_at net t run) ≡ o
        → Reached net b (rounds_from net bound n (round net run t) (round net run t).fault)
    one_round net bound b n t run at top next on fuel None e =
        subst (λ r. Reached net b (rounds_from net bound n r r.fault)) (sym (round_by net t run None e)) (on (round_on net t run at top e) next fuel)
    one_round net bound b n t run at top next on fuel (Some f) e =
        let ended = round_end run t (outs_at net t run) (turns_at net t run) (Some f) in
        subst (λ r. Reached net b (rounds_from net bound n r r.fault)) (sym (round_by net t run (Some f) e))
        (subst (Reached net b) (sym (from_fault net bound n ended (met_by f.0 (t + 1) f.1))) (Faulted (suc t) (omega (arith, next)) (round_stop net t run at top f e)))

-- ---- the start

start_own : {S : Type 0} (models : List (Meaning S)) (i : ℕ) → slice_get (map start_moment models) i ≡ option_map start_moment (slice_get models i)
start_own [] i = refl
start_own (x ∷ xs) zero = refl
start_own (x ∷ xs) (suc i) = start_own xs i

first_is_due : (o : Option ℕ) → IsDue 0 (first_due o)
first_is_due None = (omega arith, inr refl)
first_is_due (Some d) = (omega arith, inl (omega arith))

start_due : {S : Type 0} (o : Option (Meaning S)) (now : Moment S) → option_map start_moment o ≡ Some now → IsDue 0 now.due
start_due None now e = absurd (cc e)
start_due (Some model) now e = let q : start_moment model ≡ now = cc e in subst (λ m. IsDue 0 m.due) q (first_is_due (model.ta model.start))

after_start : (ms : List Message) → AllPhaseOne ms → AllAfter 0 ms
unfolding AllPhaseOne
after_start [] a = tt
after_start (m ∷ ms) a = let p = a.0 in (omega (arith, p), p, after_start ms a.1)

stand_start : {S : Type 0} (net : Network S) → AllPhaseOne net.inputs
    → Stand net 0 (record { at = record { moments = start_moments net; inputs = net.inputs }; records = []; fault = None })
unfolding clock
stand_start net given = record {
  even = omega arith;
  going = refl;
  size = length-map net.models start_moment;
  moments = λ c. start_own net.models c;
  dues = λ c now q. start_due (slice_get net.models c) now (sym (start_own net.models c) ∙ q);
  inputs = λ x l. refl;
  given = after_start net.inputs given;
  records = λ c. refl;
  trace = tt;
  past = tt;
  quiet = λ c r l. absurd (omega (arith, l));
}

-- the rounds of a bound, at the first output stamp not before it
pub rounds_reach : {S : Type 0} (net : Network S) (bound b : ℕ) → AllPhaseOne net.inputs → bound ≤ b → b ≤ bound + 1 → phase_of b ≡ 0 → b < never
    → Reached net b (rounds net bound)
unfolding rounds
rounds_reach net bound b given low high even top = go net bound b low high even top bound 0 _ (stand_start net given) (omega arith) (omega (arith, low, high, even))
