-- The law of committed history: local runs that balance are the rounds.
use Rattle.std.proofs.Common.{◌≡◌, ℕ, zero, suc, ◌+◌, ◌-◌, ◌<◌, ◌≤◌, ◌⊎◌, ◌==◌, nat_lt, length, List, [], ◌++◌, take, drop, refl, sym, ap, ◌∙◌, subst, inl, inr, ⊎_elim, arith, eq-eqb, ne_eqb, lt-ltb, le-ltb, Option, Some, None, slice_get}
use Rattle.std.proofs.lemmas.Bool.{cases_eq, cases_lt, cond-true, cond-false}
use Rattle.tw_msgs.specs.declared.message.Message.{Message}
use Rattle.tw_msgs.specs.declared.record.Record.{Record}
use Rattle.tw_vtime.specs.Stamps.{stamp, max_tick, phase_of}
use Rattle.tw_vtime.specs.declared.limits.Limit.{Limit}
use Rattle.tw_theory.specs.Balance.{all_consumed}
use Rattle.tw_theory.specs.Bundles.{first_stamp}
use Rattle.tw_theory.specs.Contents.{before_all, steps_before, records_of, sent_by}
use Rattle.tw_theory.specs.Network.{Network}
use Rattle.tw_theory.specs.Simulator.{Fault, Stops, all_sent, Run, rounds, sequential, up_to, records_before, due_from, moment_at}
use Rattle.tw_theory.specs.Transitions.{Moment, output}
use Rattle.tw_laws.specs.History.{count, sum_below, AreInputs, Holdings, StandsTo, sent_count, IsRunTo, IsCommitted}
use Rattle.tw_laws.proofs.History.Agreement.{made, own_run, Ready, Follows, clocked_law}
use Rattle.tw_laws.proofs.History.Clock.{NoLimit, sent_below, sent_in_all, clock, clock_step, alone, alone_step, AllFrom, Kept}
use Rattle.tw_laws.proofs.History.Components.{own, before, before_is, own_before}
use Rattle.tw_laws.proofs.History.Counts.{count-append, all_sent-append}
use Rattle.tw_laws.proofs.History.GoingOn.{clock_goes_on, clock_before}
use Rattle.tw_laws.proofs.History.LocalRuns.{Ahead, Come, RunFacts, leads_facts, leads_ends, records_split}
use Rattle.tw_laws.proofs.History.RoundBags.{after_out, even_place}
use Rattle.tw_laws.proofs.History.Rounds.{Stand, Reached, Running, Faulted, met_by, rounds_reach}

-- the records before s of a run that has come to e
records_are : {S : Type 0} (net : Network S) (c s e : ℕ) (run : Run S) → own c run.records ≡ (clock net e).records c → s ≤ e
    → before s (own c run.records) ≡ (clock net s).records c
records_are net c s e run is l =
    let j : ℕ = e - s in
    let q : s + j ≡ e = omega (arith, l) in
    let on = clock_goes_on net c s j in
    before_is s (own c run.records) ((clock net s).records c) on.more (is ∙ ap (λ n. (clock net n).records c) (sym q) ∙ on.is) (clock_before net c s) on.from

-- ---- where a component stands at a stamp

due_kept : {S : Type 0} (s : ℕ) (o : Option (Moment S)) → ((now : Moment S) → o ≡ Some now → s ≤ now.due) → due_from s o ≡ o
due_kept s None h = refl
due_kept s (Some now) h =
    let e = cond-false (nat_lt now.due s) (now.due + 1) now.due (le-ltb now.due s (h now refl)) in
    λ i. Some (record { state = now.state; last = now.last; due = e i })

due_out : {S : Type 0} (net : Network S) (c b : ℕ) (o : Option (Moment S)) → ((now : Moment S) → o ≡ Some now → b ≤ now.due)
    → due_from (suc b) o ≡ after_out net b c o
unfolding output
due_out net c b None h = refl
due_out {S} net c b (Some now) h = ⊎_elim out still (cases_eq now.due b)
  where
    out : now.due ≡ b → due_from (suc b) (Some now) ≡ after_out net b c (Some now)
    out e =
        let d : (now.due + 1) ≡ b + 1 = omega (arith, e) in
        let f = cond-true (nat_lt now.due (suc b)) (now.due + 1) now.due (lt-ltb now.due (suc b) (omega (arith, e))) ∙ d in
        let left : due_from (suc b) (Some now) ≡ Some (output net c now b).after = λ i. Some (record { state = now.state; last = now.last; due = f i }) in
        left ∙ ap Some (sym (cond-true (now.due == b) (output net c now b).after now (eq-eqb now.due b e)))

    still : (now.due ≡ b → ⊥) → due_from (suc b) (Some now) ≡ after_out net b c (Some now)
    still k =
        let l = h now refl in
        let e = cond-false (nat_lt now.due (suc b)) (now.due + 1) now.due (le-ltb now.due (suc b) (omega (arith, k, l))) in
        let left : due_from (suc b) (Some now) ≡ Some now = λ i. Some (record { state = now.state; last = now.last; due = e i }) in
        left ∙ ap Some (sym (cond-false (now.due == b) (output net c now b).after now (ne_eqb now.due b k)))

due_ahead : {S : Type 0} (s b : ℕ) (o : Option (Moment S)) (from : Moment S) → s ≤ b + 1 → ((now : Moment S) → o ≡ Some now → b ≤ now.due)
    → due_from s o ≡ Some from → s ≤ from.due
due_ahead s b None from l h e = absurd (cc e)
due_ahead s b (Some now) from l h e = ⊎_elim less more (cases_lt now.due s)
  where
    less : now.due < s → s ≤ from.due
    less m =
        let f = cond-true (nat_lt now.due s) (now.due + 1) now.due (lt-ltb now.due s m) in
        let left : due_from s (Some now) ≡ Some (record { state = now.state; last = now.last; due = now.due + 1 }) = λ i. Some (record { state = now.state; last = now.last; due = f i }) in
        let q : record { state = now.state; last = now.last; due = now.due + 1 } ≡ from = cc (sym left ∙ e) in
        let d = ap (λ m. m.due) q in
        let k = h now refl in
        omega (arith, d, k, l)

    more : s ≤ now.due → s ≤ from.due
    more m =
        let f = due_kept s (Some now) (λ x q. let d : now ≡ x = cc q in subst (λ y. s ≤ y.due) d m) in
        let q : now ≡ from = cc (sym f ∙ e) in
        subst (λ y. s ≤ y.due) q m

-- the simulator's moment is the clock's place
pub record MomentIs {S : Type 0} (net : Network S) (until c s : ℕ) : Type 0 where
  pub is : moment_at net until c s ≡ (clock net s).place c
  pub due : (from : Moment S) → moment_at net until c s ≡ Some from → s ≤ from.due

stand_moment : {S : Type 0} (net : Network S) (until c s b : ℕ) (run : Run S) → Stand net b run → (s ≡ b) ⊎ (s ≡ suc b) → up_to until s ≡ s
    → rounds net (up_to until s - 1) ≡ run → MomentIs net until c s
unfolding clock
stand_moment {S} net until c s b run at place u e = ⊎_elim even odd place
  where
    ahead : (now : Moment S) → slice_get run.at.moments c ≡ Some now → b ≤ now.due
    ahead now q = (at.dues c now q).0

    moved : moment_at net until c s ≡ due_from s (slice_get run.at.moments c)
    moved = ap (λ n. due_from n (slice_get (rounds net (up_to until s - 1)).at.moments c)) u ∙ ap (λ r. due_from s (slice_get r.at.moments c)) e

    even : s ≡ b → MomentIs net until c s
    even q = record {
      is = moved ∙ due_kept s (slice_get run.at.moments c) (λ now k. let d = ahead now k in omega (arith, d, q)) ∙ at.moments c ∙ ap (λ n. (clock net n).place c) (sym q);
      due = λ from f. due_ahead s b (slice_get run.at.moments c) from (omega (arith, q)) ahead (sym moved ∙ f);
    }

    odd : s ≡ suc b → MomentIs net until c s
    odd q = record {
      is =
          moved ∙ ap (λ n. due_from n (slice_get run.at.moments c)) q ∙ due_out net c b (slice_get run.at.moments c) ahead ∙ ap (after_out net b c) (at.moments c)
          ∙ sym (even_place net c b _ ((clock net b).place c) at.even) ∙ ap (λ n. (clock net n).place c) (sym q);
      due = λ from f. due_ahead s b (slice_get run.at.moments c) from (omega (arith, q)) ahead (sym moved ∙ f);
    }

reached_moment : {S : Type 0} (net : Network S) (until c s b : ℕ) (run : Run S) → Reached net b run → b ≤ s
    → ((d r : ℕ) → d < length net.models → r < s → NoLimit (clock_step net d r)) → (s ≡ b) ⊎ (s ≡ suc b) → up_to until s ≡ s
    → rounds net (up_to until s - 1) ≡ run → MomentIs net until c s
unfolding NoLimit
reached_moment net until c s b run (Running at) l calm place u e = stand_moment net until c s b run at place u e
reached_moment net until c s b run (Faulted f m ended) l calm place u e = absurd (subst NoLimit ended.stops (calm ended.component f ended.below (omega (arith, l, m))))

moment_is : {S : Type 0} (net : Network S) (until c s : ℕ) → Rattle.tw_laws.specs.History.AllPhaseOne net.inputs → s ≤ stamp until 0 0
    → until ≤ max_tick → ((d r : ℕ) → d < length net.models → r < s → NoLimit (clock_step net d r)) → MomentIs net until c s
moment_is net until c s given l m calm =
    ⊎_elim
    (λ p. at s (omega arith) (omega arith) p (inl refl))
    (λ p. at (s - 1) (omega arith) (omega arith) (let q : (phase_of s ≡ 0 → ⊥) = p in omega (arith, q)) (inr (let q : (phase_of s ≡ 0 → ⊥) = p in omega (arith, q))))
    (cases_eq (phase_of s) 0)
  where
    at : (b : ℕ) → b ≤ s → s - 1 ≤ b → phase_of b ≡ 0 → (s ≡ b) ⊎ (s ≡ suc b) → MomentIs net until c s
    at b low high even place =
        let bound : ℕ = up_to until s - 1 in
        let reached = rounds_reach net bound b given (omega (arith, l, high)) (omega (arith, l, low, high)) even (omega (arith, l, low, m)) in
        reached_moment net until c s b (rounds net bound) reached low calm place (omega (arith, l)) refl

-- ---- how far the simulator comes

-- the stamp up to which the sequential run goes: its bound, or its fault's stamp
pub record Extent {S : Type 0} (net : Network S) (until e : ℕ) : Type 0 where
  pub within : e ≤ stamp until 0 0
  pub calm : (d r : ℕ) → r < e → NoLimit (clock_step net d r)
  pub records : (c : ℕ) → own c (sequential net until).records ≡ (clock net e).records c
  pub fault : (f : Fault) → (sequential net until).fault ≡ Some f
      → (f.stamp ≡ e) × (f.component < length net.models) × (clock_step net f.component e ≡ Stops f.limit) × ((d : ℕ) → d < f.component → NoLimit (clock_step net d e))
  pub ends : (e ≡ stamp until 0 0) ⊎ ((b : ℕ) × (limit : Limit) × ((sequential net until).fault ≡ Some (met_by b e limit)))

reached_extent : {S : Type 0} (net : Network S) (until : ℕ) (run : Run S) → sequential net until ≡ run → Reached net (stamp until 0 0) run
    → (e : ℕ) × Extent net until e
reached_extent net until run q (Running at) = (
  stamp until 0 0,
  record {
    within = omega arith;
    calm = at.quiet;
    records = λ c. ap (λ r. own c r.records) q ∙ at.records c;
    fault = λ f k. let none = sym (ap (λ r. r.fault) q ∙ at.going) ∙ k in absurd (cc none);
    ends = inl refl;
  },
)
reached_extent {S} net until run q (Faulted f m ended) = (
  f,
  record {
    within = omega (arith, m);
    calm = ended.quiet;
    records = λ c. ap (λ r. own c r.records) q ∙ ended.records c;
    fault = λ g k. fault g k;
    ends = inr (ended.component, ended.limit, ap (λ r. r.fault) q ∙ ended.fault);
  },
)
  where
    fault : (g : Fault) → (sequential net until).fault ≡ Some g
        → (g.stamp ≡ f) × (g.component < length net.models) × (clock_step net g.component f ≡ Stops g.limit) × ((d : ℕ) → d < g.component → NoLimit (clock_step net d f))
    fault g k =
        let one : met_by ended.component f ended.limit ≡ g = cc (sym (ap (λ r. r.fault) q ∙ ended.fault) ∙ k) in
        let b : ended.component ≡ g.component = ap (λ (x : Fault). x.component) one in
        let below = ended.below in
        (sym (ap (λ (x : Fault). x.stamp) one), omega (arith, b, below), ap (λ d. clock_step net d f) (sym b) ∙ ended.stops ∙ ap (λ (x : Fault). Stops x.limit) one, λ d l. ended.least d (omega (arith, b, l)))

pub extent : {S : Type 0} (net : Network S) (until : ℕ) → Rattle.tw_laws.specs.History.AllPhaseOne net.inputs → until ≤ max_tick
    → (e : ℕ) × Extent net until e
unfolding sequential
extent net until given m = reached_extent net until (rounds net (stamp until 0 0)) refl (rounds_reach net (stamp until 0 0) (stamp until 0 0) given (omega arith) (omega arith) (omega arith) (omega (arith, m)))

records_is : {S : Type 0} (net : Network S) (until e c s : ℕ) → Extent net until e → s ≤ e → records_before net until c s ≡ (clock net s).records c
records_is net until e c s x l =
    let top = x.within in
    let u : up_to until s ≡ s = omega (arith, top, l) in
    own_before c (up_to until s) (sequential net until).records ∙ ap (λ n. before n (own c (sequential net until).records)) u ∙ records_are net c s e (sequential net until) (x.records c) l

-- ---- from what is held to the clock

abbrev pub kept : {S : Type 0} → Holdings S → Kept
kept h = record { line = h.line; column = h.column; history = λ c. records_of (h.history c); inputs = h.inputs; waiting = h.waiting }

-- each line is at or before the extent
line_within : {S : Type 0} (net : Network S) (until g e : ℕ) (h : Holdings S) → IsRunTo net until g h → Extent net until e → (c : ℕ)
    → c < length net.models → h.line c ≤ e
line_within net until g e h run_to x c below =
    ⊎_elim (λ q. let l = run_to.lines c below in let u = run_to.horizon in omega (arith, q, l, u)) (λ f. run_to.unstopped c (met_by f.0 e f.1) below f.2) x.ends

-- what the local run of a component that stands comes to
pub record Local {S : Type 0} (net : Network S) (until g : ℕ) (h : Holdings S) (c k : ℕ) (now : Moment S) : Type 0 where
  pub facts : RunFacts net (h.line c) g (h.history c)
  pub come : Come net c (h.inputs c) ((clock net (h.line c)).place c) (h.line c) k (before_all (drop (steps_before g (h.history c)) (h.history c)) now) (records_of (take (steps_before g (h.history c)) (h.history c)))

-- the simulator's place at its line
pub line_moment : {S : Type 0} (net : Network S) (until g e : ℕ) (h : Holdings S) → IsRunTo net until g h → until ≤ max_tick → Extent net until e
    → (c : ℕ) → c < length net.models → MomentIs net until c (h.line c)
line_moment net until g e h run_to m x c below =
    let within = line_within net until g e h run_to x c below in
    let top = x.within in
    moment_is net until c (h.line c) run_to.given (omega (arith, within, top)) m (λ d r l n. x.calm d r (omega (arith, n, within)))

-- it stands ahead of any stamp that neither its line nor its inputs are before
pub ahead_of : {S : Type 0} (net : Network S) (until g : ℕ) (h : Holdings S) (c t : ℕ) → MomentIs net until c (h.line c) → AreInputs c (h.inputs c)
    → (stand : StandsTo net until g h c) → t ≤ h.line c → t ≤ first_stamp (h.inputs c) → Ahead c (h.inputs c) t stand.from (h.inputs c)
ahead_of net until g h c t moment are stand l f =
    let due = moment.due stand.from stand.from_is in
    record { due = omega (arith, due, l); first = f; are = are; same = λ r k. refl }

pub facts_at : {S : Type 0} (net : Network S) (until g e : ℕ) (h : Holdings S) → IsRunTo net until g h → until ≤ max_tick → Extent net until e
    → (c t : ℕ) → c < length net.models → t ≤ h.line c → t ≤ first_stamp (h.inputs c) → RunFacts net t g (h.history c)
facts_at net until g e h run_to m x c t below l f =
    let stand = run_to.stands c below in
    leads_facts net c (h.inputs c) g (h.history c) t stand.from (h.inputs c) stand.now stand.pending
    (ahead_of net until g h c t (line_moment net until g e h run_to m x c below) (run_to.inputs c below) stand l f) stand.runs

pub local_of : {S : Type 0} (net : Network S) (until g e : ℕ) (h : Holdings S) → IsRunTo net until g h → until ≤ max_tick → Extent net until e
    → (c k : ℕ) → c < length net.models → h.line c ≤ first_stamp (h.inputs c) → h.line c + k ≡ g → (stand : StandsTo net until g h c)
    → Local net until g h c k stand.now
unfolding alone
local_of net until g e h run_to m x c k below free at stand =
    let horizon = run_to.horizon in
    let moment = line_moment net until g e h run_to m x c below in
    let place : (clock net (h.line c)).place c ≡ Some stand.from = sym moment.is ∙ stand.from_is in
    let ahead = ahead_of net until g h c (h.line c) moment (run_to.inputs c below) stand (omega arith) free in
    let zero_at : h.line c ≡ h.line c + 0 = omega arith in
    let ends =
    leads_ends net c (h.inputs c) ((clock net (h.line c)).place c) (h.line c) k g at (omega (arith, horizon, m)) (h.history c) 0 stand.from (h.inputs c) [] stand.now stand.pending (omega (arith, at))
    (record { place = place; records = refl; quiet = λ j l. absurd (omega (arith, l)) })
    (subst (λ n. Ahead c (h.inputs c) n stand.from (h.inputs c)) zero_at ahead) stand.runs stand.next in
    record {
      facts = leads_facts net c (h.inputs c) g (h.history c) (h.line c) stand.from (h.inputs c) stand.now stand.pending ahead stand.runs;
      come = ends.come;
    }

pub made_count : {S : Type 0} (net : Network S) (h : Holdings S) (x : Message)
    → ((c : ℕ) → c < length net.models → sent_by (h.history c) ≡ all_sent net (records_of (h.history c))) → (n : ℕ) → n ≤ length net.models
    → count x (sent_below net (made (kept h)) n) ≡ sum_below (λ c. count x (all_sent net (h.column c)) + count x (sent_by (h.history c))) n
unfolding sent_below sum_below
made_count net h x sent zero l = refl
made_count net h x sent (suc n) l =
    let ih = made_count net h x sent n (omega (arith, l)) in
    let a = count-append x (sent_below net (made (kept h)) n) (all_sent net (h.column n ++ records_of (h.history n))) in
    let b : count x (all_sent net (h.column n ++ records_of (h.history n))) ≡ count x (all_sent net (h.column n)) + count x (all_sent net (records_of (h.history n))) =
    ap (count x) (all_sent-append net (h.column n) (records_of (h.history n))) ∙ count-append x (all_sent net (h.column n)) (all_sent net (records_of (h.history n))) in
    let d = ap (count x) (sent n (omega (arith, l))) in
    omega (arith, ih, a, b, d)

pub ready : {S : Type 0} (net : Network S) (until g e : ℕ) (h : Holdings S) → IsRunTo net until g h → until ≤ max_tick → Extent net until e
    → Ready net g (kept h)
ready {S} net until g e h run_to m x = record {
  lines = run_to.lines;
  unstopped = λ b c s p q l. x.calm c s (let w = line_within net until g e h run_to x b p in omega (arith, l, w));
  columns = λ c p. run_to.columns c p ∙ records_is net until e c (h.line c) x (line_within net until g e h run_to x c p);
  top = (let u = run_to.horizon in omega (arith, u, m));
  places = places;
  inputs = run_to.inputs;
  early = λ c t p l f. (facts_at net until g e h run_to m x c t p l f).from;
  histories = histories;
  unlimited = unlimited;
  balance = balance;
  apart = run_to.apart;
}
  where
    loc : (c k : ℕ) → (p : c < length net.models) → h.line c ≤ first_stamp (h.inputs c) → h.line c + k ≡ g
        → Local net until g h c k (run_to.stands c p).now
    loc c k p f at = local_of net until g e h run_to m x c k p f at (run_to.stands c p)

    places : (c : ℕ) → c < length net.models → (from : Moment S) × ((clock net (h.line c)).place c ≡ Some from)
    places c p =
        let moment = line_moment net until g e h run_to m x c p in
        let stand = run_to.stands c p in
        (stand.from, sym moment.is ∙ stand.from_is)

    histories : (c k : ℕ) → c < length net.models → h.line c ≤ first_stamp (h.inputs c) → h.line c + k ≡ g
        → (later : List Record) × (records_of (h.history c) ≡ (own_run net (kept h) c k).records ++ later) × AllFrom g later
    histories c k p f at =
        let l = loc c k p f at in (
          records_of (drop (steps_before g (h.history c)) (h.history c)),
          records_split (steps_before g (h.history c)) (h.history c) ∙ ap (λ r. r ++ records_of (drop (steps_before g (h.history c)) (h.history c))) (sym l.come.records),
          l.facts.later,
        )

    unlimited : (c k : ℕ) → c < length net.models → h.line c ≤ first_stamp (h.inputs c) → h.line c + k < g
        → NoLimit (alone_step net c (h.inputs c) (h.line c + k) (own_run net (kept h) c k))
    unlimited c k p f l =
        let j : ℕ = g - h.line c in
        let at : h.line c + j ≡ g = omega (arith, l) in
        (loc c j p f at).come.quiet k (omega (arith, l))

    sent : (c : ℕ) → c < length net.models → sent_by (h.history c) ≡ all_sent net (records_of (h.history c))
    sent c p = (facts_at net until g e h run_to m x c 0 p (omega arith) (omega arith)).sent

    balance : (y : Message) → y.to < length net.models → y.stamp < g
        → count y (sent_in_all net (made (kept h))) + count y (h.waiting y.to) ≡ count y (all_consumed (h.column y.to)) + count y (h.inputs y.to)
    balance y p l =
        let a = count-append y net.inputs (sent_below net (made (kept h)) (length net.models)) in
        let b = made_count net h y sent (length net.models) (omega arith) in
        let d = run_to.balance y p l in
        omega (arith, a, b, d)

-- ---- the law

pub committed_history : {S : Type 0} (net : Network S) (until g : ℕ) (h : Holdings S) → until ≤ max_tick → IsRunTo net until g h
    → IsCommitted net until g h
unfolding NoLimit
committed_history {S} net until g h m run_to =
    let x = extent net until run_to.given m in
    by x.0 x.1 (clocked_law net g (kept h) (ready net until g x.0 h run_to m x.1))
  where
    by : (e : ℕ) → Extent net until e → Follows net g (kept h) → IsCommitted net until g h
    by e x follows = record { unstopped = unstopped; records = records; moment = moment }
      where
        unstopped : (met : Fault) → (sequential net until).fault ≡ Some met → g ≤ met.stamp
        unstopped met q =
            let f = x.fault met q in
            let at : met.stamp ≡ e = f.0 in
            ⊎_elim (λ l. absurd (subst NoLimit f.2 (follows.unstopped met.component e f.1 (omega (arith, l, at))))) (λ l. l) (cases_lt met.stamp g)

        reach : g ≤ e
        reach = ⊎_elim (λ q. let u = run_to.horizon in omega (arith, q, u)) (λ f. unstopped (met_by f.0 e f.1) f.2) x.ends

        records : (c : ℕ) → c < length net.models
            → h.column c ++ records_of (take (steps_before g (h.history c)) (h.history c)) ≡ records_before net until c g
        records c p =
            let k : ℕ = g - h.line c in
            let at : h.line c + k ≡ g = (let l = run_to.lines c p in omega (arith, l)) in
            let l = local_of net until g e h run_to m x c k p (follows.ahead c p) at (run_to.stands c p) in
            ap (λ r. h.column c ++ r) (sym l.come.records) ∙ follows.records c k p at ∙ sym (records_is net until e c g x reach)

        moment : (c : ℕ) → c < length net.models → (stand : StandsTo net until g h c)
            → moment_at net until c g ≡ Some (before_all (drop (steps_before g (h.history c)) (h.history c)) stand.now)
        moment c p stand =
            let k : ℕ = g - h.line c in
            let at : h.line c + k ≡ g = (let l = run_to.lines c p in omega (arith, l)) in
            let l = local_of net until g e h run_to m x c k p (follows.ahead c p) at stand in
            let is = moment_is net until c g run_to.given run_to.horizon m follows.unstopped in
            is.is ∙ sym (follows.place c k p at) ∙ l.come.place

-- ---- the fault's stamp

faulted_before : {S : Type 0} (net : Network S) (until : ℕ) (run : Run S) → sequential net until ≡ run → Reached net (stamp until 0 0) run
    → (met : Fault) → (sequential net until).fault ≡ Some met
    → (met.component < length net.models) × (met.stamp < stamp until 0 0) × (phase_of met.stamp ≡ 1)
faulted_before net until run q (Running at) met k = let none = sym (ap (λ r. r.fault) q ∙ at.going) ∙ k in absurd (cc none)
faulted_before net until run q (Faulted f m ended) met k =
    let fault : met_by ended.component f ended.limit ≡ met = cc (sym (ap (λ r. r.fault) q ∙ ended.fault) ∙ k) in
    let component : ended.component ≡ met.component = ap (λ (x : Fault). x.component) fault in
    let at : f ≡ met.stamp = ap (λ (x : Fault). x.stamp) fault in
    let below = ended.below in
    let odd = ended.odd in
    (omega (arith, component, below), omega (arith, at, m), omega (arith, at, odd))

pub fault_stamp : {S : Type 0} (net : Network S) (until : ℕ) → until ≤ max_tick → Rattle.tw_laws.specs.History.AllPhaseOne net.inputs
    → (met : Fault) → (sequential net until).fault ≡ Some met
    → (met.component < length net.models) × (met.stamp < stamp until 0 0) × (phase_of met.stamp ≡ 1)
unfolding sequential
fault_stamp net until m given =
    faulted_before net until (rounds net (stamp until 0 0)) refl (rounds_reach net (stamp until 0 0) (stamp until 0 0) given (omega arith) (omega arith) (omega arith) (omega (arith, m)))
