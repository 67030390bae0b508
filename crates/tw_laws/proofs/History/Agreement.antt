-- Local runs that balance are the network's run, both by the clock.
use Rattle.std.proofs.Common.{◌≡◌, ℕ, zero, suc, ◌+◌, ◌-◌, ◌<◌, ◌≤◌, ◌⊎◌, length, List, [], ◌∷◌, ◌++◌, refl, sym, ap, ◌∙◌, subst, inl, inr, ⊎_elim, arith, append_assoc, append-nil, Some}
use Rattle.std.proofs.lemmas.Bool.{cases_lt, cases_eq}
use Rattle.tw_msgs.specs.declared.message.Message.{Message}
use Rattle.tw_msgs.specs.declared.record.Record.{Record}
use Rattle.tw_vtime.specs.Stamps.{never, phase_of}
use Rattle.tw_theory.specs.Balance.{all_consumed}
use Rattle.tw_theory.specs.Bundles.{first_stamp}
use Rattle.tw_theory.specs.Network.{Network}
use Rattle.tw_theory.specs.Simulator.{all_sent}
use Rattle.tw_theory.specs.Transitions.{Moment}
use Rattle.tw_laws.specs.History.{count, AreInputs}
use Rattle.tw_laws.proofs.History.Bags.{bag_same}
use Rattle.tw_laws.proofs.History.Clock.{act_if, sent_below, sent_in_all, bag_of, record_after, place_after, NoLimit, clock, clock_step, Alone, alone, alone_step, AllFrom, AllBefore, Kept}
use Rattle.tw_laws.proofs.History.Consumed.{column_consumes}
use Rattle.tw_laws.proofs.History.Counts.{count-append, sent_from, consumed_before, all_sent-append, count_self}
use Rattle.tw_laws.proofs.History.GoingOn.{GoesOn, goes_on_by, clock_goes_on, clock_before, alone_goes_on}

-- what component c committed and did since
abbrev pub made : Kept → ℕ → List Record
made h c = h.column c ++ h.history c

-- c's local run from its line, after k stamps
abbrev pub own_run : {S : Type 0} (net : Network S) → Kept → (c k : ℕ) → Alone S
own_run net h c k = alone net c (h.inputs c) ((clock net (h.line c)).place c) (h.line c) k

-- all local runs were taken up to g, and before g nothing is in transit
pub record Ready {S : Type 0} (net : Network S) (g : ℕ) (h : Kept) : Type 0 where
  pub lines : (c : ℕ) → c < length net.models → h.line c ≤ g
  pub unstopped : (b c s : ℕ) → b < length net.models → c < length net.models → s < h.line b → NoLimit (clock_step net c s)
  pub columns : (c : ℕ) → c < length net.models → h.column c ≡ (clock net (h.line c)).records c
  pub top : g ≤ never
  pub places : (c : ℕ) → c < length net.models → (from : Moment S) × ((clock net (h.line c)).place c ≡ Some from)
  pub inputs : (c : ℕ) → c < length net.models → AreInputs c (h.inputs c)
  pub early : (c t : ℕ) → c < length net.models → t ≤ h.line c → t ≤ first_stamp (h.inputs c) → AllFrom t (h.history c)
  pub histories : (c k : ℕ) → c < length net.models → h.line c ≤ first_stamp (h.inputs c) → h.line c + k ≡ g
      → (later : List Record) × (h.history c ≡ (own_run net h c k).records ++ later) × AllFrom g later
  pub unlimited : (c k : ℕ) → c < length net.models → h.line c ≤ first_stamp (h.inputs c) → h.line c + k < g
      → NoLimit (alone_step net c (h.inputs c) (h.line c + k) (own_run net h c k))
  pub balance : (x : Message) → x.to < length net.models → x.stamp < g
      → count x (sent_in_all net (made h)) + count x (h.waiting x.to) ≡ count x (all_consumed (h.column x.to)) + count x (h.inputs x.to)
  pub apart : (x : Message) → x.to < length net.models → x.stamp < g → (count x (h.waiting x.to) ≡ 0) ⊎ (count x (h.inputs x.to) ≡ 0)

-- the local runs are the network's run
pub record Follows {S : Type 0} (net : Network S) (g : ℕ) (h : Kept) : Type 0 where
  pub ahead : (c : ℕ) → c < length net.models → h.line c ≤ first_stamp (h.inputs c)
  pub unstopped : (c s : ℕ) → c < length net.models → s < g → NoLimit (clock_step net c s)
  pub records : (c k : ℕ) → c < length net.models → h.line c + k ≡ g → h.column c ++ (own_run net h c k).records ≡ (clock net g).records c
  pub place : (c k : ℕ) → c < length net.models → h.line c + k ≡ g → (own_run net h c k).place ≡ (clock net g).place c

-- steps from a stamp on add nothing to what is sent of that stamp
sent_same : {S : Type 0} (net : Network S) (x : Message) (s : ℕ) (old new : ℕ → List Record) → x.stamp ≤ s → (n : ℕ)
    → ((c : ℕ) → c < n → GoesOn s (old c) (new c)) → count x (sent_below net new n) ≡ count x (sent_below net old n)
unfolding sent_below
sent_same net x s old new h zero g = refl
sent_same net x s old new h (suc n) g =
    let ih = sent_same net x s old new h n (λ c l. g c (omega (arith, l))) in
    let here = g n (omega arith) in
    let split : count x (all_sent net (new n)) ≡ count x (all_sent net (old n)) + count x (all_sent net here.more) =
    ap (λ l. count x (all_sent net l)) here.is ∙ ap (count x) (all_sent-append net (old n) here.more) ∙ count-append x (all_sent net (old n)) (all_sent net here.more) in
    let none = sent_from net x s here.more h here.from in
    let a = count-append x (sent_below net new n) (all_sent net (new n)) in
    let b = count-append x (sent_below net old n) (all_sent net (old n)) in
    omega (arith, ih, split, none, a, b)

all_sent_same : {S : Type 0} (net : Network S) (x : Message) (s : ℕ) (old new : ℕ → List Record) → x.stamp ≤ s
    → ((c : ℕ) → c < length net.models → GoesOn s (old c) (new c)) → count x (sent_in_all net new) ≡ count x (sent_in_all net old)
all_sent_same net x s old new h g =
    let e = sent_same net x s old new h (length net.models) g in
    let a = count-append x net.inputs (sent_below net new (length net.models)) in
    let b = count-append x net.inputs (sent_below net old (length net.models)) in
    omega (arith, e, a, b)

-- at a stamp, each component that is past its line stands as in the whole network
record Agrees {S : Type 0} (net : Network S) (h : Kept) (s c k : ℕ) : Type 0 where
  records : h.column c ++ (own_run net h c k).records ≡ (clock net s).records c
  place : (own_run net h c k).place ≡ (clock net s).place c

abbrev AllAgree : {S : Type 0} → Network S → Kept → ℕ → Type 0
AllAgree net h s = (c k : ℕ) → c < length net.models → h.line c + k ≡ s → Agrees net h s c k

-- no input of component c lies before s and its line
abbrev Free : Kept → ℕ → ℕ → Type 0
Free h s c = (s ≤ first_stamp (h.inputs c)) ⊎ (h.line c ≤ first_stamp (h.inputs c))

abbrev AllFree : {S : Type 0} → Network S → Kept → ℕ → Type 0
AllFree net h s = (c : ℕ) → c < length net.models → Free h s c

-- the history goes on from each moment of the local run
history_goes_on : {S : Type 0} (net : Network S) (g : ℕ) (h : Kept) → Ready net g h → (c k : ℕ) → c < length net.models
    → h.line c ≤ first_stamp (h.inputs c) → h.line c + k ≤ g → GoesOn (h.line c + k) (own_run net h c k).records (h.history c)
history_goes_on net g h run_to c k below free l =
    let j : ℕ = g - (h.line c + k) in
    let reached : h.line c + (k + j) ≡ g = omega arith in
    let all = run_to.histories c (k + j) below free reached in
    let on = goes_on_by (h.line c + k) g (own_run net h c k).records (own_run net h c (k + j)).records all.0 (alone_goes_on net c (h.inputs c) ((clock net (h.line c)).place c) (h.line c) k j) l all.2 in
    subst (λ l. GoesOn (h.line c + k) (own_run net h c k).records l) (sym all.1) on

-- what was made goes on from the whole network's records
made_goes_on : {S : Type 0} (net : Network S) (g : ℕ) (h : Kept) (run_to : Ready net g h) (s : ℕ) → s ≤ g → AllAgree net h s → AllFree net h s
    → (c : ℕ) → c < length net.models → GoesOn s ((clock net s).records c) (made h c)
made_goes_on net g h run_to s l agree free c below = ⊎_elim after before (cases_lt s (h.line c))
  where
    after : s < h.line c → GoesOn s ((clock net s).records c) (made h c)
    after m =
        let either = free c below in
        let from : AllFrom s (h.history c) = run_to.early c s below (omega (arith, m)) (omega (arith, m, either)) in
        let j : ℕ = h.line c - s in
        let e : s + j ≡ h.line c = omega arith in
        let on = subst (λ n. GoesOn s ((clock net s).records c) ((clock net n).records c)) e (clock_goes_on net c s j) in
        let column = subst (λ l. GoesOn s ((clock net s).records c) l) (sym (run_to.columns c below)) on in
        goes_on_by s s ((clock net s).records c) (h.column c) (h.history c) column (omega arith) from

    before : h.line c ≤ s → GoesOn s ((clock net s).records c) (made h c)
    before m =
        let k : ℕ = s - h.line c in
        let e : h.line c + k ≡ s = omega arith in
        let either = free c below in
        let hist = history_goes_on net g h run_to c k below (omega (arith, m, either)) (omega arith) in
        record {
          more = hist.more;
          is = ap (λ l. h.column c ++ l) hist.is ∙ sym (append_assoc (h.column c) (own_run net h c k).records hist.more) ∙ ap (λ l. l ++ hist.more) (agree c k below e).records;
          from = subst (λ n. AllFrom n hist.more) e hist.from;
        }

-- the local bag is the network's
same_bag : {S : Type 0} (net : Network S) (g : ℕ) (h : Kept) (run_to : Ready net g h) (s : ℕ) → s < g → AllAgree net h s → AllFree net h s → (c : ℕ)
    → c < length net.models → h.line c ≤ s → bag_of c s (sent_in_all net (clock net s).records) ≡ bag_of c s (h.inputs c)
same_bag net g h run_to s l agree free c below past = bag_same c s (sent_in_all net (clock net s).records) (h.inputs c) each
  where
    counted : (x : Message) → x.to < length net.models → x.stamp < g → s ≤ x.stamp → x.stamp ≤ s → h.line x.to ≤ s
        → count x (sent_in_all net (clock net s).records) ≡ count x (h.inputs x.to)
    counted x to at from upto line =
        let sent = all_sent_same net x s (clock net s).records (made h) upto (λ d m. made_goes_on net g h run_to s (omega arith) agree free d m) in
        let old : AllBefore (h.line x.to) (h.column x.to) = subst (λ l. AllBefore (h.line x.to) l) (sym (run_to.columns x.to to)) (clock_before net x.to (h.line x.to)) in
        let none = consumed_before x (h.line x.to) (h.column x.to) (omega arith) old in
        let balance = run_to.balance x to at in
        let apart = run_to.apart x to at in
        omega (arith, sent, none, balance, apart)

    each : (x : Message) → x.to ≡ c → x.stamp ≡ s → count x (sent_in_all net (clock net s).records) ≡ count x (h.inputs c)
    each x p q =
        let to : x.to < length net.models = omega (arith, p, below) in
        let at : x.stamp < g = omega (arith, q, l) in
        let line : h.line x.to ≤ s = subst (λ d. h.line d ≤ s) (sym p) past in
        counted x to at (omega (arith, q)) (omega (arith, q)) line ∙ ap (λ d. count x (h.inputs d)) p

-- at its line a component stands as in the whole network
agree_start : {S : Type 0} (net : Network S) (g : ℕ) (h : Kept) → Ready net g h → (s c : ℕ) → c < length net.models → h.line c + 0 ≡ s
    → Agrees net h s c 0
unfolding alone
agree_start net g h run_to s c below e =
    let at : h.line c ≡ s = omega (arith, e) in
    record {
      records = append-nil (h.column c) ∙ run_to.columns c below ∙ ap (λ n. (clock net n).records c) at;
      place = ap (λ n. (clock net n).place c) at;
    }

-- one stamp further
agree_step : {S : Type 0} (net : Network S) (h : Kept) (s c k : ℕ) → h.line c + k ≡ s → Agrees net h s c k
    → bag_of c s (sent_in_all net (clock net s).records) ≡ bag_of c s (h.inputs c) → Agrees net h (suc s) c (suc k)
unfolding alone clock
agree_step net h s c k e a bag =
    let step : alone_step net c (h.inputs c) (h.line c + k) (own_run net h c k) ≡ clock_step net c s =
    ap (λ n. act_if net c n (bag_of c n (h.inputs c)) (own_run net h c k).place) e ∙ ap (λ b. act_if net c s b (own_run net h c k).place) (sym bag) ∙ ap (λ p. act_if net c s (bag_of c s (sent_in_all net (clock net s).records)) p) a.place in
    record {
      records =
          sym (append_assoc (h.column c) (own_run net h c k).records (record_after (alone_step net c (h.inputs c) (h.line c + k) (own_run net h c k))))
          ∙ ap (λ l. l ++ record_after (alone_step net c (h.inputs c) (h.line c + k) (own_run net h c k))) a.records
          ∙ ap (λ t. (clock net s).records c ++ record_after t) step;
      place = ap (λ t. place_after (own_run net h c k).place t) step ∙ ap (λ p. place_after p (clock_step net c s)) a.place;
    }

agree_more : {S : Type 0} (net : Network S) (g : ℕ) (h : Kept) (run_to : Ready net g h) (s : ℕ) → s < g → AllAgree net h s → AllFree net h s
    → AllAgree net h (suc s)
agree_more net g h run_to s l agree free c zero below e = agree_start net g h run_to (suc s) c below e
agree_more net g h run_to s l agree free c (suc k) below e =
    let at : h.line c + k ≡ s = omega (arith, e) in
    agree_step net h s c k at (agree c k below at) (same_bag net g h run_to s l agree free c below (omega (arith, at)))

-- a list with a first message of stamp s counts it
record First (c s : ℕ) (ms : List Message) : Type 0 where
  message : Message
  to : message.to ≡ c
  stamp : message.stamp ≡ s
  odd : phase_of s ≡ 1
  counted : 0 < count message ms

first_counted : (c s : ℕ) (ms : List Message) → AreInputs c ms → first_stamp ms ≡ s → s < never → First c s ms
first_counted c s [] a e n = absurd (omega (arith, e, n))
first_counted c s (m ∷ ms) a e n =
    let p = a.1 in
    let one = count_self m in
    record { message = m; to = a.0; stamp = e; odd = omega (arith, p, e); counted = omega (arith, one) }

-- no input of a stamp that its component's line has passed
free_more : {S : Type 0} (net : Network S) (g : ℕ) (h : Kept) (run_to : Ready net g h) (s : ℕ) → s < g → AllAgree net h s → AllFree net h s
    → AllFree net h (suc s)
free_more {S} net g h run_to s l agree free c below = ⊎_elim (λ a. by a (cases_eq (first_stamp (h.inputs c)) s) (cases_lt s (h.line c))) (λ a. inr a) (free c below)
  where
    stuck : first_stamp (h.inputs c) ≡ s → s < h.line c → ⊥
    stuck e m =
        let top = run_to.top in
        let first = first_counted c s (h.inputs c) (run_to.inputs c below) e (omega (arith, l, top)) in
        let x : Message = first.message in
        let p : x.to ≡ c = first.to in
        let q : x.stamp ≡ s = first.stamp in
        let counted = first.counted in
        let j : ℕ = h.line c - suc s in
        let at : h.line c ≡ s + suc j = omega (arith, m) in
        let place = run_to.places c below in
        let sent = all_sent_same net x s (clock net s).records (made h) (omega (arith, q)) (λ d k. made_goes_on net g h run_to s (omega (arith, l)) agree free d k) in
        let column : count x (all_consumed (h.column c)) ≡ count x (sent_in_all net (clock net s).records) =
        ap (λ r. count x (all_consumed r)) (run_to.columns c below) ∙ ap (λ n. count x (all_consumed ((clock net n).records c))) at
        ∙ column_consumes net x c s j place.0 (ap (λ n. (clock net n).place c) (sym at) ∙ place.1) first.odd p q (run_to.unstopped c c s below below m) in
        let balance : count x (sent_in_all net (made h)) + count x (h.waiting c) ≡ count x (all_consumed (h.column c)) + count x (h.inputs c) =
        subst (λ d. count x (sent_in_all net (made h)) + count x (h.waiting d) ≡ count x (all_consumed (h.column d)) + count x (h.inputs d)) p (run_to.balance x (omega (arith, p, below)) (omega (arith, q, l))) in
        let apart : (count x (h.waiting c) ≡ 0) ⊎ (count x (h.inputs c) ≡ 0) =
        subst (λ d. (count x (h.waiting d) ≡ 0) ⊎ (count x (h.inputs d) ≡ 0)) p (run_to.apart x (omega (arith, p, below)) (omega (arith, q, l))) in
        omega (arith, counted, sent, column, balance, apart)

    by : s ≤ first_stamp (h.inputs c) → (first_stamp (h.inputs c) ≡ s) ⊎ (first_stamp (h.inputs c) ≡ s → ⊥) → (s < h.line c) ⊎ (h.line c ≤ s)
        → Free h (suc s) c
    by a (inl e) (inl m) = absurd (stuck e m)
    by a (inl e) (inr m) = inr (omega (arith, e, m))
    by a (inr k) m = inl (omega (arith, a, k))

record Both {S : Type 0} (net : Network S) (h : Kept) (s : ℕ) : Type 0 where
  agree : AllAgree net h s
  free : AllFree net h s

both_at : {S : Type 0} (net : Network S) (g : ℕ) (h : Kept) (run_to : Ready net g h) (s : ℕ) → s ≤ g → Both net h s
both_at net g h run_to zero l = record { agree = at_zero; free = λ c below. inl (omega arith) }
  where
    at_zero : AllAgree net h zero
    at_zero c zero below e = agree_start net g h run_to zero c below e
    at_zero c (suc k) below e = absurd (omega (arith, e))
both_at net g h run_to (suc s) l =
    let both = both_at net g h run_to s (omega (arith, l)) in
    record { agree = agree_more net g h run_to s l both.agree both.free; free = free_more net g h run_to s l both.agree both.free }

-- before g no component meets a limit
no_fault : {S : Type 0} (net : Network S) (g : ℕ) (h : Kept) → Ready net g h → (c s : ℕ) → c < length net.models → s < g
    → NoLimit (clock_step net c s)
no_fault net g h run_to c s below l = ⊎_elim (λ m. run_to.unstopped c c s below below m) past (cases_lt s (h.line c))
  where
    past : h.line c ≤ s → NoLimit (clock_step net c s)
    past m =
        let k : ℕ = s - h.line c in
        let e : h.line c + k ≡ s = omega arith in
        let both = both_at net g h run_to s (omega arith) in
        let either = both.free c below in
        let a = both.agree c k below e in
        let bag = same_bag net g h run_to s l both.agree both.free c below m in
        let step : alone_step net c (h.inputs c) (h.line c + k) (own_run net h c k) ≡ clock_step net c s =
        ap (λ n. act_if net c n (bag_of c n (h.inputs c)) (own_run net h c k).place) e ∙ ap (λ b. act_if net c s b (own_run net h c k).place) (sym bag) ∙ ap (λ p. act_if net c s (bag_of c s (sent_in_all net (clock net s).records)) p) a.place in
        subst NoLimit step (run_to.unlimited c k below (omega (arith, m, either)) (omega (arith, e, l)))

pub clocked_law : {S : Type 0} (net : Network S) (g : ℕ) (h : Kept) → Ready net g h → Follows net g h
clocked_law net g h run_to =
    let both = both_at net g h run_to g (omega arith) in
    record {
      ahead = λ c below. let either = both.free c below in let l = run_to.lines c below in omega (arith, either, l);
      unstopped = no_fault net g h run_to;
      records = λ c k below e. (both.agree c k below e).records;
      place = λ c k below e. (both.agree c k below e).place;
    }

-- at g too, where nothing is in transit at g either
pub bag_at : {S : Type 0} (net : Network S) (g : ℕ) (h : Kept) → Ready net g h
    → ((x : Message) → x.to < length net.models → x.stamp ≡ g → count x (sent_in_all net (made h)) + count x (h.waiting x.to) ≡ count x (all_consumed (h.column x.to)) + count x (h.inputs x.to))
    → ((x : Message) → x.to < length net.models → x.stamp ≡ g → (count x (h.waiting x.to) ≡ 0) ⊎ (count x (h.inputs x.to) ≡ 0)) → (c : ℕ)
    → c < length net.models → bag_of c g (sent_in_all net (clock net g).records) ≡ bag_of c g (h.inputs c)
bag_at net g h run_to balance_at apart_at c below = bag_same c g (sent_in_all net (clock net g).records) (h.inputs c) each
  where
    counted : (x : Message) → x.to < length net.models → x.stamp ≡ g → count x (sent_in_all net (clock net g).records) ≡ count x (h.inputs x.to)
    counted x to at =
        let both = both_at net g h run_to g (omega arith) in
        let sent = all_sent_same net x g (clock net g).records (made h) (omega (arith, at)) (λ d m. made_goes_on net g h run_to g (omega arith) both.agree both.free d m) in
        let old : AllBefore (h.line x.to) (h.column x.to) = subst (λ l. AllBefore (h.line x.to) l) (sym (run_to.columns x.to to)) (clock_before net x.to (h.line x.to)) in
        let line = run_to.lines x.to to in
        let none = consumed_before x (h.line x.to) (h.column x.to) (omega (arith, at, line)) old in
        let balance = balance_at x to at in
        let apart = apart_at x to at in
        omega (arith, sent, none, balance, apart)

    each : (x : Message) → x.to ≡ c → x.stamp ≡ g → count x (sent_in_all net (clock net g).records) ≡ count x (h.inputs c)
    each x p q = counted x (omega (arith, p, below)) q ∙ ap (λ d. count x (h.inputs d)) p
