-- Two traces with the same records of each component are one.
use Rattle.std.proofs.Common.{◌≡◌, ℕ, ◌<◌, List, [], ◌∷◌, Bool, true, false, cond, Option, Some, None, refl, sym, ap, ap₂, ◌∙◌, subst, arith, ⊎_elim}
use Rattle.std.specs.Prelude.{◌==◌, ◌≢◌, filter, ◌&&◌, nat_lt, ◌≤◌}
use Rattle.std.specs.List.{AllByRecursion as Each}
use Rattle.std.proofs.lemmas.Bool.{cond-true, cond-false, cond_both, eq-eqb, ne_eqb, cases_eq, lt-ltb}
use Rattle.tw_msgs.specs.declared.record.Record.{Record}
use Rattle.tw_vtime.specs.Stamps.{stamp, max_tick}
use Rattle.tw_theory.specs.Network.{Network, IsNetwork}
use Rattle.tw_theory.specs.Simulator.{Fault, Run, rounds, round_time, sequential, up_to, records_before}
use Rattle.tw_theory.specs.Traces.{Precedes, IsTrace, of_component}
use Rattle.tw_theory.proofs.Elements.{each_weaker}
use Rattle.tw_laws.specs.Committed.{RoundsLaw}
use Rattle.tw_laws.specs.Traces.{OneTrace, TraceLaw}
use Rattle.tw_laws.proofs.History.Rounds.{Reached, Running, Faulted, rounds_reach, time_due}
use Rattle.tw_laws.proofs.AtGvt.{all_phase_one}

own_here : (x : Record) (xs : List Record) → of_component x.component (x ∷ xs) ≡ x ∷ of_component x.component xs
own_here x xs = cond-true (x.component == x.component) _ _ (eq-eqb x.component x.component refl)

pub own_other : (c : ℕ) (x : Record) (xs : List Record) → x.component ≢ c → of_component c (x ∷ xs) ≡ of_component c xs
own_other c x xs ne = cond-false (x.component == c) _ _ (ne_eqb x.component c ne)

each_own : (P : Record → Type 0) (c : ℕ) (xs : List Record) → Each P xs → Each P (of_component c xs)
each_own P c [] h = tt
each_own P c (x ∷ xs) h = cond_both (x.component == c) (x ∷ of_component c xs) (of_component c xs) (Each P) (λ e. (h.0, each_own P c xs h.1)) (λ e. each_own P c xs h.1)

heads : (x y : Record) (xs ys : List Record) → ◌≡◌ {A = List Record} (x ∷ xs) (y ∷ ys) → (x ≡ y) × (xs ≡ ys)
heads x y xs ys e = (cc, cc)

-- the head of the other list, where their components differ
behind_other : (x y : Record) (xs ys : List Record) → y.component ≢ x.component → Each (Precedes y) ys
    → of_component x.component (x ∷ xs) ≡ of_component x.component (y ∷ ys) → Precedes y x
behind_other x y xs ys ne later e =
    let is : x ∷ of_component x.component xs ≡ of_component x.component ys = sym (own_here x xs) ∙ e ∙ own_other x.component y ys ne in
    (subst (Each (Precedes y)) (sym is) (each_own (Precedes y) x.component ys later)).0

both_ways_round : (x y : Record) → Precedes x y → Precedes y x → ⊥
both_ways_round x y a b = omega arith

no_more : (y : Record) (ys : List Record) → of_component y.component [] ≡ of_component y.component (y ∷ ys) → ⊥
no_more y ys e = let f = e ∙ own_here y ys in cc

pub one_trace : OneTrace
one_trace [] [] a b same = refl
one_trace [] (y ∷ ys) a b same = absurd (no_more y ys (same y.component))
one_trace (x ∷ xs) [] a b same = absurd (no_more x xs (sym (same x.component)))
one_trace (x ∷ xs) (y ∷ ys) a b same =
    ⊎_elim
    (λ e.
    let is = heads x y (of_component x.component xs) (of_component y.component ys) (sym (own_here x xs) ∙ same x.component ∙ ap (λ c. of_component c (y ∷ ys)) (sym e) ∙ own_here y ys) in
    ap₂ (λ (r : Record) (l : List Record). r ∷ l) is.0 (one_trace xs ys a.1 b.1 (λ c. rest e is.1 c)))
    (λ ne. absurd (both_ways_round x y (behind_other y x ys xs (λ e. ne (sym e)) a.0 (sym (same y.component))) (behind_other x y xs ys ne b.0 (same x.component))))
    (cases_eq y.component x.component)
  where
    rest : y.component ≡ x.component → of_component x.component xs ≡ of_component y.component ys → (c : ℕ) → of_component c xs ≡ of_component c ys
    rest e is c =
        ⊎_elim
        (λ h. ap (λ d. of_component d xs) (sym h) ∙ is ∙ ap (λ d. of_component d ys) (e ∙ h))
        (λ ne. sym (own_other c x xs ne) ∙ same c ∙ own_other c y ys (λ h. ne (sym e ∙ h)))
        (cases_eq x.component c)

-- ---- the sequential simulator's

all_kept : (c s : ℕ) (rs : List Record) → Each (λ r. r.stamp < s) rs → filter (λ r. (r.component == c) && nat_lt r.stamp s) rs ≡ of_component c rs
all_kept c s [] h = refl
all_kept c s (r ∷ rs) h =
    let same : ((r.component == c) && nat_lt r.stamp s) ≡ (r.component == c) = ap (λ b. (r.component == c) && b) (lt-ltb r.stamp s h.0) ∙ with_true (r.component == c) in
    ap (λ b. cond b (r ∷ filter (λ r. (r.component == c) && nat_lt r.stamp s) rs) (filter (λ r. (r.component == c) && nat_lt r.stamp s) rs)) same
    ∙ ap (λ l. cond (r.component == c) (r ∷ l) l) (all_kept c s rs h.1)
  where
    with_true : (b : Bool) → (b && true) ≡ b
    with_true true = refl
    with_true false = refl

module _ {S : Type 0} (net : Network S) (until : ℕ) where
  reached_trace : (b : ℕ) (run : Run S) → Reached net b run → IsTrace run.records × Each (λ r. r.stamp < b) run.records
  reached_trace b run (Running at) = (at.trace, at.past)
  reached_trace b run (Faulted f l at) = (at.trace, each_weaker (λ r. r.stamp < f) (λ r. r.stamp < b) (λ r k. omega arith) run.records at.past)

  pub sequential_trace : IsNetwork net → until ≤ max_tick
      → IsTrace (sequential net until).records × Each (λ r. r.stamp < stamp until 0 0) (sequential net until).records
  unfolding sequential
  sequential_trace ok bound = reached_trace (stamp until 0 0) (rounds net (stamp until 0 0)) (rounds_reach net (stamp until 0 0) (stamp until 0 0) (all_phase_one net net.inputs ok.inputs) (omega arith) (omega arith) (omega arith) (omega arith))

  only_trace : IsNetwork net → until ≤ max_tick → (trace : List Record) → IsTrace trace
      → ((c : ℕ) → of_component c trace ≡ records_before net until c (stamp until 0 0)) → trace ≡ (sequential net until).records
  only_trace ok bound trace h parts =
      let s = sequential_trace ok bound in
      let n : up_to until (stamp until 0 0) ≡ stamp until 0 0 = omega arith in
      one_trace trace (sequential net until).records h s.0
      (λ c. parts c ∙ ap (λ k. filter (λ r. (r.component == c) && nat_lt r.stamp k) (sequential net until).records) n ∙ all_kept c (stamp until 0 0) (sequential net until).records s.1)

pub trace_law : {S : Type 0} → TraceLaw S
trace_law = record { ordered = λ net until ok bound. (sequential_trace net until ok bound).0; only = only_trace }

-- ---- the rounds of a run without a fault are all made

pub rounds_law : {S : Type 0} → RoundsLaw S
unfolding sequential
rounds_law {S} net until ok bound none =
    let end = stamp until 0 0 in
    left (rounds net end) none (rounds_reach net end end (all_phase_one net net.inputs ok.inputs) (omega arith) (omega arith) (omega arith) (omega arith))
  where
    clash : {x : Fault} → ◌≡◌ {A = Option Fault} None (Some x) → ⊥
    clash k = cc

    left : (run : Run S) → run.fault ≡ None → Reached net (stamp until 0 0) run → stamp until 0 0 ≤ round_time run.at
    left run e (Running at) = (time_due net (stamp until 0 0) run at (omega arith)).0
    left run e (Faulted f l at) = absurd (clash (sym e ∙ at.fault))
