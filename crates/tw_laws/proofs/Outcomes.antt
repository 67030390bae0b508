-- What the outcome of a run says.
use Rattle.std.proofs.Common.{◌≡◌, get_or, ℕ, suc, ◌<◌, ◌≤◌, List, [], ◌∷◌, length, false, Some, None, refl, sym, ap, ◌∙◌, subst, arith, ⊎_elim}
use Rattle.std.specs.Prelude.{slice_get, slice_set, nat_lt, ◌==◌, ◌≢◌}
use Rattle.std.specs.List.{AllByRecursion as Each}
use Rattle.std.proofs.lemmas.Bool.{cond-true, cond-false, lt-ltb, cases_lt, cases_eq, ne_eqb, eq-eqb}
use Rattle.std.proofs.lemmas.List.{get_or-set_same, get_or-set_other, get_or_past}
use Rattle.std.proofs.lemmas.Option.{same_Some, none-some, slice_get-get_or, slice_get_cases}
use Rattle.tw_msgs.specs.Counting.{total}
use Rattle.tw_msgs.specs.declared.record.Record.{Record}
use Rattle.tw_vtime.specs.Stamps.{stamp, max_tick}
use Rattle.tw_theory.specs.Contents.{Process}
use Rattle.tw_theory.specs.Executive.{World, column_of}
use Rattle.tw_theory.specs.Network.{Network, IsNetwork}
use Rattle.tw_theory.specs.Outcomes.{RunState, Complete, Fault as InFault, Going, state, IsOutcome}
use Rattle.tw_theory.specs.Simulator.{Fault, Run, rounds, sequential, up_to, records_before}
use Rattle.tw_theory.specs.Soundness.{IsSound}
use Rattle.tw_theory.specs.Traces.{IsMerged, IsTrace, of_component, before}
use Rattle.tw_theory.proofs.Totals.{total-set}
use Rattle.tw_laws.specs.Outcome.{OutcomeLaw}
use Rattle.tw_laws.proofs.Ending.{state_law}
use Rattle.tw_laws.proofs.History.Rounds.{Reached, Running, Faulted, met_by, rounds_reach}
use Rattle.tw_laws.proofs.Merging.{merging_law}
use Rattle.tw_laws.proofs.Ready.{records_early}
use Rattle.tw_laws.proofs.AtGvt.{all_phase_one}
use Rattle.tw_laws.proofs.Traces.{sequential_trace}

-- where all stand before g
pub all_before : (g : ℕ) (rs : List Record) → Each (λ r. r.stamp < g) rs → before g rs ≡ rs
all_before g [] h = refl
all_before g (r ∷ rs) h = cond-true (nat_lt r.stamp g) _ _ (lt-ltb r.stamp g h.0) ∙ ap (λ l. r ∷ l) (all_before g rs h.1)

module _ {S : Type 0} (net : Network S) (until : ℕ) (ok : IsNetwork net) (bound : until ≤ max_tick) where
  reached_before : (b : ℕ) (run : Run S) → Reached net b run → (met : Fault) → run.fault ≡ Some met
      → Each (λ r. r.stamp < met.stamp) run.records
  reached_before b run (Running at) met e = absurd (none-some met (sym at.going ∙ e))
  reached_before b run (Faulted f l at) met e =
      let same : f ≡ met.stamp = ap (λ (x : Fault). x.stamp) (same_Some (met_by at.component f at.limit) met (sym at.fault ∙ e)) in
      subst (λ n. Each (λ r. r.stamp < n) run.records) same at.past

  fault_before : (met : Fault) → (sequential net until).fault ≡ Some met
      → before met.stamp (sequential net until).records ≡ (sequential net until).records
  unfolding sequential
  fault_before met e =
      all_before met.stamp (sequential net until).records
      (reached_before (stamp until 0 0) (rounds net (stamp until 0 0)) (rounds_reach net (stamp until 0 0) (stamp until 0 0) (all_phase_one net net.inputs ok.inputs) (omega arith) (omega arith) (omega arith) (omega arith)) met e)

  complete : (w : World S) → IsSound net until w → state net until w ≡ Complete → (trace : List Record) → IsMerged (stamp until 0 0) w trace
      → IsOutcome net until Complete trace
  complete w h e trace m =
      let past = (state_law.past net until w).0 e in
      let s = sequential_trace net until ok bound in (
        (state_law.complete net until w ok bound h e).0,
        (merging_law net until (stamp until 0 0) w ok bound h past trace m.ordered m.parts).0 ∙ all_before (stamp until 0 0) (sequential net until).records s.1,
      )

  fault : (w : World S) → IsSound net until w → (met : Fault) → state net until w ≡ InFault met
      → ((d : ℕ) (p : Process S) → slice_get w.processes d ≡ Some p → met.stamp ≤ p.line) → (trace : List Record) → IsMerged met.stamp w trace
      → IsOutcome net until (InFault met) trace
  fault w h met e lines trace m = ((state_law.fault net until w ok bound h met e).1, (merging_law net until met.stamp w ok bound h lines trace m.ordered m.parts).0)

-- ---- how many records there are

total_none : (columns : List (List Record)) → ((c : ℕ) → [] ≡ column_of columns c) → total length columns ≡ 0
total_none [] h = refl
total_none (column ∷ columns) h = let here : 0 ≡ length column = ap length (h 0) in omega (arith, here, total_none columns (λ c. h (suc c)))

-- a list of records that has of each component its column
length_parts : (rs : List Record) (columns : List (List Record)) → ((c : ℕ) → of_component c rs ≡ column_of columns c)
    → length rs ≡ total length columns
length_parts [] columns h = sym (total_none columns h)
length_parts (r ∷ rs) columns h =
    let c = r.component in
    let rest = of_component c rs in
    let here : column_of columns c ≡ r ∷ rest = sym (h c) ∙ cond-true (r.component == c) _ _ (eq-eqb c c refl) in
    let near : c < length columns = ⊎_elim (λ l. l) (λ l. absurd (none (sym here ∙ get_or_past columns c [] l))) (cases_lt c (length columns)) in
    let at : slice_get columns c ≡ Some (r ∷ rest) = slice_get-get_or columns c [] near ∙ ap (λ (l : List Record). Some l) here in
    let fewer = total-set length columns c (r ∷ rest) rest at in
    omega (arith, fewer, length_parts rs (slice_set columns c rest) (λ d. others near d))
  where
    none : {l : List Record} → ◌≡◌ {A = List Record} (r ∷ l) [] → ⊥
    none z = cc z

    others : r.component < length columns → (d : ℕ) → of_component d rs ≡ column_of (slice_set columns r.component (of_component r.component rs)) d
    others near d =
        ⊎_elim
        (λ e. subst (λ k. of_component k rs ≡ column_of (slice_set columns r.component (of_component r.component rs)) k) (sym e) (sym (get_or-set_same columns r.component (of_component r.component rs) [] near)))
        (λ ne. sym (cond-false (r.component == d) _ _ (other ne)) ∙ h d ∙ sym (get_or-set_other columns r.component d (of_component r.component rs) [] ne))
        (cases_eq d r.component)
      where
        other : d ≢ r.component → (r.component == d) ≡ false
        other ne = ne_eqb r.component d (λ e. ne (sym e))

module _ {S : Type 0} (net : Network S) (until : ℕ) (w : World S) (h : IsSound net until w) (g : ℕ) (late : up_to until w.gvt ≤ g) where
  column_before : (c : ℕ) → before g (column_of w.columns c) ≡ column_of w.columns c
  column_before c = ⊎_elim there past (slice_get_cases w.processes c).1
    where
      there : (p : Process S) × (c < length w.processes) × (slice_get w.processes c ≡ Some p) × (get_or w.processes c p ≡ p)
          → before g (column_of w.columns c) ≡ column_of w.columns c
      there (p, l, at, same) =
          let s = h.each c p at in
          let k = s.line_le in
          subst (λ column. before g column ≡ column) (sym s.column_is) (all_before g (records_before net until c p.line) (records_early c (up_to until p.line) g (sequential net until).records (omega arith)))

      past : (length w.processes ≤ c) × (slice_get w.processes c ≡ None) → before g (column_of w.columns c) ≡ column_of w.columns c
      past (l, none) =
          let n = h.processes in
          let k = h.columns in
          subst (λ column. before g column ≡ column) (sym (get_or_past w.columns c [] (omega arith))) refl

  count : (trace : List Record) → IsMerged g w trace → length trace ≡ total length w.columns
  count trace m = length_parts trace w.columns (λ c. m.parts c ∙ column_before c)

module _ {S : Type 0} (net : Network S) (until : ℕ) (ok : IsNetwork net) (bound : until ≤ max_tick) (w : World S) (h : IsSound net until w) where
  whole : (g : ℕ) → up_to until w.gvt ≤ g → (trace : List Record) → IsTrace trace → ((c : ℕ) → of_component c trace ≡ column_of w.columns c)
      → IsMerged g w trace
  whole g late trace t parts = record { ordered = t; parts = λ c. parts c ∙ sym (column_before net until w h g late c) }

  at_gvt : ((d : ℕ) (p : Process S) → slice_get w.processes d ≡ Some p → p.line ≡ w.gvt) → (trace : List Record) → IsTrace trace
      → ((c : ℕ) → of_component c trace ≡ column_of w.columns c) → state net until w ≢ Going
      → IsOutcome net until (state net until w) trace × (length trace ≡ total length w.columns)
  at_gvt lines trace t parts ended = (go (state net until w) refl, length_parts trace w.columns parts)
    where
      go : (s : RunState) → state net until w ≡ s → IsOutcome net until (state net until w) trace
      go Complete e = subst (λ (s : RunState). IsOutcome net until s trace) (sym e) (complete net until ok bound w h e trace (whole (stamp until 0 0) (omega arith) trace t parts))
      go (InFault met) e =
          let at : met.stamp ≡ w.gvt = (state_law.fault net until w ok bound h met e).0 in
          subst (λ (x : RunState). IsOutcome net until x trace) (sym e)
          (fault net until ok bound w h met e (λ d p there. let l = lines d p there in omega (arith, at, l)) trace (whole met.stamp (omega (arith, at)) trace t parts))
      go Going e = absurd (ended e)

pub outcome_law : {S : Type 0} → OutcomeLaw S
outcome_law = record {
  before_fault = λ net until ok bound met e. fault_before net until ok bound met e;
  complete = λ net until w ok bound h e trace m. complete net until ok bound w h e trace m;
  fault = λ net until w ok bound h met e lines trace m. fault net until ok bound w h met e lines trace m;
  whole = λ net until w ok bound h e trace t parts.
      (complete net until ok bound w h e trace (whole net until ok bound w h (stamp until 0 0) (omega arith) trace t parts), length_parts trace w.columns parts);
  at_gvt = λ net until w ok bound h lines trace t parts ended. at_gvt net until ok bound w h lines trace t parts ended;
  count = λ net until w h g late trace m. count net until w h g late trace m;
}
