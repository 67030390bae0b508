-- Merging columns up to a stamp that no commit line is before.
use Rattle.std.proofs.Common.{◌≡◌, ℕ, zero, suc, ◌<◌, ◌≤◌, min, ⊎_elim, get_or, List, [], ◌∷◌, ◌++◌, Bool, true, false, cond, Option, Some, None, refl, sym, ap, ap₂, ◌∙◌, arith}
use Rattle.std.specs.Prelude.{◌==◌, ◌&&◌, nat_lt, filter, slice_get, length}
use Rattle.std.specs.List.{AllByRecursion as Each}
use Rattle.std.specs.Option.{option_map}
use Rattle.std.proofs.lemmas.Bool.{cond-true, cond-false, cond_both, le-ltb, ltb-true, ltb-false}
use Rattle.std.proofs.lemmas.List.{get_or_past}
use Rattle.std.proofs.lemmas.Option.{none-some, same_Some, slice_get_past, slice_get_cases}
use Rattle.tw_msgs.specs.declared.record.Record.{Record}
use Rattle.tw_vtime.specs.Stamps.{stamp, max_tick}
use Rattle.tw_theory.specs.Contents.{Process}
use Rattle.tw_theory.specs.Executive.{World, column_of}
use Rattle.tw_theory.specs.Network.{Network, IsNetwork}
use Rattle.tw_theory.specs.Simulator.{Run, sequential, up_to}
use Rattle.tw_theory.specs.Soundness.{IsSound}
use Rattle.tw_theory.specs.Traces.{Precedes, IsTrace, of_component, before, least_line}
use Rattle.tw_theory.specs.Transitions.{Moment, start_moment}
use Rattle.tw_laws.specs.Traces.{MergingLaw, LeastLineLaw}
use Rattle.tw_laws.proofs.History.Clock.{bag_of, sent_in_all, clock, act_if, place_after, record_after}
use Rattle.tw_laws.proofs.History.Rounds.{Reached, Running, Faulted, rounds_reach}
use Rattle.tw_laws.proofs.AtGvt.{all_phase_one}
use Rattle.tw_laws.proofs.Traces.{one_trace, sequential_trace}

-- ---- the records before a stamp

each-before : (P : Record → Type 0) (g : ℕ) (rs : List Record) → Each P rs → Each P (before g rs)
each-before P g [] h = tt
each-before P g (r ∷ rs) h = cond_both (nat_lt r.stamp g) (r ∷ before g rs) (before g rs) (Each P) (λ e. (h.0, each-before P g rs h.1)) (λ e. each-before P g rs h.1)

trace-before : (g : ℕ) (rs : List Record) → IsTrace rs → IsTrace (before g rs)
trace-before g [] h = tt
trace-before g (r ∷ rs) h = cond_both (nat_lt r.stamp g) (r ∷ before g rs) (before g rs) IsTrace (λ e. (each-before (Precedes r) g rs h.0, trace-before g rs h.1)) (λ e. trace-before g rs h.1)

-- where none stands before g
pub none_before : (g : ℕ) (rs : List Record) → Each (λ r. g ≤ r.stamp) rs → before g rs ≡ []
none_before g [] h = refl
none_before g (r ∷ rs) h = cond-false (nat_lt r.stamp g) _ _ (le-ltb r.stamp g h.0) ∙ none_before g rs h.1

all_later : (g : ℕ) (r : Record) (rs : List Record) → g ≤ r.stamp → Each (Precedes r) rs → Each (λ s. g ≤ s.stamp) rs
all_later g r [] l h = tt
all_later g r (s ∷ rs) l h = let p = h.0 in (omega arith, all_later g r rs l h.1)

-- of a trace they are a beginning
beginning : (g : ℕ) (rs : List Record) → IsTrace rs → (rest : List Record) × (before g rs ++ rest ≡ rs)
beginning g [] h = ([], refl)
beginning g (r ∷ rs) h = go (nat_lt r.stamp g) refl (beginning g rs h.1)
  where
    go : (b : Bool) → nat_lt r.stamp g ≡ b → (rest : List Record) × (before g rs ++ rest ≡ rs)
        → (rest : List Record) × (cond b (r ∷ before g rs) (before g rs) ++ rest ≡ r ∷ rs)
    go true e ih = (ih.0, ap (λ l. r ∷ l) ih.1)
    go false e ih =
        let late : g ≤ r.stamp = ltb-false r.stamp g e in
        (r ∷ rs, ap (λ l. l ++ r ∷ rs) (none_before g rs (all_later g r rs late h.0)))

-- ---- one component's records before a stamp, of those before a later one

-- where all records stand before b
same_part : (c g u b : ℕ) (rs : List Record) → Each (λ r. r.stamp < b) rs → min g b ≤ u
    → before g (filter (λ r. (r.component == c) && nat_lt r.stamp u) rs) ≡ of_component c (before g rs)
same_part c g u b [] h l = refl
same_part c g u b (r ∷ rs) h l = go (r.component == c) (nat_lt r.stamp u) (nat_lt r.stamp g) refl refl refl (same_part c g u b rs h.1 l)
  where
    part : List Record
    part = filter (λ r. (r.component == c) && nat_lt r.stamp u) rs

    go : (own early now : Bool) → (r.component == c) ≡ own → nat_lt r.stamp u ≡ early → nat_lt r.stamp g ≡ now
        → before g part ≡ of_component c (before g rs)
        → before g (cond (own && early) (r ∷ part) part) ≡ of_component c (cond now (r ∷ before g rs) (before g rs))
    go false early true p e n ih = ih ∙ sym (cond-false (r.component == c) _ _ p)
    go false early false p e n ih = ih
    go true true true p e n ih = cond-true (nat_lt r.stamp g) _ _ n ∙ ap (λ l. r ∷ l) ih ∙ sym (cond-true (r.component == c) _ _ p)
    go true true false p e n ih = cond-false (nat_lt r.stamp g) _ _ n ∙ ih
    go true false true p e n ih = absurd (omega (arith, h.0, ltb-true r.stamp g n, ltb-false r.stamp u e))
    go true false false p e n ih = ih

-- ---- no component, no records

absent : {S : Type 0} (net : Network S) (c : ℕ) → slice_get net.models c ≡ None → (s : ℕ)
    → ((clock net s).place c ≡ None) × ((clock net s).records c ≡ [])
unfolding clock act_if place_after record_after
absent net c e zero = (ap (option_map start_moment) e, refl)
absent {S} net c e (suc s) =
    let now = clock net s in
    let ih = absent net c e s in
    let bag = bag_of c s (sent_in_all net now.records) in (
      ap (λ (o : Option (Moment S)). place_after o (act_if net c s bag (now.place c))) ih.0,
      ap₂ (λ (l : List Record) (o : Option (Moment S)). l ++ record_after (act_if net c s bag o)) ih.1 ih.0,
    )

no_records : {S : Type 0} (net : Network S) (c b : ℕ) (run : Run S) → slice_get net.models c ≡ None → Reached net b run
    → of_component c run.records ≡ []
no_records net c b run e (Running at) = at.records c ∙ (absent net c e b).1
no_records net c b run e (Faulted f l at) = at.records c ∙ (absent net c e f).1

-- ---- columns and the sequential records

module _ {S : Type 0} (net : Network S) (until : ℕ) (ok : IsNetwork net) (bound : until ≤ max_tick) where
  abbrev whole : List Record
  whole = (sequential net until).records

  reached : Reached net (stamp until 0 0) (sequential net until)
  unfolding sequential
  reached = rounds_reach net (stamp until 0 0) (stamp until 0 0) (all_phase_one net net.inputs ok.inputs) (omega arith) (omega arith) (omega arith) (omega arith)

  nothing_before : (c g : ℕ) (rs : List Record) → of_component c rs ≡ [] → of_component c (before g rs) ≡ []
  nothing_before c g [] e = refl
  nothing_before c g (r ∷ rs) e = go (r.component == c) refl (λ z. nothing_before c g rs z)
    where
      none : {l : List Record} → ◌≡◌ {A = List Record} (r ∷ l) [] → ⊥
      none z = cc z

      go : (own : Bool) → (r.component == c) ≡ own → (of_component c rs ≡ [] → of_component c (before g rs) ≡ [])
          → of_component c (before g (r ∷ rs)) ≡ []
      go true p ih = absurd (none (sym (cond-true (r.component == c) _ _ p) ∙ e))
      go false p ih =
          let rest = ih (sym (cond-false (r.component == c) _ _ p) ∙ e) in
          cond_both (nat_lt r.stamp g) (r ∷ before g rs) (before g rs) (λ l. of_component c l ≡ []) (λ z. cond-false (r.component == c) _ _ p ∙ rest) (λ z. rest)

  column_part : (g : ℕ) (w : World S) → IsSound net until w → ((c : ℕ) (p : Process S) → slice_get w.processes c ≡ Some p → g ≤ p.line) → (c : ℕ)
      → before g (column_of w.columns c) ≡ of_component c (before g whole)
  column_part g w h lines c = ⊎_elim there past (slice_get_cases w.processes c).1
    where
      there : (p : Process S) × (c < length w.processes) × (slice_get w.processes c ≡ Some p) × (get_or w.processes c p ≡ p)
          → before g (column_of w.columns c) ≡ of_component c (before g whole)
      there (p, l, at, same) =
          let line = lines c p at in
          ap (before g) (h.each c p at).column_is ∙ same_part c g (up_to until p.line) (stamp until 0 0) whole (sequential_trace net until ok bound).1 (omega arith)

      past : (length w.processes ≤ c) × (slice_get w.processes c ≡ None) → before g (column_of w.columns c) ≡ of_component c (before g whole)
      past (l, none) =
          let n = h.processes in
          let k = h.columns in
          let no_model = slice_get_past net.models c (omega arith) in
          let no_column : length w.columns ≤ c = omega arith in
          ap (before g) (get_or_past w.columns c [] no_column) ∙ sym (nothing_before c g whole (no_records net c (stamp until 0 0) (sequential net until) no_model reached))

  merged : (g : ℕ) (w : World S) → IsSound net until w → ((c : ℕ) (p : Process S) → slice_get w.processes c ≡ Some p → g ≤ p.line)
      → (trace : List Record) → IsTrace trace → ((c : ℕ) → of_component c trace ≡ before g (column_of w.columns c)) → trace ≡ before g whole
  merged g w h lines trace is parts =
      one_trace trace (before g whole) is (trace-before g whole (sequential_trace net until ok bound).0) (λ c. parts c ∙ column_part g w h lines c)

pub merging_law : {S : Type 0} → MergingLaw S
merging_law net until g w ok bound h lines trace is parts =
    let same = merged net until ok bound g w h lines trace is parts in
    let rest = beginning g (sequential net until).records (sequential_trace net until ok bound).0 in
    (same, (rest.0, ap (λ l. l ++ rest.0) same ∙ rest.1))

least_line_le : {S : Type 0} (ps : List (Process S)) (c : ℕ) (p : Process S) → slice_get ps c ≡ Some p → least_line ps ≤ p.line
least_line_le [] c p at = absurd (none-some p at)
least_line_le (q ∷ ps) zero p at = let same = ap (λ (x : Process _). x.line) (same_Some q p at) in omega (arith, same)
least_line_le (q ∷ ps) (suc c) p at = let rest = least_line_le ps c p at in omega (arith, rest)

pub least_line_law : {S : Type 0} → LeastLineLaw S
least_line_law net until w ok bound h trace merged =
    merging_law net until (least_line w.processes) w ok bound h (least_line_le w.processes) trace merged.ordered merged.parts
