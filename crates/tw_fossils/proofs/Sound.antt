-- The columns of a sound executive are columns: of one component each, and in order.
use Rattle.std.proofs.Common.{◌≡◌, ℕ, suc, ◌+◌, ◌<◌, ◌≤◌, List, [], ◌∷◌, length, Bool, true, sym, subst, arith}
use Rattle.std.specs.Prelude.{◌==◌, ◌&&◌, filter, nat_lt}
use Rattle.std.specs.List.{AllByRecursion as Each}
use Rattle.std.proofs.lemmas.Bool.{cond_both, eqb-true, and_parts}
use Rattle.tw_fossils.specs.Columns.{IsRising, IsColumn, AreColumns}
use Rattle.tw_msgs.specs.declared.record.Record.{Record}
use Rattle.tw_laws.proofs.Traces.{sequential_trace}
use Rattle.tw_theory.proofs.Elements.{each-filter, present}
use Rattle.tw_theory.specs.Executive.{World, column_of}
use Rattle.tw_theory.specs.Network.{Network, IsNetwork}
use Rattle.tw_theory.specs.Simulator.{sequential, up_to}
use Rattle.tw_theory.specs.Soundness.{IsSound}
use Rattle.tw_theory.specs.Traces.{Precedes, IsTrace}
use Rattle.tw_vtime.specs.Stamps.{max_tick}

-- ---- a component's records in a trace

module _ (c : ℕ) (p : Record → Bool) (own : (r : Record) → p r ≡ true → r.component ≡ c) where
  all_of : (rs : List Record) → Each (λ r. r.component ≡ c) (filter p rs)
  all_of [] = tt
  all_of (r ∷ rs) = cond_both (p r) (r ∷ filter p rs) (filter p rs) (Each (λ r. r.component ≡ c)) (λ e. (own r e, all_of rs)) (λ e. all_of rs)

  rising_of : (rs : List Record) → IsTrace rs → IsRising (filter p rs)
  rising_of [] h = tt
  rising_of (r ∷ rs) h =
      cond_both (p r) (r ∷ filter p rs) (filter p rs) IsRising
      (λ e. (later r (own r e) (filter p rs) (all_of rs) (each-filter (Precedes r) p rs h.0), rising_of rs h.1))
      (λ e. rising_of rs h.1)
    where
      later : (x : Record) → x.component ≡ c → (ys : List Record) → Each (λ r. r.component ≡ c) ys → Each (Precedes x) ys → Each (λ y. x.stamp < y.stamp) ys
      later x is [] a b = tt
      later x is (y ∷ ys) a b = (let k = a.0 in let l = b.0 in omega arith, later x is ys a.1 b.1)

  is_column : (rs : List Record) → IsTrace rs → IsColumn c (filter p rs)
  is_column rs h = record { own = all_of rs; rising = rising_of rs h }

are_columns : (b : ℕ) (columns : List (List Record)) → ((c k : ℕ) → c ≡ b + k → k < length columns → IsColumn c (column_of columns k)) → AreColumns b columns
are_columns b [] h = tt
are_columns b (column ∷ columns) h = (h b 0 (omega arith) (omega arith), are_columns (suc b) columns (λ c k e l. h c (suc k) (omega arith) (omega arith)))

-- ---- the columns of a sound executive

pub sound_columns : {S : Type 0} (net : Network S) (until : ℕ) (w : World S) → IsNetwork net → until ≤ max_tick → IsSound net until w → AreColumns 0 w.columns
sound_columns net until w whole bound sound =
    are_columns 0 w.columns (λ c k e near.
    let at = present w.processes k (omega (arith, near, sound.columns, sound.processes)) in
    let same : k ≡ c = omega arith in
    let limit = up_to until at.0.line in
    subst (λ i. IsColumn i (column_of w.columns k)) same
    (subst (IsColumn k) (sym (sound.each k at.0 at.1).column_is)
    (is_column k (λ r. (r.component == k) && nat_lt r.stamp limit) (λ r t. eqb-true r.component k (and_parts (r.component == k) (nat_lt r.stamp limit) t).0)
    (sequential net until).records (sequential_trace net until whole bound).0)))
