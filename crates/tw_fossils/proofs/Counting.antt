-- The heads of the first columns, and how many of their records are before the line.
use Rattle.std.proofs.Common.{◌≡◌, ℕ, zero, suc, ◌+◌, ◌<◌, ◌≤◌, List, [], ◌∷◌, ◌++◌, length, map, replicate, take, Bool, true, false, refl, sym, ap, subst, ◌∙◌, arith}
use Rattle.std.specs.Prelude.{filter, slice_set, slice_index_or}
use Rattle.std.specs.List.{AllByRecursion as Each}
use Rattle.std.specs.List.Sorted.{IsNonDecreasingBy, IsPartitionPoint}
use Rattle.std.proofs.lemmas.Bool.{cond-true, cond-false}
use Rattle.std.proofs.lemmas.List.{take_more}
use Rattle.tw_fossils.specs.Columns.{IsRising, AreColumns}
use Rattle.tw_fossils.specs.Merging.{head_before, to_take}
use Rattle.tw_msgs.specs.declared.record.Record.{Record}
use Rattle.tw_theory.specs.Traces.{before}
use Rattle.tw_vtime.specs.Stamps.{never}

-- ---- the heads of the first columns; of the others none is known

abbrev pub begun : ℕ → ℕ → List (List Record) → List ℕ
begun line zero columns = replicate (length columns) never
begun line (suc i) [] = []
begun line (suc i) (column ∷ columns) = head_before line column ∷ begun line i columns

pub begun_size : (line i : ℕ) (columns : List (List Record)) → length (begun line i columns) ≡ length columns
begun_size line zero [] = refl
begun_size line zero (column ∷ columns) = ap suc (begun_size line zero columns)
begun_size line (suc i) [] = refl
begun_size line (suc i) (column ∷ columns) = ap suc (begun_size line i columns)

pub begun_more : (line i : ℕ) (columns : List (List Record)) (column : List Record) → i < length columns → column ≡ slice_index_or columns i column
    → slice_set (begun line i columns) i (head_before line column) ≡ begun line (suc i) columns
begun_more line i [] column near at = absurd (omega (arith, near))
begun_more line zero (x ∷ columns) column near at = ap (λ rs. head_before line rs ∷ replicate (length columns) never) at
begun_more line (suc i) (x ∷ columns) column near at = ap (λ l. head_before line x ∷ l) (begun_more line i columns column (omega (arith, near)) at)

pub begun_all : (line i : ℕ) (columns : List (List Record)) → length columns ≤ i → begun line i columns ≡ map (head_before line) columns
begun_all line zero [] far = refl
begun_all line zero (column ∷ columns) far = absurd (omega (arith, far))
begun_all line (suc i) [] far = refl
begun_all line (suc i) (column ∷ columns) far = ap (λ l. head_before line column ∷ l) (begun_all line i columns (omega (arith, far)))

-- ---- how many records of a column are before the line

each_at : (P : Record → Type 0) (rs : List Record) (j : ℕ) (d : Record) → Each P rs → j < length rs → P (slice_index_or rs j d)
each_at P [] j d h near = absurd (omega (arith, near))
each_at P (r ∷ rs) zero d h near = h.0
each_at P (r ∷ rs) (suc j) d h near = each_at P rs j d h.1 (omega (arith, near))

step_order : (r : Record) (rs : List Record) → Each (λ y. r.stamp < y.stamp) rs → IsNonDecreasingBy (λ x. x.stamp) rs → (i j : ℕ) (d : Record) → i ≤ j → j < length (r ∷ rs)
    → (slice_index_or (r ∷ rs) i d).stamp ≤ (slice_index_or (r ∷ rs) j d).stamp
step_order r rs h rest zero zero d l near = omega arith
step_order r rs h rest zero (suc j) d l near = let after = each_at (λ y. r.stamp < y.stamp) rs j d h (omega (arith, near)) in omega (arith, after)
step_order r rs h rest (suc i) zero d l near = absurd (omega (arith, l))
step_order r rs h rest (suc i) (suc j) d l near = rest i j d (omega (arith, l)) (omega (arith, near))

pub in_order : (rs : List Record) → IsRising rs → IsNonDecreasingBy (λ r. r.stamp) rs
in_order [] h = λ i j d l near. absurd (omega (arith, near))
in_order (r ∷ rs) h = step_order r rs h.0 (in_order rs h.1)

pub counted : (p : Record → Bool) (rs : List Record) (n : ℕ) → n ≤ length rs → IsPartitionPoint (λ r. p r ≡ true) (λ r. p r ≡ false) rs n → length (filter p rs) ≡ n
counted p [] n bound at = omega (arith, bound)
counted p (r ∷ rs) zero bound at =
    ap length (cond-false (p r) (r ∷ filter p rs) (filter p rs) (at.1 0 r (omega arith) (omega arith)))
    ∙ counted p rs 0 (omega arith) ((λ k d l m. absurd (omega (arith, l, m))), (λ k d l m. at.1 (suc k) d (omega arith) (omega (arith, m))))
counted p (r ∷ rs) (suc n) bound at =
    ap length (cond-true (p r) (r ∷ filter p rs) (filter p rs) (at.0 0 r (omega arith) (omega arith)))
    ∙ ap suc (counted p rs n (omega (arith, bound)) ((λ k d l m. at.0 (suc k) d (omega arith) (omega (arith, m))), (λ k d l m. at.1 (suc k) d (omega (arith, l)) (omega (arith, m)))))

pub column_at : (b i : ℕ) (columns : List (List Record)) (column : List Record) → AreColumns b columns → i < length columns → column ≡ slice_index_or columns i column → IsRising column
column_at b i [] column h near at = absurd (omega (arith, near))
column_at b zero (x ∷ columns) column h near at = subst IsRising (sym at) h.0.rising
column_at b (suc i) (x ∷ columns) column h near at = column_at (suc b) i columns column h.1 (omega (arith, near)) at

to_take_push : (line : ℕ) (left : List (List Record)) (column : List Record) → to_take line (left ++ column ∷ []) ≡ to_take line left + length (before line column)
to_take_push line [] column = omega arith
to_take_push line (rs ∷ left) column = omega (arith, to_take_push line left column)

-- one column more
pub to_take_more : (line i : ℕ) (columns : List (List Record)) (column : List Record) → i < length columns → column ≡ slice_index_or columns i column
    → to_take line (take (i + 1) columns) ≡ to_take line (take i columns) + length (before line column)
to_take_more line i columns column near at = ap (to_take line) (take_more columns i column near ∙ ap (λ x. take i columns ++ x ∷ []) (sym at)) ∙ to_take_push line (take i columns) column
