-- The column that is counted along bytes is as many letters as stand behind the last newline among them.
use Rattle.std.proofs.Common.{◌≡◌, ◌+◌, ℕ, Bool, true, false, ◌||◌, if◌then◌else◌, List, [], ◌∷◌, refl, cond, count_by, arith}
use Rattle.std.specs.List.{list_any}
use Rattle.std.proofs.lemmas.List.Sums.{sum_by-cons}
use Rattle.tw_machine_text.specs.Place.{is_newline, begins_letter, last_line}

-- the column behind these bytes, where the one before them is n
abbrev pub column_along : ℕ → List ℕ → ℕ
column_along n [] = n
column_along n (c ∷ cs) = column_along (if is_newline c then 1 else if begins_letter c then n + 1 else n) cs

count_if : (t : Bool) (xs ys : List ℕ) → count_by begins_letter (if t then xs else ys) ≡ (if t then count_by begins_letter xs else count_by begins_letter ys)
count_if true xs ys = refl
count_if false xs ys = refl

whole : (cs : List ℕ) → list_any is_newline cs ≡ false → last_line cs ≡ cs
whole [] none = refl
whole (c ∷ cs) none = search (none)

one_more : (newline letter later : Bool) (n behind all : ℕ) → (later ≡ false → behind ≡ all)
    → (if later then 1 else if newline then 1 else if letter then n + 1 else n) + behind
    ≡ (if newline || later then 1 else n) + (if newline || later then behind else cond letter 1 0 + all)
one_more true letter true n behind all same = refl
one_more true letter false n behind all same = refl
one_more false letter true n behind all same = refl
one_more false true false n behind all same = omega (arith, same refl)
one_more false false false n behind all same = omega (arith, same refl)

more : (c : ℕ) (cs : List ℕ) → count_by begins_letter (c ∷ cs) ≡ cond (begins_letter c) 1 0 + count_by begins_letter cs
more c cs = search (sum_by-cons)

step : (n : ℕ) (c : ℕ) (cs : List ℕ)
    → (if list_any is_newline cs then 1 else if is_newline c then 1 else if begins_letter c then n + 1 else n) + count_by begins_letter (last_line cs)
    ≡ (if list_any is_newline (c ∷ cs) then 1 else n) + (if list_any is_newline (c ∷ cs) then count_by begins_letter (last_line cs) else cond (begins_letter c) 1 0 + count_by begins_letter cs)
step n c cs = one_more (is_newline c) (begins_letter c) (list_any is_newline cs) n (count_by begins_letter (last_line cs)) (count_by begins_letter cs) (λ none. search (whole cs none))

pub along : (n : ℕ) (cs : List ℕ) → column_along n cs ≡ (if list_any is_newline cs then 1 else n) + count_by begins_letter (last_line cs)
along n [] = omega arith
along n (c ∷ cs) =
    let next : ℕ = if is_newline c then 1 else if begins_letter c then n + 1 else n in
    cc (along next cs, step n c cs, more c cs, count_if (list_any is_newline (c ∷ cs)) (last_line cs) (c ∷ cs))

from_one : (later : Bool) (n : ℕ) → (if later then 1 else 1) + n ≡ n + 1
from_one true n = omega arith
from_one false n = omega arith

pub column : (cs : List ℕ) → column_along 1 cs ≡ count_by begins_letter (last_line cs) + 1
column cs = cc (along 1 cs, from_one (list_any is_newline cs) (count_by begins_letter (last_line cs)))
