-- Two lists, element by element.
use Rattle.std.proofs.Common.{◌≡◌, ◌∙◌, ◌+◌, ◌++◌, ◌∷◌, [], ℕ, suc, List, length, map, refl, ap, arith}
use Rattle.std.specs.List.{zip}
use Rattle.tw_figures.specs.Labelled.{Label}
use Rattle.tw_stats.specs.Rows.{row_of, rows_from}
use Rattle.tw_stats.specs.declared.report.Part.{Part}

-- the first of each pair, seen otherwise
pub zip_seen : {A B C : Type 0} (f : A → C) (xs : List A) (ys : List B) → map (λ p. (f p.0, p.1)) (zip xs ys) ≡ zip (map f xs) ys
zip_seen f [] ys = refl
zip_seen f (x ∷ xs) [] = refl
zip_seen f (x ∷ xs) (y ∷ ys) = ap (λ l. (f x, y) ∷ l) (zip_seen f xs ys)

pub rows_length : (name_of : ℕ → List ℕ) (c : ℕ) (xs : List (Label × Part)) → length (rows_from name_of c xs) ≡ length xs
rows_length name_of c [] = refl
rows_length name_of c (x ∷ xs) = ap (λ n. suc n) (rows_length name_of (c + 1) xs)

-- one component more
pub rows_more : (name_of : ℕ → List ℕ) (c : ℕ) (xs : List (Label × Part)) (x : Label × Part)
    → rows_from name_of c (xs ++ x ∷ []) ≡ rows_from name_of c xs ++ row_of (name_of (c + length xs)) x.0 x.1 ∷ []
rows_more name_of c [] x = (let e : c ≡ c + 0 = omega arith in ap (λ n. row_of (name_of n) x.0 x.1 ∷ []) e)
rows_more name_of c (y ∷ xs) x =
    let e : c + 1 + length xs ≡ c + suc (length xs) = omega arith in
    ap (λ l. row_of (name_of c) y.0 y.1 ∷ l) (rows_more name_of (c + 1) xs x ∙ ap (λ n. rows_from name_of (c + 1) xs ++ row_of (name_of n) x.0 x.1 ∷ []) e)
