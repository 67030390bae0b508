-- Figures beside values, and at a place.
use Rattle.std.proofs.Common.{◌≡◌, ◌<◌, ◌∷◌, [], ℕ, suc, zero, List, ap, arith, get_or, length, map, refl, slice_index_or}
use Rattle.std.specs.List.{zip}
use Rattle.tw_figures.specs.Labelled.{figure, label}
use Rattle.tw_figures.specs.declared.labels.Labels.{Labels}

-- the first of each pair, seen otherwise
pub zip_seen : {A B C : Type 0} (f : A → C) (xs : List A) (ys : List B) → map (λ p. (f p.0, p.1)) (zip xs ys) ≡ zip (map f xs) ys
zip_seen f [] ys = refl
zip_seen f (x ∷ xs) [] = refl
zip_seen f (x ∷ xs) (y ∷ ys) = ap (λ l. (f x, y) ∷ l) (zip_seen f xs ys)

-- the figures at a place
pub figures_at : (labels : List Labels) (c : ℕ) (l : Labels) → c < length labels → l ≡ get_or labels c l → map figure l.figures.items ≡ slice_index_or (map (λ x. x.figures) (map label labels)) c []
figures_at [] c l within is = absurd (omega (arith, within))
figures_at (x ∷ xs) zero l within is = ap (λ (y : Labels). map figure y.figures.items) is
figures_at (x ∷ xs) (suc c) l within is = figures_at xs c l (omega (arith, within)) is
