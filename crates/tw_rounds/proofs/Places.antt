-- The element at a place of a list.
use Rattle.std.proofs.Common.{◌≡◌, ℕ, zero, suc, ◌<◌, List, [], ◌∷◌, length, map, drop, sym, ap, ◌∙◌, arith, slice_index_or, take, ◌++◌, Vec}
use Rattle.std.specs.List.{AllByRecursion as Each}
use Rattle.std.proofs.Math.Seq.{take-append_seam}
use Rattle.std.specs.Vec.{with_items}

pub each_at : {X : Type 0} (P : X → Type 0) (xs : List X) (i : ℕ) (d : X) → i < length xs → Each P xs → P (slice_index_or xs i d)
each_at P [] i d l h = absurd (omega (arith, l))
each_at P (x ∷ xs) zero d l h = h.0
each_at P (x ∷ xs) (suc i) d l h = each_at P xs i d (omega (arith, l)) h.1

-- a vector whose elements were all written
pub all_written : {X Z : Type 0} (v : Vec X Z) (ws : List X) → length ws ≡ length v.items → (with_items v ws).items ≡ ws
all_written v ws e =
    let n : v.len ≡ length ws = v.ok.0 ∙ sym e in
    ap (λ k. take k (ws ++ drop (length ws) v.items)) n ∙ take-append_seam ws (drop (length ws) v.items)

-- of the first elements, one more
pub each_more : {X : Type 0} (P : X → Type 0) (xs : List X) (i : ℕ) (d : X) → i < length xs → Each P (take i xs) → P (slice_index_or xs i d) → Each P (take (suc i) xs)
each_more P [] i d l h p = absurd (omega (arith, l))
each_more P (x ∷ xs) zero d l h p = (p, tt)
each_more P (x ∷ xs) (suc i) d l h p = (h.0, each_more P xs i d (omega (arith, l)) h.1 p)

pub each_mapped : {X Y : Type 0} (P : Y → Type 0) (f : X → Y) (xs : List X) → Each (λ x. P (f x)) xs → Each P (map f xs)
each_mapped P f [] h = tt
each_mapped P f (x ∷ xs) h = (h.0, each_mapped P f xs h.1)
