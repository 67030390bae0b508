-- The items of a sorted bag fit as before.
use Rattle.std.proofs.Common.{ℕ, ℤ, [], ◌∷◌, arith}
use Rattle.std.proofs.lemmas.Bool.{cond_both}
use Rattle.tw_atomic.specs.Atomic.{FitsItem, FitsBag, FitsOutput}
use Rattle.tw_msgs.specs.Bags.{Bag, by_port, insert_item, sorted_bag}

insert-FitsBag : (x : ℕ × ℤ) (bag : Bag) → FitsItem x → FitsBag bag → FitsBag (insert_item x bag)
insert-FitsBag x [] f h = (f, tt)
insert-FitsBag x (y ∷ ys) f h = cond_both (by_port x y) (x ∷ y ∷ ys) (y ∷ insert_item x ys) FitsBag (λ e. (f, h)) (λ e. (h.0, insert-FitsBag x ys f h.1))

pub sorted_bag-FitsBag : (bag : Bag) → FitsBag bag → FitsBag (sorted_bag bag)
sorted_bag-FitsBag [] h = tt
sorted_bag-FitsBag (x ∷ xs) h = insert-FitsBag x (sorted_bag xs) h.0 (sorted_bag-FitsBag xs h.1)

-- an output is a bag that fits
pub FitsOutput-bag : (bag : Bag) → FitsOutput bag → FitsBag bag
FitsOutput-bag [] h = tt
FitsOutput-bag (x ∷ xs) h = let port = h.0.0 in ((omega (arith, port), h.0.1), FitsOutput-bag xs h.1)
