-- Bags: items, each a port and a value, of which equal ones are all kept.
--     by_port x y      whether x stands before y, or is y, by port and then value
--     IsSorted bag      the bag is in that order
--     sorted_bag bag      the same items in that order
--     item_cmp x y      how x stands to y in that order
use Rattle.std.specs.Prelude.{◌≡◌, ℕ, ℤ, ⊤, true, List, [], ◌∷◌, Bool, ◌&&◌, ◌||◌, ◌==◌, nat_lt, int_le, if◌then◌else◌}
use Rattle.std.specs.Ordering.{nat_cmp, int_cmp, int_eq, ordering_then}
use Rattle.std.specs.Cmp.{IsEquivalence, and_equiv, on_equiv, nat_eq_equiv, int_eq_equiv}
use Rattle.std.specs.Cmp.Lexicographic.{pointwise, lists_equiv}
use Rattle.std.specs.declared.cmp.Ordering.{Ordering}

abbrev pub Bag : Type 0
Bag = List (ℕ × ℤ)

-- whether x stands before y, or is y, by port and then value
abbrev pub by_port : ℕ × ℤ → ℕ × ℤ → Bool
by_port x y = nat_lt x.0 y.0 || (x.0 == y.0) && int_le x.1 y.1

-- whether an item stands at or before the first of a bag, or the bag is empty
abbrev pub IsBeforeFirst : ℕ × ℤ → Bag → Type 0
IsBeforeFirst x [] = ⊤
IsBeforeFirst x (y ∷ ys) = by_port x y ≡ true

abbrev pub IsSorted : Bag → Type 0
IsSorted [] = ⊤
IsSorted (x ∷ xs) = IsBeforeFirst x xs × IsSorted xs

abbrev pub insert_item : ℕ × ℤ → Bag → Bag
insert_item x [] = x ∷ []
insert_item x (y ∷ ys) = if by_port x y then x ∷ y ∷ ys else y ∷ insert_item x ys

abbrev pub sorted_bag : Bag → Bag
sorted_bag [] = []
sorted_bag (x ∷ xs) = insert_item x (sorted_bag xs)

-- by port and then value, as an order
abbrev pub item_cmp : ℕ × ℤ → ℕ × ℤ → Ordering
item_cmp x y = ordering_then (nat_cmp x.0 y.0) (int_cmp x.1 y.1)

abbrev pub same_item : ℕ × ℤ → ℕ × ℤ → Bool
same_item x y = (x.0 == y.0) && int_eq x.1 y.1

-- whether two bags have equal items in the same order
abbrev pub same_bag : Bag → Bag → Bool
same_bag = pointwise same_item

-- the law of that equality
pub same_bag_equiv : IsEquivalence same_bag
same_bag_equiv = lists_equiv (and_equiv (on_equiv (λ x. x.0) nat_eq_equiv) (on_equiv (λ x. x.1) int_eq_equiv))
