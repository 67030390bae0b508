-- Stamps as the code compares them. Of a stamp that is not the lesser std says it: `ge_from_not_lt` of `lemmas.Map.Keys`.
use Rattle.std.proofs.Common.{◌≡◌, ℕ, ◌<◌, min, true, nat_cmp, is_lt, rules}
use Rattle.std.specs.Ordering.{ord_min}

-- what compares as less is less
pub lt_from_is_lt : (a b : ℕ) → is_lt (nat_cmp a b) ≡ true → a < b
lt_from_is_lt a b e = search rules

-- the lesser of two stamps, as `min` has it
pub ord_min-is : (m n : ℕ) → ord_min nat_cmp m n ≡ min m n
ord_min-is m n = search rules
