-- Numbers that wrap at 2 ^ 64, taken back.
use Rattle.std.specs.Prelude.{◌≡◌, ℕ, ◌+◌, ◌-◌, ◌%◌, ◌<◌, min, Option, Some, None, refl, ℤ, FitsSigned}
use Rattle.std.specs.Int.{w64, int_wrapping_add, int_wrapping_sub, cast_unsigned, cast_signed}
use Rattle.std.proofs.Common.{arith, ap, ◌∙◌}
use Rattle.std.proofs.Math.Facts.{Fits-of_z, sfits_to_z}
use Rattle.std.proofs.lemmas.Int.{of_z-to_z, to_z-of_z}
use Rattle.tw_atomic.specs.Atomic.{Bag, IsDue}
use Rattle.tw_atomic.specs.declared.Turn.TheVariants.{Ext}
use Rattle.tw_models.specs.Left.{minus, plus, FitsLeft, IsWithin}

-- one more, and then one less
pub less-more : (n : ℕ) → n < 18446744073709551616 → ((n + 1) % 18446744073709551616 + 18446744073709551615) % 18446744073709551616 ≡ n
less-more n h = omega (arith, h)

-- a sum, and then the difference
pub less-add : (a b : ℕ) → a < 18446744073709551616 → b < 18446744073709551616 → ((a + b) % 18446744073709551616 + (18446744073709551616 - b)) % 18446744073709551616 ≡ a
less-add a b h k = omega (arith, h, k)

pub plus-minus : (left : Option ℕ) (elapsed : ℕ) → FitsLeft left → IsWithin elapsed left → plus (minus left elapsed) elapsed ≡ left
plus-minus None elapsed fits within = refl
plus-minus (Some left) elapsed fits within = ap Some (omega (arith, fits, within))

pub FitsLeft-minus : (left : Option ℕ) (elapsed : ℕ) → FitsLeft left → FitsLeft (minus left elapsed)
FitsLeft-minus None elapsed fits = tt
FitsLeft-minus (Some left) elapsed fits = omega (arith, fits)

-- an external transition comes before the remaining time is over
pub IsWithin-ext : (left : Option ℕ) (elapsed : ℕ) (bag : Bag) → IsDue left Ext elapsed bag → IsWithin elapsed left
IsWithin-ext None elapsed bag due = tt
IsWithin-ext (Some left) elapsed bag due = omega (arith, due.0)

-- no time is within any
pub IsWithin-zero : (left : Option ℕ) → IsWithin 0 left
IsWithin-zero None = tt
IsWithin-zero (Some left) = omega arith

-- a value as the number modulo 2 ^ 64
pub cast_unsigned-fits : (a : ℤ) → FitsSigned w64 a → cast_unsigned w64 a < 18446744073709551616
cast_unsigned-fits a fits = (Fits-of_z fits).fits

-- a wrapped sum, and then the difference
pub wrapping_sub-add : (a b : ℤ) → FitsSigned w64 a → FitsSigned w64 b → int_wrapping_sub w64 (int_wrapping_add w64 a b) b ≡ a
wrapping_sub-add a b f g =
    let sum : ℕ = (cast_unsigned w64 a + cast_unsigned w64 b) % 18446744073709551616 in
    let fits : sum < 18446744073709551616 = omega arith in
    ap (λ (n : ℕ). cast_signed w64 ((n + (18446744073709551616 - cast_unsigned w64 b)) % 18446744073709551616)) (of_z-to_z w64 sum fits)
    ∙ ap (cast_signed w64) (less-add (cast_unsigned w64 a) (cast_unsigned w64 b) (cast_unsigned-fits a f) (cast_unsigned-fits b g)) ∙ to_z-of_z w64 a f

pub wrapping_add-fits : (a b : ℤ) → FitsSigned w64 (int_wrapping_add w64 a b)
wrapping_add-fits a b = sfits_to_z (omega arith)

add-less : (a b : ℕ) → a < 18446744073709551616 → ((a + b) % 18446744073709551616 + (18446744073709551616 - b % 18446744073709551616)) % 18446744073709551616 ≡ a
add-less a b h = omega (arith, h)

-- what did not fit counted, and then not
pub dropped-back : (dropped items room : ℕ) → dropped < 18446744073709551616
    → ((dropped + (items - room)) % 18446744073709551616 + (18446744073709551616 - (items - min room items) % 18446744073709551616)) % 18446744073709551616 ≡ dropped
dropped-back dropped items room h =
    let same : items - min room items ≡ items - room = omega arith in
    rw same (add-less dropped (items - room) h)
