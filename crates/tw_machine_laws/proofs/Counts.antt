-- Counts of 64 bits in registers, and lists cut and put together.
use Rattle.std.proofs.Common.{◌≡◌, ℕ, ℤ, zero, suc, ◌+◌, ◌%◌, ◌<◌, ◌++◌, ◌∷◌, [], List, length, take, refl, ap, arith, ◌∙◌, Option, Some, None}
use Rattle.std.specs.Prelude.{pos}
use Rattle.std.specs.List.{insert}
use Rattle.std.specs.Int.{w64, cast_signed, cast_unsigned, int_wrapping_add}
use Rattle.std.proofs.lemmas.Int.{of_z-to_z}
use Rattle.tw_machine.specs.Machine as machine
use Rattle.tw_models.specs.Left as model

-- a register of a count, and a number more
pub more : (n k : ℕ) → n < 18446744073709551616 → int_wrapping_add w64 (cast_signed w64 n) (pos k) ≡ cast_signed w64 ((n + k) % 18446744073709551616)
more n k h = ap (λ (u : ℕ). cast_signed w64 ((u + k) % 18446744073709551616)) (of_z-to_z w64 n h)

pub none-more : (n : ℕ) → n < 18446744073709551616 → int_wrapping_add w64 (cast_signed w64 n) (pos 0) ≡ cast_signed w64 n
none-more n h = more n 0 h ∙ ap (cast_signed w64) (omega (arith, h))

-- a register's count is shown as it is
pub shown : (n : ℕ) → n < 18446744073709551616 → cast_unsigned w64 (cast_signed w64 n) ≡ n
shown n h = of_z-to_z w64 n h

pub same-minus : (left : Option ℕ) (elapsed : ℕ) → machine.minus left elapsed ≡ model.minus left elapsed
same-minus None elapsed = refl
same-minus (Some left) elapsed = refl

pub take-nil : {A : Type 0} (n : ℕ) → take {A = A} n [] ≡ []
take-nil zero = refl
take-nil (suc n) = refl

pub insert-end : (items : List ℤ) (v : ℤ) → insert items (length items) v ≡ items ++ v ∷ []
insert-end [] v = refl
insert-end (w ∷ ws) v = ap (λ items. w ∷ items) (insert-end ws v)
