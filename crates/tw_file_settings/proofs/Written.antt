-- A number that is written in decimal is read as that number.
use Rattle.std.proofs.Common.{◌≡◌, ◌∙◌, ◌<◌, ◌^◌, ℕ, suc, ℤ, List, ◌∷◌, true, false, not, bytes_eq, Option, Some, None, Result, Ok, arith, pos, negsuc, refl, sym, ap, subst}
use Rattle.std.specs.Prelude.{decimal, neg_ℤ}
use Rattle.std.specs.Fmt.{signed_decimal}
use Rattle.std.specs.Int.{w64}
use Rattle.std.specs.Int.RustNames.{FitsSigned}
use Rattle.std.specs.Result.{result_ok}
use Rattle.std.specs.Str.Parse.{ParsesSigned, ParsesUnsigned}
use Rattle.std.proofs.lemmas.Fmt.{decimal_is_IsNumeral, parse-decimal, parse-signed_decimal}
use Rattle.std.proofs.lemmas.Result.{Ok-from_Ok_iff}
use Rattle.std.proofs.lemmas.Slice.Eq.{bytes_eq-Decides}
use Rattle.std.proofs.lemmas.Str.Parse.{numerals_by_value, parse_signed_minus, tells_digits}

-- what differs is not the same
pub differing : (xs ys : List ℕ) → not (bytes_eq xs ys) ≡ true → xs ≡ ys → ⊥
differing xs ys differ same =
    let bad : false ≡ true = sym (ap not ((bytes_eq-Decides xs ys).1 same)) ∙ differ in cc

-- what is read of a text in which n is written is n
pub unsigned_read : {E : Type 0} (text : List ℕ) (r : Result ℕ E) (o : Option ℕ) → ParsesUnsigned 64 10 text r → o ≡ result_ok r
    → (n : ℕ) → n < 2 ^ 64 → text ≡ decimal n → o ≡ Some n
unsigned_read text r o parses reads n fits is = reads ∙ ap result_ok (parse-decimal 64 n text r fits fits is parses)

signed_ok : {E : Type 0} (text : List ℕ) (r : Result ℤ E) (z : ℤ) → FitsSigned w64 z → text ≡ signed_decimal z → ParsesSigned w64 10 text r → r ≡ Ok z
signed_ok text r (pos n) fits is h = parse-signed_decimal w64 (pos n) text r fits (omega (arith, fits.sfits)) is h
signed_ok text r (negsuc n) fits is h =
    let k = decimal_is_IsNumeral (suc n) (omega (arith, fits.sfits)) in
    let read = parse_signed_minus (numerals_by_value _ tells_digits) w64 (45 ∷ decimal (suc n)) r (subst (λ l. ParsesSigned w64 10 l r) is h) refl in
    Ok-from_Ok_iff r _ _ read (k.0.1, k.0.0, omega (arith, k.1, fits.sfits)) ∙ ap (λ m. Ok (neg_ℤ (pos m))) k.1

-- the same with a sign
pub signed_read : {E : Type 0} (text : List ℕ) (r : Result ℤ E) (o : Option ℤ) → ParsesSigned w64 10 text r → o ≡ result_ok r
    → (z : ℤ) → FitsSigned w64 z → text ≡ signed_decimal z → o ≡ Some z
signed_read text r o parses reads z fits is = reads ∙ ap result_ok (signed_ok text r z fits is parses)

pub nothing : {A : Type 0} (o : Option A) (x : A) → o ≡ None → o ≡ Some x → ⊥
nothing o x none some = let bad : None ≡ Some x = sym none ∙ some in cc

pub same : {A : Type 0} (o : Option A) (x y : A) → o ≡ Some x → o ≡ Some y → x ≡ y
same o x y this that = let both : Some x ≡ Some y = sym this ∙ that in cc
