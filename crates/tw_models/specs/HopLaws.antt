-- The laws of the hop.
use Rattle.std.specs.Prelude.{◌≡◌, ℕ, ℤ, ◌+◌, ◌-◌, ◌*◌, ◌%◌, ◌≤◌, ◌<◌, [], ◌∷◌, length, Option, Some, refl}
use Rattle.std.specs.Int.{w64, cast_unsigned}
use Rattle.std.proofs.Common.{arith, ap, ap₂, ◌∙◌, sym}
use Rattle.std.proofs.lemmas.Nat.{mul-mod_second}
use Rattle.tw_atomic.specs.Atomic.{Bag, CanTurn, FitsBag, FitsOutput, turned}
use Rattle.tw_atomic.specs.declared.Turn.{Turn}
use Rattle.tw_atomic.specs.declared.Turn.TheVariants.{Int, Ext, Con}
use Rattle.tw_models.specs.declared.hop.HopState.{HopState}
use Rattle.tw_models.specs.Parameters.{HopParameters}
use Rattle.tw_models.specs.Wraps.{less-add, plus-minus, FitsLeft-minus, IsWithin-ext, cast_unsigned-fits}
use Rattle.tw_models.specs.Hop.{IsHop, lcg, lcg_back, wait, stirred, stirred_all, unstirred, unstirred_all, hop_meaning, hop_undone}

-- the inverse of the multiplier: the product is 1 modulo 2 ^ 64
pub inverse_multiplier : 13877824140714322085 * 6364136223846793005 % 18446744073709551616 ≡ 1
inverse_multiplier = refl

HopState-same : (a b : HopState) → a.x ≡ b.x → a.left ≡ b.left → a ≡ b
HopState-same a b x left = let made : ℕ → Option ℕ → HopState = λ n l. record { x = n; left = l } in ap₂ made x left

-- taking back the summand
less-summand : (n : ℕ) → ((n + 1442695040888963407) % 18446744073709551616 + 17004049032820588209) % 18446744073709551616 ≡ n % 18446744073709551616
less-summand n = omega arith

-- the product of the multiplier, its inverse and a number is the number, modulo 2 ^ 64
less-multiplier : (x : ℕ) → x < 18446744073709551616 → 13877824140714322085 * (6364136223846793005 * x) % 18446744073709551616 ≡ x
less-multiplier x fits = omega (arith, fits)

pub lcg_back-lcg : (x : ℕ) → x < 18446744073709551616 → lcg_back (lcg x) ≡ x
lcg_back-lcg x fits =
    ap (λ n. 13877824140714322085 * n % 18446744073709551616) (less-summand (6364136223846793005 * x))
    ∙ mul-mod_second 13877824140714322085 (6364136223846793005 * x) 18446744073709551616
    ∙ less-multiplier x fits

unstirred-stirred : (x : ℕ) (item : ℕ × ℤ) → x < 18446744073709551616 → cast_unsigned w64 item.1 < 18446744073709551616 → unstirred (stirred x item) item ≡ x
unstirred-stirred x item fits value_fits =
    ap (λ n. (n + (18446744073709551616 - cast_unsigned w64 item.1)) % 18446744073709551616) (lcg_back-lcg ((x + cast_unsigned w64 item.1) % 18446744073709551616) (omega arith))
    ∙ less-add x (cast_unsigned w64 item.1) fits value_fits

stirred-fits : (x : ℕ) (bag : Bag) → x < 18446744073709551616 → stirred_all x bag < 18446744073709551616
stirred-fits x [] fits = fits
stirred-fits x (item ∷ items) fits = stirred-fits (stirred x item) items (omega arith)

unstirred-all : (x : ℕ) (bag : Bag) → x < 18446744073709551616 → FitsBag bag → unstirred_all (stirred_all x bag) bag ≡ x
unstirred-all x [] fits bag_fits = refl
unstirred-all x (item ∷ items) fits bag_fits =
    ap (λ n. unstirred n item) (unstirred-all (stirred x item) items (omega arith) bag_fits.1) ∙ unstirred-stirred x item fits (cast_unsigned-fits item.1 bag_fits.0.1)

wait-fits : (spread x : ℕ) → 1 ≤ spread → spread ≤ 1048576 → wait spread x < 18446744073709551616
wait-fits spread x some fits = omega (arith, some, fits)

pub hop_stays_valid : (h : HopParameters) (turn : Turn) (s : HopState) (elapsed : ℕ) (bag : Bag) → CanTurn (IsHop h) (hop_meaning h) turn s elapsed bag → IsHop h (turned (hop_meaning h) turn s elapsed bag)
hop_stays_valid h Int s elapsed bag can = record { parameters = can.valid.parameters; x_fits = omega arith; left_fits = wait-fits h.spread (lcg s.x) can.valid.parameters.spread_some can.valid.parameters.spread_fits }
hop_stays_valid h Ext s elapsed bag can = record { parameters = can.valid.parameters; x_fits = stirred-fits s.x bag can.valid.x_fits; left_fits = FitsLeft-minus s.left elapsed can.valid.left_fits }
hop_stays_valid h Con s elapsed bag can =
    record {
      parameters = can.valid.parameters;
      x_fits = stirred-fits (lcg s.x) bag (omega arith);
      left_fits = FitsLeft-minus (Some (wait h.spread (lcg s.x))) 0 (wait-fits h.spread (lcg s.x) can.valid.parameters.spread_some can.valid.parameters.spread_fits);
    }

pub hop_output_fits : (h : HopParameters) (s : HopState) → IsHop h s → (length ((hop_meaning h).out s) ≤ 64) × FitsOutput ((hop_meaning h).out s)
hop_output_fits h s valid = (omega arith, ((omega (arith, valid.parameters.ports_some, valid.parameters.ports_fit), omega arith), tt))

pub hop_reverses : (h : HopParameters) (turn : Turn) (s : HopState) (elapsed : ℕ) (bag : Bag) → CanTurn (IsHop h) (hop_meaning h) turn s elapsed bag → hop_undone turn (turned (hop_meaning h) turn s elapsed bag) elapsed bag ≡ s
hop_reverses h Int s elapsed bag can = HopState-same _ s (lcg_back-lcg s.x can.valid.x_fits) (sym can.due.0)
hop_reverses h Ext s elapsed bag can = HopState-same _ s (unstirred-all s.x bag can.valid.x_fits can.bag_fits) (plus-minus s.left elapsed can.valid.left_fits (IsWithin-ext s.left elapsed bag can.due))
hop_reverses h Con s elapsed bag can =
    HopState-same _ s (ap lcg_back (unstirred-all (lcg s.x) bag (omega arith) can.bag_fits) ∙ lcg_back-lcg s.x can.valid.x_fits) (sym can.due.0)
