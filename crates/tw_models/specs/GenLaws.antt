-- The laws of the generator.
use Rattle.std.specs.Prelude.{◌≡◌, ℕ, ◌≤◌, Option, length, refl}
use Rattle.std.proofs.Common.{arith, ap₂, sym}
use Rattle.tw_atomic.specs.Atomic.{Bag, CanTurn, FitsOutput, turned}
use Rattle.tw_atomic.specs.declared.Turn.{Turn}
use Rattle.tw_atomic.specs.declared.Turn.TheVariants.{Int, Ext, Con}
use Rattle.tw_models.specs.declared.generator.GenState.{GenState}
use Rattle.tw_models.specs.Parameters.{GenParameters}
use Rattle.tw_models.specs.Wraps.{less-more, plus-minus, FitsLeft-minus, IsWithin-ext}
use Rattle.tw_models.specs.Gen.{IsGen, gen_meaning, gen_undone}

GenState-same : (a b : GenState) → a.count ≡ b.count → a.left ≡ b.left → a ≡ b
GenState-same a b count left = let made : ℕ → Option ℕ → GenState = λ n l. record { count = n; left = l } in ap₂ made count left

pub gen_stays_valid : (g : GenParameters) (turn : Turn) (s : GenState) (elapsed : ℕ) (bag : Bag) → CanTurn (IsGen g) (gen_meaning g) turn s elapsed bag → IsGen g (turned (gen_meaning g) turn s elapsed bag)
gen_stays_valid g Int s elapsed bag can = record { parameters = can.valid.parameters; count_fits = omega arith; left_fits = omega (arith, can.valid.parameters.period_fits) }
gen_stays_valid g Ext s elapsed bag can = record { parameters = can.valid.parameters; count_fits = can.valid.count_fits; left_fits = FitsLeft-minus s.left elapsed can.valid.left_fits }
gen_stays_valid g Con s elapsed bag can = record { parameters = can.valid.parameters; count_fits = omega arith; left_fits = omega (arith, can.valid.parameters.period_fits) }

pub gen_output_fits : (g : GenParameters) (s : GenState) → IsGen g s → (length ((gen_meaning g).out s) ≤ 64) × FitsOutput ((gen_meaning g).out s)
gen_output_fits g s valid = (omega arith, ((omega arith, valid.parameters.value_fits), tt))

pub gen_reverses : (g : GenParameters) (turn : Turn) (s : GenState) (elapsed : ℕ) (bag : Bag) → CanTurn (IsGen g) (gen_meaning g) turn s elapsed bag → gen_undone turn (turned (gen_meaning g) turn s elapsed bag) elapsed ≡ s
gen_reverses g Int s elapsed bag can = GenState-same _ s (less-more s.count can.valid.count_fits) (sym can.due.0)
gen_reverses g Ext s elapsed bag can = GenState-same _ s refl (plus-minus s.left elapsed can.valid.left_fits (IsWithin-ext s.left elapsed bag can.due))
gen_reverses g Con s elapsed bag can = GenState-same _ s (less-more s.count can.valid.count_fits) (sym can.due.0)
