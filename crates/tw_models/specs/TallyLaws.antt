-- The laws of the tally.
use Rattle.std.specs.Prelude.{◌≡◌, ℕ, ℤ, ◌+◌, ◌%◌, ◌≤◌, [], ◌∷◌, length, refl, FitsSigned}
use Rattle.std.proofs.Common.{arith, ap, ap₂, ◌∙◌}
use Rattle.std.specs.Int.{w64, int_wrapping_sub}
use Rattle.tw_atomic.specs.Atomic.{Bag, CanTurn, FitsBag, FitsOutput, turned}
use Rattle.tw_atomic.specs.declared.Turn.{Turn}
use Rattle.tw_atomic.specs.declared.Turn.TheVariants.{Int, Ext, Con}
use Rattle.tw_models.specs.declared.tally.TallyState.{TallyState}
use Rattle.tw_models.specs.Wraps.{less-more, wrapping_sub-add, wrapping_add-fits}
use Rattle.tw_models.specs.Tally.{IsTally, tally_one, tally_all, tally_none, tally_meaning, tally_undone}

TallyState-same : (a b : TallyState) → a.count ≡ b.count → a.sum ≡ b.sum → a.last ≡ b.last → a ≡ b
TallyState-same a b count total last =
    let made : ℕ → ℤ → ℤ → TallyState = λ n s l. record { count = n; sum = s; last = l } in
    ap₂ (λ (n : ℕ) (s : ℤ). made n s a.last) count total ∙ ap (made b.count b.sum) last

IsTally-one : (s : TallyState) (item : ℕ × ℤ) → IsTally s → FitsSigned w64 item.1 → IsTally (tally_one s item)
IsTally-one s item valid fits = record { count_fits = omega arith; sum_fits = wrapping_add-fits s.sum item.1; last_fits = fits }

IsTally-all : (s : TallyState) (bag : Bag) → IsTally s → FitsBag bag → IsTally (tally_all s bag)
IsTally-all s [] valid fits = valid
IsTally-all s (item ∷ items) valid fits = IsTally-all (tally_one s item) items (IsTally-one s item valid fits.0.1) fits.1

-- all of a bag less, after all of it more
count-none : (s : TallyState) (bag : Bag) → IsTally s → FitsBag bag → (tally_none (tally_all s bag) bag).count ≡ s.count
count-none s [] valid fits = refl
count-none s (item ∷ items) valid fits =
    ap (λ n. (n + 18446744073709551615) % 18446744073709551616) (count-none (tally_one s item) items (IsTally-one s item valid fits.0.1) fits.1) ∙ less-more s.count valid.count_fits

sum-none : (s : TallyState) (bag : Bag) → IsTally s → FitsBag bag → (tally_none (tally_all s bag) bag).sum ≡ s.sum
sum-none s [] valid fits = refl
sum-none s (item ∷ items) valid fits =
    ap (λ n. int_wrapping_sub w64 n item.1) (sum-none (tally_one s item) items (IsTally-one s item valid fits.0.1) fits.1) ∙ wrapping_sub-add s.sum item.1 valid.sum_fits fits.0.1

pub tally_stays_valid : (turn : Turn) (s : TallyState) (elapsed : ℕ) (bag : Bag) → CanTurn IsTally tally_meaning turn s elapsed bag → IsTally (turned tally_meaning turn s elapsed bag)
tally_stays_valid Int s elapsed bag can = can.valid
tally_stays_valid Ext s elapsed bag can = IsTally-all s bag can.valid can.bag_fits
tally_stays_valid Con s elapsed bag can = IsTally-all s bag can.valid can.bag_fits

pub tally_output_fits : (s : TallyState) → (length (tally_meaning.out s) ≤ 64) × FitsOutput (tally_meaning.out s)
tally_output_fits s = (omega arith, tt)

pub tally_reverses : (turn : Turn) (s : TallyState) (elapsed : ℕ) (bag : Bag) → CanTurn IsTally tally_meaning turn s elapsed bag → tally_undone turn (turned tally_meaning turn s elapsed bag) bag s.last ≡ s
tally_reverses Int s elapsed bag can = refl
tally_reverses Ext s elapsed bag can = TallyState-same _ s (count-none s bag can.valid can.bag_fits) (sum-none s bag can.valid can.bag_fits) refl
tally_reverses Con s elapsed bag can = TallyState-same _ s (count-none s bag can.valid can.bag_fits) (sum-none s bag can.valid can.bag_fits) refl
