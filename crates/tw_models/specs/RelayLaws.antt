-- The laws of the relay.
use Rattle.std.specs.Prelude.{◌≡◌, ◌≢◌, ℕ, ℤ, ◌≤◌, List, [], ◌∷◌, map, length, Option, refl}
use Rattle.std.proofs.Common.{arith, ap, ap₂, ◌∙◌, sym}
use Rattle.std.proofs.lemmas.List.{length-map}
use Rattle.tw_atomic.specs.Atomic.{Bag, CanTurn, FitsBag, FitsOutput, turned}
use Rattle.tw_atomic.specs.declared.Turn.{Turn}
use Rattle.tw_atomic.specs.declared.Turn.TheVariants.{Int, Ext, Con}
use Rattle.tw_models.specs.declared.relay.RelayState.{RelayState}
use Rattle.tw_models.specs.Parameters.{RelayParameters}
use Rattle.tw_models.specs.Wraps.{dropped-back, IsWithin-ext}
use Rattle.tw_models.specs.Intake.{left_after, left_before, FitsValues}
use Rattle.tw_models.specs.IntakeLaws.{kept-back, room-accepted, FitsValues-accepted, waits-after, left-back, FitsLeft-after, some-bag}
use Rattle.tw_models.specs.Relay.{IsRelay, relay_int, relay_ext, relay_meaning, relay_residue, relay_undone}
use Rattle.std.specs.Prelude.{◌-◌}

RelayState-same : (a b : RelayState) → a.held.items ≡ b.held.items → a.dropped ≡ b.dropped → a.left ≡ b.left → a ≡ b
RelayState-same a b held dropped left =
    let made : List ℤ → ℕ → Option ℕ → RelayState = λ h n l. record { held = record { items = h }; dropped = n; left = l } in
    ap₂ (λ (h : List ℤ) (n : ℕ). made h n a.left) held dropped ∙ ap (made b.held.items b.dropped) left

IsRelay-ext : (r : RelayParameters) (s : RelayState) (elapsed : ℕ) (bag : Bag) → IsRelay r s → FitsBag bag → bag ≢ [] → IsRelay r (relay_ext r s elapsed bag)
IsRelay-ext r s elapsed bag valid bag_fits some =
    record {
      parameters = valid.parameters;
      values_fit = FitsValues-accepted 32 s.held.items s.held.items bag valid.values_fit bag_fits;
      room = room-accepted 32 s.held.items bag valid.room;
      dropped_fits = omega arith;
      left_fits = FitsLeft-after s.held.items s.left elapsed r.delay valid.left_fits (omega (arith, valid.parameters.delay_fits));
      waits = waits-after 32 s.held.items s.left elapsed r.delay bag (omega arith) valid.waits some;
    }

IsRelay-int : (r : RelayParameters) (s : RelayState) → IsRelay r s → IsRelay r (relay_int s)
IsRelay-int r s valid = record { parameters = valid.parameters; values_fit = tt; room = omega arith; dropped_fits = valid.dropped_fits; left_fits = tt; waits = tt }

pub relay_stays_valid : (r : RelayParameters) (turn : Turn) (s : RelayState) (elapsed : ℕ) (bag : Bag) → CanTurn (IsRelay r) (relay_meaning r) turn s elapsed bag → IsRelay r (turned (relay_meaning r) turn s elapsed bag)
relay_stays_valid r Int s elapsed bag can = IsRelay-int r s can.valid
relay_stays_valid r Ext s elapsed bag can = IsRelay-ext r s elapsed bag can.valid can.bag_fits (some-bag s.left elapsed bag can.due)
relay_stays_valid r Con s elapsed bag can = IsRelay-ext r (relay_int s) 0 bag (IsRelay-int r s can.valid) can.bag_fits can.due.1

FitsOutput-values : (values : List ℤ) → FitsValues values → FitsOutput (map (λ value. (0, value)) values)
FitsOutput-values [] fits = tt
FitsOutput-values (value ∷ values) fits = ((omega arith, fits.0), FitsOutput-values values fits.1)

pub relay_output_fits : (r : RelayParameters) (s : RelayState) → IsRelay r s → (length ((relay_meaning r).out s) ≤ 64) × FitsOutput ((relay_meaning r).out s)
relay_output_fits r s valid = (omega (arith, valid.room, let item : ℤ → ℕ × ℤ = λ value. (0, value) in length-map s.held.items item), FitsOutput-values s.held.items valid.values_fit)

pub relay_reverses : (r : RelayParameters) (turn : Turn) (s : RelayState) (elapsed : ℕ) (bag : Bag) → CanTurn (IsRelay r) (relay_meaning r) turn s elapsed bag
    → relay_undone turn (turned (relay_meaning r) turn s elapsed bag) elapsed bag (relay_residue turn s bag) ≡ s
relay_reverses r Int s elapsed bag can = RelayState-same _ s refl refl (sym can.due.0)
relay_reverses r Ext s elapsed bag can =
    let held = kept-back 32 s.held.items bag in
    RelayState-same _ s held (dropped-back s.dropped (length bag) (32 - length s.held.items) can.valid.dropped_fits)
    (ap (λ h. left_before h (left_after s.held.items s.left elapsed r.delay) elapsed) held ∙ left-back s.held.items s.left elapsed r.delay can.valid.waits can.valid.left_fits (IsWithin-ext s.left elapsed bag can.due))
relay_reverses r Con s elapsed bag can = RelayState-same _ s refl (dropped-back s.dropped (length bag) 32 can.valid.dropped_fits) (sym can.due.0)
