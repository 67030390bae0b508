-- The relay: it holds what comes, at most 32 values, and sends it all on port 0 after its delay.
use Rattle.std.specs.Prelude.{ℕ, pos, ◌-◌, ◌<◌, ◌≤◌, [], ◌∷◌, ◌++◌, map, take, length, min, Some, None}
use Rattle.tw_atomic.specs.Atomic.{Bag, Meaning}
use Rattle.tw_atomic.specs.declared.Turn.{Turn}
use Rattle.tw_atomic.specs.declared.Turn.TheVariants.{Int, Ext, Con}
use Rattle.tw_models.specs.declared.relay.RelayState.{RelayState}
use Rattle.tw_models.specs.declared.relay.RelayResidue.{RelayResidue}
use Rattle.tw_models.specs.Parameters.{RelayParameters, FitsRelay}
use Rattle.tw_models.specs.Left.{FitsLeft}
use Rattle.tw_models.specs.Intake.{accepted_values, dropped_after, dropped_before, left_after, left_before, FitsValues, WaitsWith}

-- the parameter is in range, the numbers of the state fit, at most 32 values are held, and it waits exactly while it holds some
pub record IsRelay (r : RelayParameters) (s : RelayState) : Type 0 where
  pub parameters : FitsRelay r
  pub values_fit : FitsValues s.held.items
  pub room : length s.held.items ≤ 32
  pub dropped_fits : s.dropped < 18446744073709551616
  pub left_fits : FitsLeft s.left
  pub waits : WaitsWith s.held.items s.left

-- all that is held goes
abbrev pub relay_int : RelayState → RelayState
relay_int s = record { held = record { items = [] }; dropped = s.dropped; left = None }

-- what finds room is held, the rest is counted; a delay begins where nothing was held
abbrev pub relay_ext : RelayParameters → RelayState → ℕ → Bag → RelayState
relay_ext r s elapsed bag =
    record {
      held = record { items = s.held.items ++ accepted_values 32 s.held.items bag };
      dropped = dropped_after 32 s.held.items s.dropped bag;
      left = left_after s.held.items s.left elapsed r.delay;
    }

abbrev pub relay_meaning : RelayParameters → Meaning RelayState
relay_meaning r =
    record {
      start = record { held = record { items = [] }; dropped = 0; left = None };
      ta = λ s. s.left;
      out = λ s. map (λ value. (0, value)) s.held.items;
      int = relay_int;
      ext = relay_ext r;
      con = λ s elapsed bag. relay_ext r (relay_int s) 0 bag;
      words = λ s. pos s.dropped ∷ s.held.items;
    }

-- what a turn keeps: how many values found room, and what was held when it went
abbrev pub relay_residue : Turn → RelayState → Bag → RelayResidue
relay_residue Int s bag = record { accepted = 0; given = s.held.items }
relay_residue Ext s bag = record { accepted = min (32 - length s.held.items) (length bag); given = [] }
relay_residue Con s bag = record { accepted = min 32 (length bag); given = s.held.items }

-- the state before a turn: the values that found room are cut off
abbrev pub relay_undone : Turn → RelayState → ℕ → Bag → RelayResidue → RelayState
relay_undone Int s elapsed bag residue = record { held = record { items = residue.given }; dropped = s.dropped; left = Some elapsed }
relay_undone Ext s elapsed bag residue =
    let kept = take (length s.held.items - residue.accepted) s.held.items in
    record { held = record { items = kept }; dropped = dropped_before s.dropped (length bag) residue.accepted; left = left_before kept s.left elapsed }
relay_undone Con s elapsed bag residue = record { held = record { items = residue.given }; dropped = dropped_before s.dropped (length bag) residue.accepted; left = Some elapsed }
