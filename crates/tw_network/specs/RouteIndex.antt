-- An index of routes: the places of all couplings one after another, and where those of each component's port begin.
--     IsRouteIndex couplings count places starts      places and starts are such an index of these couplings, of count components
use Rattle.std.specs.Prelude.{ℕ, ◌≡◌, ◌+◌, ◌*◌, ◌<◌, ◌≤◌, List, length, slice_index, slice_index_or, slice_range}
use Rattle.std.specs.Ordering.{nat_cmp, ordering_then}
use Rattle.std.specs.declared.cmp.Ordering.{Ordering}
use Rattle.tw_theory.specs.Network.{Coupling, Destination, destinations as destinations_of}

-- the number of a port of a component: each component has 16
abbrev pub part_of : ℕ → ℕ → ℕ
part_of component port = 16 * component + port

-- where a coupling leads
abbrev pub place_of : Coupling → Destination
place_of k = (k.2, k.3)

-- by source, port, destination and port
abbrev pub coupling_cmp : Coupling → Coupling → Ordering
coupling_cmp j k = ordering_then (ordering_then (ordering_then (nat_cmp j.0 k.0) (nat_cmp j.1 k.1)) (nat_cmp j.2 k.2)) (nat_cmp j.3 k.3)

-- the couplings of a part and of those after it begin at this index, and those before it stand before
pub record IsStart (couplings : List Coupling) (part start : ℕ) : Type 0 where
  pub within : start ≤ length couplings
  pub before : (i : ℕ) (d : Coupling) → i < start → part_of (slice_index_or couplings i d).0 (slice_index_or couplings i d).1 < part
  pub after : (i : ℕ) (d : Coupling) → start ≤ i → i < length couplings → part ≤ part_of (slice_index_or couplings i d).0 (slice_index_or couplings i d).1

-- where each part begins, of count components, and the last ends
abbrev pub AreStarts : List Coupling → ℕ → List ℕ → Type 0
AreStarts couplings count starts = (part : ℕ) → part < 16 * count + 1 → IsStart couplings part (slice_index starts part)

-- the places of a part
abbrev pub places_of_part : List Destination → List ℕ → ℕ → List Destination
places_of_part places starts part = slice_range places (slice_index starts part) (slice_index starts (part + 1))

pub record IsRouteIndex (couplings : List Coupling) (count : ℕ) (places : List Destination) (starts : List ℕ) : Type 0 where
  pub parts : length starts ≡ 16 * count + 1
  pub in_order : (part : ℕ) → part < 16 * count → slice_index starts part ≤ slice_index starts (part + 1)
  pub within : (part : ℕ) → part < 16 * count → slice_index starts (part + 1) ≤ length places
  pub routes : (component port : ℕ) → component < count → port < 16 → places_of_part places starts (part_of component port) ≡ destinations_of component port couplings
