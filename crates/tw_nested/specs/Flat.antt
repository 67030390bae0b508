-- The flat couplings of parts, whose ports are numbered: those that a part puts out before those where it takes in.
--     IsFlat count edges atoms k      k leads from an atom's port to an atom's port that is reached from it
--     IsFlatSet count edges atoms flat      flat is exactly these, none twice, and not too many
--     IsTooMany count edges atoms      there are more than 8,192
use Rattle.std.specs.Prelude.{ℕ, ◌≡◌, ◌≢◌, ◌<◌, ◌≤◌, ◌+◌, ◌-◌, ◌*◌, ◌/◌, ◌%◌, ◌⊎◌, List, length, slice_index}
use Rattle.std.specs.List.{All, AllPairs, Contains}
use Rattle.tw_nested.specs.Reach.{Edge, Reaches}

abbrev pub Coupling : Type 0
Coupling = ℕ × ℕ × ℕ × ℕ

-- the number of a port of a part, of count parts: what it puts out, and where it takes in
abbrev pub out_of : ℕ → ℕ → ℕ → ℕ
out_of count part port = 16 * (count - (part + 1)) + port

abbrev pub in_of : ℕ → ℕ → ℕ → ℕ
in_of count part port = 16 * (count + part) + port

-- the number of an output port of all atoms, each of which has 16
abbrev pub port_out_of : ℕ → List ℕ → ℕ → ℕ
port_out_of count atoms port = out_of count (slice_index atoms (port / 16)) (port % 16)

pub record IsFlat (count : ℕ) (edges : List Edge) (atoms : List ℕ) (k : Coupling) : Type 0 where
  pub source : k.0 < length atoms
  pub source_port : k.1 < 16
  pub destination : k.2 < length atoms
  pub destination_port : k.3 < 16
  pub reached : Reaches edges (out_of count (slice_index atoms k.0) k.1) (in_of count (slice_index atoms k.2) k.3)

pub record IsFlatSet (count : ℕ) (edges : List Edge) (atoms : List ℕ) (flat : List Coupling) : Type 0 where
  pub sound : All (IsFlat count edges atoms) flat
  pub whole : (k : Coupling) → IsFlat count edges atoms k → Contains flat k
  pub once : AllPairs (λ a b. a ≢ b) flat
  pub few : length flat ≤ 8192

pub record IsTooMany (count : ℕ) (edges : List Edge) (atoms : List ℕ) : Type 0 where
  pub some : List Coupling
  pub sound : All (IsFlat count edges atoms) some
  pub once : AllPairs (λ a b. a ≢ b) some
  pub many : 8192 < length some

-- ---- as far as one has come

-- its source comes before this port of the atoms, or is it and its destination comes before that port
abbrev pub Before : ℕ → ℕ → Coupling → Type 0
Before from to k = (16 * k.0 + k.1 < from) ⊎ ((16 * k.0 + k.1 ≡ from) × (16 * k.2 + k.3 < to))

pub record IsCollected (count : ℕ) (edges : List Edge) (atoms : List ℕ) (flat : List Coupling) (from to : ℕ) : Type 0 where
  pub sound : All (IsFlat count edges atoms) flat
  pub whole : (k : Coupling) → IsFlat count edges atoms k → Before from to k → Contains flat k
  pub before : All (Before from to) flat
  pub once : AllPairs (λ a b. a ≢ b) flat
  pub few : length flat ≤ 8192
