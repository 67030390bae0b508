-- What is reached from a port along couplings, of ports by their numbers.
--     Reaches edges a b      couplings lead from port a to port b, none or more
--     MarksReached edges count a seen      seen marks each port that is reached from port a, and no other, of count ports
--     Rises edges      couplings lead upwards and stand in the order of their sources
use Rattle.std.specs.Prelude.{ℕ, ◌≡◌, ◌↔◌, ◌<◌, ◌≤◌, Bool, true, false, List, slice_index_or}
use Rattle.std.specs.List.{All, AllPairs, Contains}

-- a coupling of two ports
abbrev pub Edge : Type 0
Edge = ℕ × ℕ

pub data Reaches (edges : List Edge) (a : ℕ) : ℕ → Type 0 where
  start : Reaches edges a a
  further : (b c : ℕ) → Reaches edges a b → Contains edges (b, c) → Reaches edges a c

-- port v is marked
abbrev pub IsMarked : List Bool → ℕ → Type 0
IsMarked marks v = slice_index_or marks v false ≡ true

abbrev pub MarksReached : List Edge → ℕ → ℕ → List Bool → Type 0
MarksReached edges count a seen = (v : ℕ) → v < count → IsMarked seen v ↔ Reaches edges a v

pub record IsWithin (count : ℕ) (e : Edge) : Type 0 where
  pub from : e.0 < count
  pub to : e.1 < count

-- no coupling leads back to where it, or one before it, begins
pub record Rises (edges : List Edge) : Type 0 where
  pub up : All (λ e. e.0 < e.1) edges
  pub in_order : AllPairs (λ e f. e.0 ≤ f.0) edges
