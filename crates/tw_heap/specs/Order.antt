-- A list in rising order, whatever the order is.
use Rattle.std.specs.Prelude.{◌≡◌, Bool, true, false, List, [], ◌∷◌, if◌then◌else◌}

-- a strict order in which any two things that are not the same are ordered
pub record IsStrictOrder {X : Type 0} (lt : X → X → Bool) : Type 0 where
  pub irreflexive : (x : X) → lt x x ≡ false
  pub transitive : (x y z : X) → lt x y ≡ true → lt y z ≡ true → lt x z ≡ true
  pub connected : (x y : X) → lt x y ≡ false → lt y x ≡ false → x ≡ y

module _ {X : Type 0} (lt : X → X → Bool) where
  -- with x behind all those at the front that are less
  abbrev pub insert_by : X → List X → List X
  insert_by x [] = x ∷ []
  insert_by x (y ∷ ys) = if lt y x then y ∷ insert_by x ys else x ∷ y ∷ ys

  -- in rising order
  abbrev pub sort_by : List X → List X
  sort_by [] = []
  sort_by (x ∷ xs) = insert_by x (sort_by xs)
