-- What an atomic model means, after Chow and Zeigler (1994): plain functions on states that are plain data. `Turn`, the kind of a transition, is the crate's own enum (Rattle.tw_atomic.specs.declared.Turn).
--     Meaning S      the start state, the time advance, the output, the three transitions, and the words of a state
--     turned m turn s elapsed bag      the state after a turn
--     CanTurn valid m turn s elapsed bag      the turn may be made from this state
--     AreAlike meaning undone m n      the models m and n mean the same, and take back alike
use Rattle.std.specs.Int.{w64}
use Rattle.std.specs.Prelude.{◌≡◌, ◌≢◌, ℕ, ℤ, ◌<◌, List, [], ◌∷◌, Option, Some, None, ⊤, FitsSigned}
use Rattle.tw_atomic.specs.declared.Turn.{Turn}
use Rattle.tw_atomic.specs.declared.Turn.TheVariants.{Int, Ext, Con}
pub use Rattle.tw_msgs.specs.Bags.{Bag, IsSorted}

-- an item that fits: its port is a number of 8 bits, its value one of 64 bits with sign
abbrev pub FitsItem : ℕ × ℤ → Type 0
FitsItem item = (item.0 < 256) × FitsSigned w64 item.1

-- a bag of items that fit
abbrev pub FitsBag : Bag → Type 0
FitsBag [] = ⊤
FitsBag (item ∷ items) = FitsItem item × FitsBag items

-- an output that fits: each port is 0 to 15, each value a number of 64 bits with sign
abbrev pub FitsOutput : Bag → Type 0
FitsOutput [] = ⊤
FitsOutput (item ∷ items) = ((item.0 < 16) × FitsSigned w64 item.1) × FitsOutput items

-- the plain functions of a model whose states are the values of S
pub record Meaning (S : Type 0) : Type 0 where
  pub start : S
  -- the time until the next internal transition; none: never, the state is passive
  pub ta : S → Option ℕ
  -- what is sent just before an internal or a confluent transition
  pub out : S → Bag
  -- the internal transition
  pub int : S → S
  -- the external transition: state, elapsed time, what came
  pub ext : S → ℕ → Bag → S
  -- the confluent transition, where both fall together
  pub con : S → ℕ → Bag → S
  -- the numbers by which a state is written
  pub words : S → List ℤ

-- the state after a turn
abbrev pub turned : {S : Type 0} → Meaning S → Turn → S → ℕ → Bag → S
turned m Int s elapsed bag = m.int s
turned m Ext s elapsed bag = m.ext s elapsed bag
turned m Con s elapsed bag = m.con s elapsed bag

-- when a turn is due: the component is imminent and nothing came (Int), is imminent and something came (Con), or something came before it was imminent (Ext)
abbrev pub IsDue : Option ℕ → Turn → ℕ → Bag → Type 0
IsDue ta Int elapsed bag = (ta ≡ Some elapsed) × (bag ≡ [])
IsDue ta Con elapsed bag = (ta ≡ Some elapsed) × (bag ≢ [])
IsDue None Ext elapsed bag = bag ≢ []
IsDue (Some advance) Ext elapsed bag = (elapsed < advance) × (bag ≢ [])

-- a turn that may be made: from a valid state, when it is due, with a sorted bag, and with numbers that fit
pub record CanTurn {S : Type 0} (IsValid : S → Type 0) (m : Meaning S) (turn : Turn) (s : S) (elapsed : ℕ) (bag : Bag) : Type 0 where
  pub valid : IsValid s
  pub due : IsDue (m.ta s) turn elapsed bag
  pub sorted : IsSorted bag
  pub elapsed_fits : elapsed < 18446744073709551616
  pub bag_fits : FitsBag bag

-- two models that mean the same and take a turn back alike, so that each can take back what the other made
pub record AreAlike {M S R : Type 0} (meaning : M → Meaning S) (undone : M → Turn → S → ℕ → Bag → R → S) (m n : M) : Type 0 where
  pub means : meaning m ≡ meaning n
  pub takes_back : undone m ≡ undone n
