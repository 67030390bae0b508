-- Networks that differ in the order of their couplings alone: that order is seen nowhere.
--     AreAlike net other      the same models, inputs and greatest microstep, and the same couplings in any order
use Rattle.std.specs.Prelude.{ℕ, ◌≡◌, List}
use Rattle.std.specs.List.Sorted.{IsPermutation}
use Rattle.tw_theory.specs.Contents.{Cancel}
use Rattle.tw_theory.specs.Executive.{World, Action, act}
use Rattle.tw_theory.specs.Network.{Network}
use Rattle.tw_theory.specs.Simulator.{sequential}
use Rattle.tw_theory.specs.Soundness.{new_world}
use Rattle.tw_laws.specs.Headline.{Command, after_commands}

pub record AreAlike {S : Type 0} (net other : Network S) : Type 0 where
  pub models : net.models ≡ other.models
  pub couplings : IsPermutation net.couplings other.couplings
  pub inputs : net.inputs ≡ other.inputs
  pub micro_limit : net.micro_limit ≡ other.micro_limit

pub record CouplingsLaw (S : Type 0) : Type 0 where
  -- they have one sequential run: where it ends, its records, and its fault
  pub run : (net other : Network S) → AreAlike net other → (until : ℕ) → sequential net until ≡ sequential other until
  -- an executive of the one starts as one of the other does, and each action gives the same answer and the same world
  pub start : (net other : Network S) → AreAlike net other → (cancel : Cancel) → new_world net cancel ≡ new_world other cancel
  pub action : (net other : Network S) → AreAlike net other → (until : ℕ) (w : World S) (action : Action) → act net until w action ≡ act other until w action
  -- so whatever is done to them, they are in the same world
  pub commands : (net other : Network S) → AreAlike net other → (until : ℕ) (w : World S) (commands : List Command)
      → after_commands net until w commands ≡ after_commands other until w commands
