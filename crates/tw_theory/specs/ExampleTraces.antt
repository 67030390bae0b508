-- What the sequential simulator records of the example networks, computed by hand.
use Rattle.std.specs.Prelude.{ℕ, ℤ, pos, ◌≡◌, List, [], ◌∷◌, Option, Some, None}
use Rattle.tw_msgs.specs.Bags.{Bag}
use Rattle.tw_msgs.specs.declared.record.Record.{Record}
use Rattle.tw_msgs.specs.declared.record_kind.RecordKind.TheVariants.{Out, Int, Ext, Con}
use Rattle.tw_vtime.specs.Stamps.{stamp}
use Rattle.tw_vtime.specs.declared.limits.Limit.TheVariants.{Microstep, Tick}
use Rattle.tw_theory.specs.ExampleModels.{State}
use Rattle.tw_theory.specs.ExampleNetworks.{gen_tally, no_components, two_gens, relay_row, ring, to_and_fro, lone}
use Rattle.tw_theory.specs.Network.{Network}
use Rattle.tw_theory.specs.Simulator.{Fault, sequential}

-- ---- records of component c at tick t and microstep m

abbrev pub out : ℕ → ℕ → ℕ → Bag → Record
out t m c bag = record { component = c; stamp = stamp t m 0; kind = Out; bag = bag; words = [] }

abbrev pub int : ℕ → ℕ → ℕ → List ℤ → Record
int t m c words = record { component = c; stamp = stamp t m 1; kind = Int; bag = []; words = words }

abbrev pub ext : ℕ → ℕ → ℕ → Bag → List ℤ → Record
ext t m c bag words = record { component = c; stamp = stamp t m 1; kind = Ext; bag = bag; words = words }

abbrev pub con : ℕ → ℕ → ℕ → Bag → List ℤ → Record
con t m c bag words = record { component = c; stamp = stamp t m 1; kind = Con; bag = bag; words = words }

-- one item, on port 0
abbrev pub item : ℕ → Bag
item v = (0, pos v) ∷ []

-- the run up to tick `until` gives these records and this fault
pub record IsTraced (net : Network State) (until : ℕ) (records : List Record) (fault : Option Fault) : Type 0 where
  pub records_are : (sequential net until).records ≡ records
  pub fault_is : (sequential net until).fault ≡ fault

-- ---- the traces

abbrev pub GenTally : Type 0
GenTally =
    IsTraced gen_tally 5
    (
    out 2 0 0 (item 5) ∷ int 2 0 0 (pos 1 ∷ []) ∷ ext 2 0 1 (item 5) (pos 1 ∷ pos 5 ∷ pos 5 ∷ [])
    ∷ out 4 0 0 (item 5) ∷ int 4 0 0 (pos 2 ∷ []) ∷ ext 4 0 1 (item 5) (pos 2 ∷ pos 10 ∷ pos 5 ∷ []) ∷ []
    ) None

-- no round is before tick 0
abbrev pub UntilZero : Type 0
UntilZero = IsTraced gen_tally 0 [] None

abbrev pub NoComponents : Type 0
NoComponents = IsTraced no_components 5 [] None

-- the bag of the tally is sorted
abbrev pub TwoGens : Type 0
TwoGens =
    IsTraced (two_gens (pos 9) (pos 4)) 4
    (
    out 3 0 0 (item 9) ∷ out 3 0 1 (item 4) ∷ int 3 0 0 (pos 1 ∷ []) ∷ int 3 0 1 (pos 1 ∷ [])
    ∷ ext 3 0 2 ((0, pos 4) ∷ (0, pos 9) ∷ []) (pos 2 ∷ pos 13 ∷ pos 9 ∷ []) ∷ []
    ) None

-- equal items are both kept
abbrev pub EqualValues : Type 0
EqualValues =
    IsTraced (two_gens (pos 4) (pos 4)) 4
    (
    out 3 0 0 (item 4) ∷ out 3 0 1 (item 4) ∷ int 3 0 0 (pos 1 ∷ []) ∷ int 3 0 1 (pos 1 ∷ [])
    ∷ ext 3 0 2 ((0, pos 4) ∷ (0, pos 4) ∷ []) (pos 2 ∷ pos 8 ∷ pos 4 ∷ []) ∷ []
    ) None

-- a time advance of zero is the next microstep
abbrev pub RelayMicrostep : Type 0
RelayMicrostep =
    IsTraced relay_row 3
    (
    out 2 0 0 (item 5) ∷ int 2 0 0 (pos 1 ∷ []) ∷ ext 2 0 1 (item 5) (pos 0 ∷ pos 5 ∷ [])
    ∷ out 2 1 1 (item 5) ∷ int 2 1 1 (pos 0 ∷ []) ∷ ext 2 1 2 (item 5) (pos 1 ∷ pos 5 ∷ pos 5 ∷ []) ∷ []
    ) None

-- the outputs of the round that meets the limit count, and none of its transitions
abbrev pub MicrostepFault : Type 0
MicrostepFault =
    IsTraced ring 5
    (
    ext 3 0 0 (item 1) (pos 0 ∷ pos 1 ∷ [])
    ∷ out 3 1 0 (item 1) ∷ int 3 1 0 (pos 0 ∷ []) ∷ ext 3 1 1 (item 1) (pos 0 ∷ pos 1 ∷ [])
    ∷ out 3 2 1 (item 1) ∷ ext 3 2 0 (item 1) (pos 0 ∷ pos 1 ∷ []) ∷ int 3 2 1 (pos 0 ∷ [])
    ∷ out 3 3 0 (item 1) ∷ []
    ) (Some (record { component = 1; stamp = stamp 3 3 1; limit = Microstep }))

-- imminent and receiving at once: confluent
abbrev pub MutualConfluent : Type 0
MutualConfluent =
    IsTraced to_and_fro 3
    (
    ext 0 0 0 (item 1) (pos 0 ∷ pos 1 ∷ []) ∷ ext 0 0 1 (item 2) (pos 0 ∷ pos 2 ∷ [])
    ∷ out 1 0 0 (item 1) ∷ out 1 0 1 (item 2) ∷ con 1 0 0 (item 2) (pos 0 ∷ pos 2 ∷ []) ∷ con 1 0 1 (item 1) (pos 0 ∷ pos 1 ∷ [])
    ∷ out 2 0 0 (item 2) ∷ out 2 0 1 (item 1) ∷ con 2 0 0 (item 1) (pos 0 ∷ pos 1 ∷ []) ∷ con 2 0 1 (item 2) (pos 0 ∷ pos 2 ∷ []) ∷ []
    ) None

-- a period that leads to the greatest tick: no round is before it
abbrev pub LastTick : Type 0
LastTick = IsTraced (lone 1099511627774) 1099511627774 [] None

-- a second period would lead past the greatest tick
abbrev pub TickFault : Type 0
TickFault = IsTraced (lone 1099511627773) 1099511627774 (out 1099511627773 0 0 (item 1) ∷ []) (Some (record { component = 0; stamp = stamp 1099511627773 0 1; limit = Tick }))
