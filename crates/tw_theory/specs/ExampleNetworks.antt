-- The networks of the worked examples.
use Rattle.std.specs.Prelude.{ℕ, ℤ, pos, [], ◌∷◌}
use Rattle.tw_theory.specs.ExampleModels.{State, gen, tally, relay}
use Rattle.tw_theory.specs.Network.{Network, input}

-- component 0 generates for component 1, a tally
abbrev pub gen_tally : Network State
gen_tally = record { models = gen 2 (pos 5) ∷ tally ∷ []; couplings = (0, 0, 1, 0) ∷ []; inputs = []; micro_limit = 100 }

abbrev pub no_components : Network State
no_components = record { models = []; couplings = []; inputs = []; micro_limit = 100 }

-- two generators of one period for one tally
abbrev pub two_gens : ℤ → ℤ → Network State
two_gens v w = record { models = gen 3 v ∷ gen 3 w ∷ tally ∷ []; couplings = (0, 0, 2, 0) ∷ (1, 0, 2, 0) ∷ []; inputs = []; micro_limit = 100 }

-- a relay without delay between generator and tally
abbrev pub relay_row : Network State
relay_row = record { models = gen 2 (pos 5) ∷ relay 0 ∷ tally ∷ []; couplings = (0, 0, 1, 0) ∷ (1, 0, 2, 0) ∷ []; inputs = []; micro_limit = 100 }

-- two relays without delay send a value to and fro until a microstep is past the limit
abbrev pub ring : Network State
ring = record { models = relay 0 ∷ relay 0 ∷ []; couplings = (0, 0, 1, 0) ∷ (1, 0, 0, 0) ∷ []; inputs = input 3 0 0 (pos 1) ∷ []; micro_limit = 3 }

-- two relays that are imminent whenever they receive
abbrev pub to_and_fro : Network State
to_and_fro = record { models = relay 1 ∷ relay 1 ∷ []; couplings = (0, 0, 1, 0) ∷ (1, 0, 0, 0) ∷ []; inputs = input 0 0 0 (pos 1) ∷ input 0 1 0 (pos 2) ∷ []; micro_limit = 100 }

-- one generator of this period
abbrev pub lone : ℕ → Network State
lone period = record { models = gen period (pos 1) ∷ []; couplings = []; inputs = []; micro_limit = 100 }

-- generator, relay and tally in a row, and an input for the relay
abbrev pub three : Network State
three = record { models = gen 2 (pos 5) ∷ relay 1 ∷ tally ∷ []; couplings = (0, 0, 1, 0) ∷ (1, 0, 2, 0) ∷ []; inputs = input 3 1 0 (pos 8) ∷ []; micro_limit = 100 }

-- the same with another period, delay and input
abbrev pub slow_three : Network State
slow_three = record { models = gen 3 (pos 5) ∷ relay 2 ∷ tally ∷ []; couplings = (0, 0, 1, 0) ∷ (1, 0, 2, 0) ∷ []; inputs = input 4 1 0 (pos 8) ∷ []; micro_limit = 100 }
