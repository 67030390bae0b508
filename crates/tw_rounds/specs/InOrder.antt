-- A run whose inputs are given in order.
--     start_in_order net      the network at its start, with its inputs in order
--     rounds_in_order net bound      all rounds of a time before the bound from there, up to the first fault
use Rattle.std.specs.Prelude.{ℕ, [], None}
use Rattle.tw_msgs.specs.Messages.{sorted_messages}
use Rattle.tw_theory.specs.Network.{Network}
use Rattle.tw_theory.specs.Simulator.{Run, start_moments, rounds_from}

abbrev pub start_in_order : {S : Type 0} → Network S → Run S
start_in_order net = record { at = record { moments = start_moments net; inputs = sorted_messages net.inputs }; records = []; fault = None }

unfoldable pub rounds_in_order : {S : Type 0} → Network S → ℕ → Run S
rounds_in_order net bound = rounds_from net bound bound (start_in_order net) None
