-- What is wrong with a machine as it is declared, with the numbers that are given: its members in order, then its limits. The first counts.
use Rattle.std.specs.Prelude.{ℕ, ℤ, pos, negsuc, Bool, true, false, not, ◌&&◌, List, [], ◌∷◌, length, sum, sum_by, Option, Some, None, nat_lt, nat_le, if◌then◌else◌, option_and_then, slice_get}
use Rattle.tw_vtime.specs.Stamps.{max_tick}
use Rattle.tw_machine.specs.Limits.{max_cells, max_computations, max_numbers, max_outputs, max_program_cells, max_queues, max_room, max_rooms, max_words}
use Rattle.tw_machine.specs.Program.{ProgramText}
use Rattle.std.specs.List.{list_all}
use Rattle.tw_machine_text.specs.Limits.{max_count, max_levels, max_nodes, max_turns}
use Rattle.tw_machine_text.specs.Tree.{deep, deep_block, SourceStatement, If, IfElse, Repeat, Block, Empty, Then, Arms, One, More}
use Rattle.tw_machine_declaration.specs.Seen.{Declaration, Given, Name, Declares, Output, Timers, Value, tree, register, registers, queue, queues, table, list_table}
use Rattle.tw_machine_declaration.specs.declared.declaration.Timer.{Timer}
use Rattle.tw_machine_declaration.specs.Limits.{max_timers}
use Rattle.tw_machine_compiler.specs.declared.limits.BadMachine.{BadMachine}
use Rattle.tw_machine_compiler.specs.declared.limits.BadMachine.TheVariants as bad
use Rattle.tw_machine_declaration.specs.declared.names.Standing.{Standing}
use Rattle.tw_machine_declaration.specs.Names.{constant, timer_count, things, standings_of}
use Rattle.tw_machine_compiler.specs.Program.{program_of}
use Rattle.tw_machine_compiler.specs.Rows.{rows, twice}
use Rattle.tw_machine_declaration.specs.Turns.{written_turns}
use Rattle.tw_machine_declaration.specs.Work.{block_work}
use Rattle.tw_machine_declaration.specs.Members.{all_nodes, output_work, word_work}

-- whether a number is from 1 to this
abbrev pub is_up_to : ℕ → ℤ → Bool
is_up_to most (pos n) = nat_le 1 n && nat_le n most
is_up_to most (negsuc n) = false

-- whether a constant is from 1 to this, if it is given
abbrev pub constant_up_to : ℕ → Option ℤ → Bool
constant_up_to most (Some n) = is_up_to most n
constant_up_to most None = true

abbrev pub length_up_to : {A : Type 0} → ℕ → List A → Bool
length_up_to most items = nat_le 1 (length items) && nat_le (length items) most

abbrev pub list_up_to : ℕ → Option (List ℤ) → Bool
list_up_to most (Some list) = length_up_to most list
list_up_to most None = true

-- an array register has 1 to 64 cells
abbrev pub is_register : Declares → Bool
is_register (registers cs) = length_up_to max_cells cs
is_register _ = true

-- an array of queues has 1 to 16, and a queue has room for 1 to 1,024
abbrev pub is_queue : Given → Declares → Bool
is_queue given (queue c) = constant_up_to max_room (constant given c)
is_queue given (queues n c) = constant_up_to max_queues (constant given n) && constant_up_to max_room (constant given c)
is_queue given _ = true

-- a table has 1 to 65,536 numbers
abbrev pub is_table : Given → Declares → Bool
is_table given (table ns) = length_up_to max_numbers ns
is_table given (list_table k) = list_up_to max_numbers (slice_get given.lists k)
is_table given _ = true

abbrev pub all : (Declares → Bool) → List Declares → Bool
all test [] = true
all test (thing ∷ things) = test thing && all test things

-- of a timer with a count there are 1 to 16
abbrev pub is_counted : Given → Timer → Bool
is_counted given t = constant_up_to max_count (option_and_then (constant given) t.count)

-- the first of a machine's timers that is wrong: a count, how many there are together, the least time
abbrev pub timers_fault : Given → Option Timers → Option BadMachine
timers_fault given None = None
timers_fault given (Some ts) =
    if not (list_all (is_counted given) ts.each) then Some bad.TimerCount
    else if nat_lt max_timers (sum_by (timer_count given) ts.each) then Some bad.TooManyTimers
    else if not (constant_up_to max_tick (option_and_then (constant given) ts.least)) then Some bad.Least
    else None

-- a block is repeated 0 to 64 times
abbrev pub is_turns : Option ℤ → Bool
is_turns (Some (pos n)) = nat_le n max_turns
is_turns (Some (negsuc n)) = false
is_turns None = true

abbrev mutual
  pub turns_fit_statement : List Standing → SourceStatement → Bool
  turns_fit_statement ss (If arms) = turns_fit_arms ss arms
  turns_fit_statement ss (IfElse arms last) = turns_fit_arms ss arms && turns_fit ss last
  turns_fit_statement ss (Repeat count each) = is_turns (written_turns ss count) && turns_fit ss each
  turns_fit_statement ss _ = true

  pub turns_fit : List Standing → Block → Bool
  turns_fit ss Empty = true
  turns_fit ss (Then before last marked) = turns_fit ss before && turns_fit_statement ss last

  pub turns_fit_arms : List Standing → Arms → Bool
  turns_fit_arms ss (One test b) = turns_fit ss b
  turns_fit_arms ss (More before test b) = turns_fit_arms ss before && turns_fit ss b

abbrev pub otherwise : Option BadMachine → Option BadMachine → Option BadMachine
otherwise (Some fault) later = Some fault
otherwise None later = later

-- the first of its texts that is wrong
abbrev pub texts_fault : Declaration → List Standing → Option BadMachine
texts_fault d ss =
    if not (turns_fit ss d.internal && turns_fit ss d.external) then Some bad.Turns
    else if nat_lt max_outputs (length d.outputs) then Some bad.OutputCount
    else if not (length_up_to max_words d.words) then Some bad.WordCount
    else if twice (rows ss d.words) then Some bad.WordTwice
    else None

-- the first of a machine's members that is wrong
abbrev pub members_fault : Given → Declaration → List Standing → Option BadMachine
members_fault given d ss =
    if not (all is_register (things d.names)) then Some bad.CellCount
    else if not (all (is_queue given) (things d.names)) then Some bad.QueueCount
    else if not (all (is_table given) (things d.names)) then Some bad.TableCount
    else if not (constant_up_to max_tick (option_and_then (constant given) d.longest)) then Some bad.Longest
    else otherwise (timers_fault given d.timers) (texts_fault d ss)

-- how many cells the registers among these names have; those of observations do not count
abbrev pub own_cells : Declares → ℕ
own_cells (register c) = 1
own_cells (registers cs) = length cs
own_cells _ = 0

abbrev pub register_cells : List Name → ℕ
register_cells names = sum_by (λ n. own_cells n.1) names

-- the registers have no more cells than they may have, nor has the program
abbrev pub has_few_cells : List Name → ProgramText → Bool
has_few_cells names p = nat_le (register_cells names) max_cells && nat_le (length p.cells) max_program_cells

-- no program and no condition of an output has more than 64 levels; of a machine without timers each text by itself has no more
abbrev pub test_levels : Option Value → ℕ
test_levels (Some (tree e)) = deep e
test_levels _ = 0

abbrev pub is_flat : Output → Bool
is_flat o = nat_le (test_levels o.when) max_levels

abbrev pub has_few_levels : Declaration → Bool
has_few_levels d = nat_le (deep_block d.internal) max_levels && nat_le (deep_block d.external) max_levels && list_all is_flat d.outputs

-- the first limit that is passed: of cells, queues and numbers, of nodes and levels, of computations of each kind by itself
abbrev pub limit : List Standing → Declaration → ProgramText → Option BadMachine
limit ss d p =
    if not (has_few_cells d.names p) then Some bad.TooManyCells
    else if nat_lt max_queues (length p.rooms) then Some bad.TooManyQueues
    else if nat_lt max_rooms (sum p.rooms) then Some bad.TooMuchRoom
    else if nat_lt max_numbers (length p.numbers) then Some bad.TooManyNumbers
    else if nat_lt max_nodes (all_nodes d) then Some bad.TooManyNodes
    else if not (has_few_levels d) then Some bad.TooManyLevels
    else if nat_lt max_computations (block_work ss d.internal) then Some bad.TooManyComputations
    else if nat_lt max_computations (block_work ss d.external) then Some bad.TooManyComputations
    else if nat_lt max_computations (sum_by (output_work ss) d.outputs) then Some bad.TooManyComputations
    else if nat_lt max_computations (sum_by (word_work ss) d.words) then Some bad.TooManyComputations
    else None

-- the first fault of a machine, with what is given
abbrev pub fault_of : Given → Declaration → Option BadMachine
fault_of given d =
    let ss = standings_of given d.names in
    otherwise (members_fault given d ss) (limit ss d (program_of given d))
