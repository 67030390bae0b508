-- What each name of a machine stands for, once the numbers of a component are put in.
use Rattle.std.specs.Prelude.{ℕ, ◌+◌, ◌-◌, ℤ, pos, negsuc, min, max, Bool, false, nat_eq, List, [], ◌∷◌, ◌++◌, map, length, take, sum_by, flat_map, Option, Some, None, slice_get, slice_index_or, unwrap_or, option_and_then, replicate, if◌then◌else◌}
use Rattle.tw_machine.specs.Limits.{cells_end, max_queues, max_room, numbers_end, observation_cells, queues_end}
use Rattle.tw_machine.specs.Values.{natural}
use Rattle.tw_machine.specs.declared.language.Span.{Span}
use Rattle.std.specs.Option.{option_map_or}
use Rattle.tw_machine_text.specs.Letters.{functions, same_text}
use Rattle.tw_machine_text.specs.Limits.{max_count}
use Rattle.tw_machine_declaration.specs.declared.declaration.Constant.{Constant}
use Rattle.tw_machine_declaration.specs.declared.declaration.Constant.TheVariants as c
use Rattle.tw_machine_declaration.specs.declared.declaration.Timer.{Timer}
use Rattle.tw_machine_declaration.specs.Seen.{Given, Name, Timers, Declares, parameter, list_parameter, register, registers, queue, queues, table, list_table, observation, procedure, timer, timer_array, fixed, field, number, together as all_together, greatest, due, next}
use Rattle.tw_machine_declaration.specs.declared.names.Places.{Places}
use Rattle.tw_machine_declaration.specs.declared.names.Standing.{Standing}
use Rattle.tw_machine_declaration.specs.declared.names.Standing.TheVariants as s

-- the number that a constant is; none where it is a parameter of which nothing is given
abbrev pub constant : Given → Constant → Option ℤ
constant given (c.Number n) = Some n
constant given (c.Parameter k) = slice_get given.numbers k

-- what a register has at the start
abbrev pub start_of : Given → Constant → ℤ
start_of given c = unwrap_or (constant given c) (pos 0)

-- the room of a queue; one past 1,024 is refused
abbrev pub room_of : Given → Constant → ℕ
room_of given c = min (natural (start_of given c)) max_room

-- how many queues an array has; more than 16 are refused
abbrev pub count_of : Given → Constant → ℕ
count_of given c = min (natural (start_of given c)) max_queues

-- the list that is given for a parameter, empty where none is
abbrev pub list_given : Given → ℕ → List ℤ
list_given given k = slice_index_or given.lists k []

-- ---- timers at the start

-- how many timers are alike; more than 16 are refused
abbrev pub timer_count : Given → Timer → ℕ
timer_count given t = option_map_or (λ c. min (natural (start_of given c)) max_count) t.count 1

abbrev pub greatest_index : Given → Timer → ℕ
greatest_index given t = timer_count given t - 1

-- the least number of ticks for which a timer runs
abbrev pub least_ticks : Given → Option Constant → ℕ
least_ticks given least = option_map_or (λ c. natural (start_of given c)) least 0

-- the tick at which a timer is due that is started at the start, -1 where it does not run
abbrev pub due_first : ℤ → Option ℤ → ℤ
due_first least (Some (pos n)) = pos (max n (natural least))
due_first least _ = negsuc 0

-- the ticks at which timers are due, of one with a count so many
abbrev pub timer_ticks : Given → (least : ℤ) → Timer → List ℤ
timer_ticks given least t = replicate (timer_count given t) (due_first least (option_and_then (constant given) t.first))

abbrev pub due_ticks : Given → Timers → List ℤ
due_ticks given ts = flat_map (timer_ticks given (pos (least_ticks given ts.least))) ts.each

-- the least of the ticks at which timers are due, if one runs
abbrev pub earlier : ℕ → Option ℕ → ℕ
earlier n (Some m) = min n m
earlier n None = n

abbrev pub earliest : List ℤ → Option ℕ
earliest [] = None
earliest (pos n ∷ ticks) = Some (earlier n (earliest ticks))
earliest (negsuc n ∷ ticks) = earliest ticks

-- the place, counted on from k, of the first timer that is due at a tick; -1 where none is
abbrev pub is_tick : ℕ → ℤ → Bool
is_tick at (pos n) = nat_eq n at
is_tick at (negsuc n) = false

abbrev pub first_place : (k at : ℕ) → List ℤ → ℤ
first_place k at [] = negsuc 0
first_place k at (tick ∷ ticks) = if is_tick at tick then pos k else first_place (k + 1) at ticks

-- the timer that goes next: the first that is due at the least tick, -1 where none runs
abbrev pub next_timer : List ℤ → ℤ
next_timer ticks = option_map_or (λ at. first_place 0 at ticks) (earliest ticks) (negsuc 0)

-- ---- what names take

-- what the cells of a register have at the start; those of an observation are how many, their sum, the sum of their squares
abbrev pub cells : Given → Declares → List ℤ
cells given (register c) = start_of given c ∷ []
cells given (registers cs) = map (start_of given) cs
cells given observation = pos 0 ∷ pos 0 ∷ pos 0 ∷ []
cells given (due ts) = due_ticks given ts
cells given (next ts) = next_timer (due_ticks given ts) ∷ []
cells given _ = []

-- the rooms of the queues that a name declares
abbrev pub rooms : Given → Declares → List ℕ
rooms given (queue c) = room_of given c ∷ []
rooms given (queues n c) = replicate (count_of given n) (room_of given c)
rooms given _ = []

-- the numbers that stand in a table; those of a list are the component's, however many tables are named after it
abbrev pub numbers : Declares → List ℤ
numbers (table ns) = ns
numbers _ = []

-- the numbers that stand first among those of tables: of each list that is given, once
abbrev pub given_numbers : Given → List ℤ
given_numbers given = flat_map (λ list. list) given.lists

-- how many numbers lists have together, counted to one past what a machine may have
abbrev pub together : List (List ℤ) → ℕ
together lists = min (sum_by length lists) numbers_end

-- where the list of a parameter begins among them
abbrev pub list_place : Given → ℕ → ℕ
list_place given k = together (take k given.lists)

-- before the first name nothing is taken but what the lists take
abbrev pub lists_taken : Given → Places
lists_taken given = record { cells = 0; queues = 0; numbers = together given.lists }

-- what a parameter that is a number stands for
abbrev pub given_number : Option ℤ → Standing
given_number (Some n) = s.Number n
given_number None = s.Unknown

-- what is taken behind a name, counted to one past what a machine may have
abbrev pub taken : Given → Places → Declares → Places
taken given at thing =
    record {
      cells = min (at.cells + length (cells given thing)) cells_end;
      queues = min (at.queues + length (rooms given thing)) queues_end;
      numbers = min (at.numbers + length (numbers thing)) numbers_end;
    }

-- what a name stands for, where so much is taken before it
abbrev pub standing_of : Given → Places → Declares → Standing
standing_of given at (parameter k) = given_number (slice_get given.numbers k)
standing_of given at (list_parameter k) = s.Nothing
standing_of given at (register c) = s.Cell at.cells
standing_of given at (registers cs) = s.Cells (record { first = at.cells; count = min (length cs) cells_end })
standing_of given at (queue c) = s.Queue at.queues (room_of given c)
standing_of given at (queues n c) = s.Queues (record { first = at.queues; count = count_of given n }) (room_of given c)
standing_of given at (table ns) = s.Table (record { first = at.numbers; count = min (length ns) numbers_end })
standing_of given at (list_table k) = s.Table (record { first = list_place given k; count = min (length (list_given given k)) numbers_end })
standing_of given at observation = s.Observation at.cells
standing_of given at (procedure k) = s.Nothing
standing_of given at (timer before) = s.Nothing
standing_of given at (timer_array before last) = s.Nothing
standing_of given at (fixed n) = s.Number n
standing_of given at field = s.Nothing
standing_of given at (number c) = given_number (constant given c)
standing_of given at (all_together ts) = s.Number (pos (min (sum_by (timer_count given) ts) cells_end))
standing_of given at (greatest t) = s.Number (pos (greatest_index given t))
standing_of given at (due ts) = s.Due (record { first = at.cells; count = min (length (due_ticks given ts)) cells_end })
standing_of given at (next ts) = s.Cell at.cells

-- the cells of an observation, of which the first is at place k
abbrev pub observation_span : ℕ → Span
observation_span k = record { first = k; count = observation_cells }

-- what the names that are declared stand for
abbrev pub own_standings : Given → Places → List Declares → List Standing
own_standings given at [] = []
own_standings given at (thing ∷ things) = standing_of given at thing ∷ own_standings given (taken given at thing) things

-- the place of the first name that is this text, counted on from a place; behind the last where there is none
abbrev pub place_named : ℕ → List (List ℕ) → List ℕ → ℕ
place_named k [] text = k
place_named k (name ∷ names) text = if same_text name text then k else place_named (k + 1) names text

abbrev pub texts : List Name → List (List ℕ)
texts names = map (λ n. n.0) names

abbrev pub things : List Name → List Declares
things names = map (λ n. n.1) names

-- what a name stands for, by its number
abbrev pub standing_at : List Standing → ℕ → Standing
standing_at ss n = slice_index_or ss n s.Nothing

-- what each name stands for, by its number: first the functions' names, then those that are declared
abbrev pub standings_of : Given → List Name → List Standing
standings_of given names =
    let own = own_standings given (lists_taken given) (things names) in
    map (λ function. standing_at own (place_named 0 (texts names) function)) functions ++ own
