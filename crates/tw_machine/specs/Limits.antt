-- The limits of a machine, by name; and the first limit that a program passes, which is its fault.
use Rattle.std.specs.Prelude.{ℕ, Option, Some, None, length, sum, max, nat_lt, if◌then◌else◌}
use Rattle.tw_machine.specs.declared.program.BadProgram.{BadProgram}
use Rattle.tw_machine.specs.declared.program.BadProgram.TheVariants.{TooManyCells, TooManyQueues, TooMuchRoom, TooManyNumbers, TooMuchLogged}
use Rattle.tw_machine.specs.Undoing.{needs}
use Rattle.tw_machine.specs.Program.{ProgramText}

-- the most cells of the registers that a machine declares
abbrev pub max_cells : ℕ
max_cells = 64

-- the most cells of a program, those too that its user does not see; and where counting them ends
abbrev pub max_program_cells : ℕ
max_program_cells = 256

abbrev pub cells_end : ℕ
cells_end = 257

-- the most observations that a machine declares, and the cells of each: how many, their sum, the sum of their squares
abbrev pub max_observations : ℕ
max_observations = 16

abbrev pub observation_cells : ℕ
observation_cells = 3

-- the most queues, of which an array counts each, and where counting them ends
abbrev pub max_queues : ℕ
max_queues = 16

abbrev pub queues_end : ℕ
queues_end = 17

-- the largest room of one queue
abbrev pub max_room : ℕ
max_room = 1024

-- the largest room of all queues together
abbrev pub max_rooms : ℕ
max_rooms = 4096

-- the most numbers of one table, and of all tables of a machine together; and where counting them ends
abbrev pub max_numbers : ℕ
max_numbers = 65536

abbrev pub numbers_end : ℕ
numbers_end = 65537

-- the most outputs that a machine declares
abbrev pub max_outputs : ℕ
max_outputs = 64

-- the most entries of its words
abbrev pub max_words : ℕ
max_words = 64

-- the most computations of a run, and where counting them ends
abbrev pub max_computations : ℕ
max_computations = 262144

abbrev pub computations_end : ℕ
computations_end = 262145

-- the most numbers that a run of a program keeps to be taken back, and where counting them ends
abbrev pub max_logged : ℕ
max_logged = 1048575

abbrev pub logged_end : ℕ
logged_end = 1048576

-- the most machines that a file declares
abbrev pub max_machines : ℕ
max_machines = 256

-- the most numbers of all tables of a file together, and where counting them ends
abbrev pub max_file_numbers : ℕ
max_file_numbers = 1048576

abbrev pub file_numbers_end : ℕ
file_numbers_end = 1048577

abbrev pub fault_of : ProgramText → Option BadProgram
fault_of p =
    if nat_lt max_program_cells (length p.cells) then Some TooManyCells
    else if nat_lt max_queues (length p.rooms) then Some TooManyQueues
    else if nat_lt max_rooms (sum p.rooms) then Some TooMuchRoom
    else if nat_lt max_numbers (length p.numbers) then Some TooManyNumbers
    else if nat_lt max_logged (max (needs p.internal) (needs p.external)) then Some TooMuchLogged
    else None
