-- All machines of a file, and the program that a component makes of one.
--     machines_in file d      the machines of the member `models` of a file, each behind those before it, with what the file says once, or the first fault
--     program_in m d      the program of machine m with what the component d gives, or the first fault
use Rattle.std.specs.Prelude.{◌++◌, ◌∷◌, [], ℕ, List, Option, Some, None, Result, Ok, Err, nat_le, if◌then◌else◌}
use Rattle.serde_json.specs.Data.{Data, Items, no_items, item}
use Rattle.serde_json.specs.Events.{items_len}
use Rattle.serde_json.specs.Find.{as_array}
use Rattle.tw_machine.specs.Limits.{max_machines}
use Rattle.tw_machine_declaration.specs.Seen.{Declaration, Given}
use Rattle.tw_machine_compiler.specs.Limits.{fault_of}
use Rattle.tw_machine_compiler.specs.Program.{program_of}
use Rattle.tw_machine_compiler.specs.declared.limits.BadMachine.{BadMachine}
use Rattle.tw_machine.specs.Program.{ProgramText}
use Rattle.tw_machine_file.specs.Fault.{Fault, wrong, limit, once, made, expected, provided}
use Rattle.tw_machine_file.specs.Given.{given_of}
use Rattle.tw_machine_file.specs.Machine.{machine_of}
use Rattle.tw_machine_file.specs.Seen.{Machine}
use Rattle.tw_machine_file.specs.Shared.{SharedNames, shared_in}
use Rattle.tw_machine_file.specs.Used.{is_used}
use Rattle.tw_machine_file.specs.declared.fault.Part.TheVariants as part
use Rattle.tw_machine_file.specs.declared.fault.Why.TheVariants as why

-- ---- programs

-- what is there where no limit is passed
abbrev pub within : {A : Type 0} → Option BadMachine → A → Result A Fault
within None x = Ok x
within (Some bad) x = Err (limit bad)

-- what is declared, with what is given put in
abbrev pub program_given : Declaration → Given → Result ProgramText Fault
program_given d given = within (fault_of given d) (program_of given d)

-- a component gives a value for each parameter of its machine
abbrev pub program_in : Machine → Data → Result ProgramText Fault
program_in m d = once (given_of m.numbers m.lists d) (program_given m.declaration)

-- ---- machines

abbrev pub nothing_given : Given
nothing_given = record { numbers = []; lists = [] }

-- no limit is passed with nothing given
abbrev pub within_limits : Declaration → Result (Unit {0}) Fault
within_limits d = made (λ p. tt) (program_given d nothing_given)

-- what components give decides of a machine that one of them uses; one that none uses is within the limits by itself
abbrev pub held : Data → Machine → Result (Unit {0}) Fault
held file m = if is_used file m.name then Ok tt else within_limits m.declaration

-- a machine of a file behind machines of these names
abbrev pub machine_behind : Data → SharedNames → List (List ℕ) → Data → Result Machine Fault
machine_behind file shared before d = once (machine_of shared before d) (λ m. made (λ looked. m) (held file m))

-- each behind those before it
abbrev pub machines_behind : Data → SharedNames → List (List ℕ) → Items → Result (List Machine) Fault
machines_behind file shared before no_items = Ok []
machines_behind file shared before (item d ds) =
    once (machine_behind file shared before d) (λ m. made (λ ms. m ∷ ms) (machines_behind file shared (before ++ m.name ∷ []) ds))

-- an array of at most 256
abbrev pub few : Data → Result Items Fault
few d = once (expected part.Whole why.Shape (as_array d)) (λ items. provided (nat_le (items_len items) max_machines) (wrong part.Whole why.Count) items)

abbrev pub machines_in : Data → Data → Result (List Machine) Fault
machines_in file d = once (shared_in file) (λ shared. once (few d) (machines_behind file shared []))
