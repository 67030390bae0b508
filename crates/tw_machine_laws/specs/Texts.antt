-- What the text of a machine means: the program of its declaration, with what a component gives.
--     means text given      the machine that the value declares, with these numbers put in; or the first fault
use Rattle.std.specs.Prelude.{ℕ, ℤ, List, [], ◌∷◌, Result}
use Rattle.serde_json.specs.Data.{Data, unsigned, Items, number, string, array, no_items, item}
use Rattle.tw_machine.specs.Program.{ProgramText}
use Rattle.tw_machine_declaration.specs.Seen.{Given}
use Rattle.tw_machine_file.specs.Fault.{Fault, once}
use Rattle.tw_machine_file.specs.Machine.{machine_of}
use Rattle.tw_machine_file.specs.Machines.{program_given}
use Rattle.tw_machine_file.specs.Shared.{nothing_shared}

abbrev pub given : List ℤ → Given
given numbers = record { numbers = numbers; lists = [] }

abbrev pub means : Data → List ℤ → Result ProgramText Fault
means text numbers = once (machine_of nothing_shared [] text) (λ m. program_given m.declaration (given numbers))

-- ---- parts of a text

abbrev pub texts : List (List ℕ) → Items
texts [] = no_items
texts (t ∷ ts) = item (string t) (texts ts)

abbrev pub lines : List (List ℕ) → Data
lines ts = array (texts ts)

abbrev pub count : ℕ → Data
count n = number (unsigned n)
