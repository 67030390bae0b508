-- The programs of a machine's procedures.
use Rattle.std.specs.Prelude.{◌++◌, ◌+◌, ◌∷◌, [], ℕ, List, Option, Some, None, Result, Ok}
use Rattle.serde_json.specs.Data.{Data, Items, no_items, item}
use Rattle.serde_json.specs.Find.{as_array, at}
use Rattle.tw_machine_text.specs.Tree.{Block}
use Rattle.tw_machine_file.specs.Fault.{Fault, once, expected}
use Rattle.tw_machine_file.specs.Texts.{Language, program_in}
use Rattle.tw_machine_file.specs.declared.fault.Part.TheVariants as part
use Rattle.tw_machine_file.specs.declared.fault.Why.TheVariants as why

-- the program of the procedure at place k, which may use those before it
abbrev pub procedure_of : Language → ℕ → List Block → Data → Result Block Fault
procedure_of l k before d = program_in l before (part.Procedure k) (at 1 d)

-- those from place k on, behind those before
abbrev pub procedures_of : Language → ℕ → List Block → Items → Result (List Block) Fault
procedures_of l k before no_items = Ok before
procedures_of l k before (item d ds) = once (procedure_of l k before d) (λ p. procedures_of l (k + 1) (before ++ p ∷ []) ds)

-- the programs of the member `procedures`, if there is one
abbrev pub procedures_said : Language → Option Data → Result (List Block) Fault
procedures_said l None = Ok []
procedures_said l (Some d) = once (expected part.Procedures why.Shape (as_array d)) (procedures_of l 0 [])
