-- How a reader answers: by what a definition says of the same data, or by its fault. Want of memory may come instead of either.
--     Gives result view said      an answer, seen by view, is what is said
--     FailsBy result said      a fault is the one that is said
--     names_in names      names as their bytes
--     data_of member      a member of an object, where it is there
use Rattle.std.specs.Prelude.{◌≡◌, ◌≢◌, ℕ, List, map, String, string_bytes, Option, Result, Ok, Err, IfOk, IfErr, option_map}
use Rattle.std.specs.Global.{Global}
use Rattle.std.proofs.Common.{Bor}
use Rattle.serde_json.specs.Data.{Data}
use Rattle.serde_json.specs.View.{view}
use Rattle.serde_json.specs.declared.value.Value.{Value}
use Rattle.tw_machine_file.specs.Fault.{Fault, fault}
use Rattle.tw_machine_file.specs.declared.fault.MachineFault.{MachineFault}
use Rattle.tw_machine_file.specs.declared.fault.MachineFault.TheVariants.{OutOfMemory}

abbrev pub Gives : {A B : Type 0} → Result A MachineFault → (A → B) → Result B Fault → Type 0
Gives result seen said = IfOk result (λ a. said ≡ Ok (seen a))

abbrev pub FailsBy : {A B : Type 0} → Result A MachineFault → Result B Fault → Type 0
FailsBy result said = IfErr result (λ e. e ≢ OutOfMemory → said ≡ Err (fault e))

abbrev pub names_in : List (String Global) → List (List ℕ)
names_in names = map string_bytes names

abbrev pub data_of : Option (Bor Value) → Option Data
data_of member = option_map (λ v. view v.now) member
