-- What the bytes of a network file mean: a network's contents, or the first fault.
--     json_of bytes      the JSON value that they write
--     meaning_of_value d      what a JSON value says, and then the network of it
--     meaning_of bytes      what the value that they write means
use Rattle.std.specs.Prelude.{ℕ, List, map, Option, None, Some, Result, Ok, Err, if◌then◌else◌}
use Rattle.std.specs.Option.{ok_or}
use Rattle.std.specs.Str.{is_utf8}
use Rattle.serde_json.specs.Data.{Data}
use Rattle.serde_json.specs.Read.{read}
use Rattle.tw_any_model.specs.declared.any_model.AnyModel.{AnyModel}
use Rattle.tw_any_model.specs.AnyModel.{any_meaning}
use Rattle.tw_network.specs.Contents.{Contents, Input, handed_in}
use Rattle.tw_network.specs.Faults.{first_fault}
use Rattle.tw_network.specs.declared.refused.NetworkRefused.{NetworkRefused}
use Rattle.tw_theory.specs.Network.{Coupling}
use Rattle.tw_file_network.specs.Components.{after, components_made}
use Rattle.tw_file_network.specs.Numbers.{names_of, number_of, numbered_coupling, numbered_input}
use Rattle.tw_file_network.specs.Shape.{File, file_of}
use Rattle.tw_file_network.specs.declared.refused.FileRefused.{FileRefused}
use Rattle.tw_file_network.specs.declared.refused.FileRefused.TheVariants.{NotJson, BadShape, Network}

-- the JSON value that UTF-8 writes; a value nested deeper than 127 levels is none
abbrev pub json_of : List ℕ → Result Data FileRefused
json_of bytes = if is_utf8 bytes then ok_or (read bytes) NotJson else Err NotJson

-- what the value says
abbrev pub shape_of : Data → Result File FileRefused
shape_of d = ok_or (file_of d) BadShape

-- a network's contents, if there is no fault
abbrev pub judged : Option NetworkRefused → Contents AnyModel → Result (Contents AnyModel) FileRefused
judged None n = Ok n
judged (Some fault) n = Err (Network fault)

abbrev pub network_made : List (List ℕ × AnyModel) → List Coupling → List Input → ℕ → Result (Contents AnyModel) FileRefused
network_made components couplings inputs micro_limit =
    judged (first_fault any_meaning components couplings inputs micro_limit) (handed_in components couplings inputs micro_limit)

-- couplings and inputs get numbers for names
abbrev pub network_numbered : (List ℕ → ℕ) → File → List (List ℕ × AnyModel) → Result (Contents AnyModel) FileRefused
network_numbered number file components =
    network_made components (map (numbered_coupling number) file.couplings) (map (numbered_input number) file.inputs) file.micro_limit

-- the models first, then the network
abbrev pub network_of : File → Result (Contents AnyModel) FileRefused
network_of file = after (network_numbered (number_of (names_of file.components)) file) (components_made file.components)

abbrev pub meaning_of_value : Data → Result (Contents AnyModel) FileRefused
meaning_of_value d = after network_of (shape_of d)

abbrev pub meaning_of : List ℕ → Result (Contents AnyModel) FileRefused
meaning_of bytes = after meaning_of_value (json_of bytes)
