-- What the bytes of a network file mean, of any format: a network, or the first fault.
--     tree_in bytes      the tree that they say as a file of format tw-2 or tw-3, if they say one
--     IsMeaningOfValue d n      the JSON value of a file means this network
--     IsFaultOfValue d e      this is its first fault
--     IsMeaning bytes n      the bytes mean this network
--     IsFault bytes e      this is their first fault
use Rattle.std.specs.Prelude.{ℕ, ◌≡◌, List, [], length, map, Option, None, Some, Result, Ok, Err, option_and_then}
use Rattle.std.specs.Result.{result_ok}
use Rattle.serde_json.specs.Data.{Data}
use Rattle.tw_any_model.specs.declared.any_model.AnyModel.{AnyModel}
use Rattle.tw_any_model.specs.AnyModel.{any_meaning}
use Rattle.tw_nested.specs.Tree.{Parts, Link, flat_names, models_in}
use Rattle.tw_nested.specs.Whole.{AreCouplings}
use Rattle.tw_network.specs.Contents.{Contents, Input}
use Rattle.tw_network.specs.Faults.{inputs_fault}
use Rattle.tw_network.specs.TreeFaults.{IsTreeFault, tree_fault}
use Rattle.tw_network.specs.declared.refused.NetworkRefused.{NetworkRefused}
use Rattle.tw_file_network.specs.Meaning.{json_of, meaning_of_value}
use Rattle.tw_file_network.specs.Numbers.{number_of, numbered_input}
use Rattle.tw_file_network.specs.Shape.{FileInput}
use Rattle.tw_file_network.specs.TreeShape.{TreeFile, tree_of, tree_made}
use Rattle.tw_file_network.specs.declared.refused.FileRefused.{FileRefused}
use Rattle.tw_file_network.specs.declared.refused.FileRefused.TheVariants.{Network}

-- ---- a tree of models

-- the network of a tree: its atoms by name, and the couplings along which its paths lead
pub record IsNetworkOfTree (parts : Parts AnyModel) (links : List Link) (inputs : List Input) (micro_limit : ℕ) (n : Contents AnyModel) : Type 0 where
  pub names : n.names ≡ flat_names [] parts
  pub models : n.models ≡ models_in parts
  pub couplings : AreCouplings parts links n.couplings
  pub inputs_as_handed_in : n.inputs ≡ inputs
  pub limit : n.micro_limit ≡ micro_limit
  pub tree_sound : tree_fault any_meaning parts links inputs micro_limit ≡ None
  pub inputs_sound : inputs_fault (length (models_in parts)) inputs ≡ None

-- it is refused for its first fault
abbrev pub IsRefusedTree : Parts AnyModel → List Link → List Input → ℕ → FileRefused → Type 0
IsRefusedTree parts links inputs micro_limit refused = (fault : NetworkRefused) × (refused ≡ Network fault) × IsTreeFault any_meaning parts links inputs micro_limit fault

-- inputs name atoms by their names from the root on
abbrev pub inputs_named : Parts AnyModel → List FileInput → List Input
inputs_named parts inputs = map (numbered_input (number_of (flat_names [] parts))) inputs

-- ---- a tree that a file says

-- the models' parameters are in range, and with them it is this network
pub record IsTreeMeaning (file : TreeFile) (n : Contents AnyModel) : Type 0 where
  pub parts : Parts AnyModel
  pub made : tree_made file.parts ≡ Ok parts
  pub network : IsNetworkOfTree parts file.links (inputs_named parts file.inputs) file.micro_limit n

-- a model's parameter is the first fault, or they are all in range and a fault of the tree is the first
pub data IsTreeFileFault (file : TreeFile) : FileRefused → Type 0 where
  in_parameter : (e : FileRefused) → tree_made file.parts ≡ Err e → IsTreeFileFault file e
  in_network : (parts : Parts AnyModel) (e : FileRefused) → tree_made file.parts ≡ Ok parts
      → IsRefusedTree parts file.links (inputs_named parts file.inputs) file.micro_limit e → IsTreeFileFault file e

-- ---- values

-- the network of the tree that was read, and else of the file of format tw-1
abbrev pub IsMeaningBy : Option TreeFile → Data → Contents AnyModel → Type 0
IsMeaningBy None d n = meaning_of_value d ≡ Ok n
IsMeaningBy (Some file) d n = IsTreeMeaning file n

abbrev pub IsFaultBy : Option TreeFile → Data → FileRefused → Type 0
IsFaultBy None d e = meaning_of_value d ≡ Err e
IsFaultBy (Some file) d e = IsTreeFileFault file e

abbrev pub IsMeaningOfValue : Data → Contents AnyModel → Type 0
IsMeaningOfValue d n = IsMeaningBy (tree_of d) d n

abbrev pub IsFaultOfValue : Data → FileRefused → Type 0
IsFaultOfValue d e = IsFaultBy (tree_of d) d e

-- ---- files

abbrev pub tree_in : List ℕ → Option TreeFile
tree_in bytes = option_and_then tree_of (result_ok (json_of bytes))

-- what is read in bytes, if it is a value, means the network
abbrev pub IsMeaningOfJson : Result Data FileRefused → Contents AnyModel → Type 0
IsMeaningOfJson (Ok d) n = IsMeaningOfValue d n
IsMeaningOfJson (Err e) n = ⊥

-- the fault is that no value is read, or it is the value's
abbrev pub IsFaultOfJson : Result Data FileRefused → FileRefused → Type 0
IsFaultOfJson (Ok d) e = IsFaultOfValue d e
IsFaultOfJson (Err f) e = f ≡ e

abbrev pub IsMeaning : List ℕ → Contents AnyModel → Type 0
IsMeaning bytes n = IsMeaningOfJson (json_of bytes) n

abbrev pub IsFault : List ℕ → FileRefused → Type 0
IsFault bytes e = IsFaultOfJson (json_of bytes) e
