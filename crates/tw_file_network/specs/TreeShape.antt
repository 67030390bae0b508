-- What a network file of format tw-2 or tw-3 says, read off its JSON value: a tree of components, which in tw-3 may be machines that the file declares.
--     tree_file_of d, machines_file_of d      what the value says, where it has the shape of a file of format tw-2, of tw-3
--     tree_of d      the one or the other
--     tree_made parts      its parts with their models, or the first parameter at fault, by atom in order
use Rattle.std.specs.Prelude.{ℕ, ◌+◌, List, [], ◌∷◌, Bool, map, false, codes, Option, Some, None, option_and_then, option_map, if◌then◌else◌, Result, Ok, zero, suc}
use Rattle.std.specs.Option.{option_map_or, option_or}
use Rattle.std.specs.Result.{result_ok}
use Rattle.std.specs.Str.{bytes_eq}
use Rattle.serde_json.specs.Data.{Data, Items, no_items, item}
use Rattle.serde_json.specs.Find.{get, as_array}
use Rattle.tw_any_model.specs.declared.any_model.AnyModel.{AnyModel}
use Rattle.tw_machine_file.specs.Machines.{machines_in}
use Rattle.tw_machine_file.specs.Seen.{Machine}
use Rattle.tw_file_members.specs.Members.{count_at, has_members, text_at}
use Rattle.tw_file_members.specs.Tables.{has_few_numbers}
use Rattle.tw_nested.specs.declared.tree.End.{End}
use Rattle.tw_nested.specs.declared.tree.End.TheVariants.{Here, Part}
use Rattle.tw_nested.specs.Tree.{Parts, Link, no_parts, atom, coupled}
use Rattle.tw_file_network.specs.Components.{after, any_model_of}
use Rattle.tw_file_network.specs.Numbers.{number_of, port_of}
use Rattle.tw_file_network.specs.Shape.{FileCoupling, FileInput, array_at, component_of, coupling_of, input_of, of_three, of_two}
use Rattle.tw_file_network.specs.declared.draft.AnyDraft.{AnyDraft}
use Rattle.tw_file_network.specs.declared.refused.FileRefused.{FileRefused}

-- the parts of a coupled model, whose models' parameters may be out of range, and its couplings
abbrev pub FileTree : Type 0
FileTree = Parts AnyDraft × List Link

pub record TreeFile : Type 0 where
  pub micro_limit : ℕ
  pub parts : Parts AnyDraft
  pub links : List Link
  pub inputs : List FileInput

-- ---- couplings, by the places of the parts that they name

abbrev pub part_names : {M : Type 0} → Parts M → List (List ℕ)
part_names no_parts = []
part_names (atom name m rest) = name ∷ part_names rest
part_names (coupled name inner links rest) = name ∷ part_names rest

-- the empty name is the model itself; a name that no part has gets a place that no part has
abbrev pub end_named : (List ℕ → ℕ) → List ℕ → End
end_named place [] = Here
end_named place (b ∷ bs) = Part (place (b ∷ bs))

abbrev pub link_named : (List ℕ → ℕ) → FileCoupling → Link
link_named place k = (end_named place k.0, port_of k.1, end_named place k.2, port_of k.3)

-- the couplings of a model of these parts
abbrev pub links_named : Parts AnyDraft → List FileCoupling → List Link
links_named parts couplings = map (link_named (number_of (part_names parts))) couplings

-- ---- parts

-- exactly `name`, `model` and the model's parameters
abbrev pub atom_read : List Machine → Data → Option (Parts AnyDraft → Parts AnyDraft)
atom_read machines d = option_map (λ c. atom c.0 c.1) (component_of machines d)

-- exactly `name`, `components` and `couplings`
abbrev pub coupled_read : (Data → Option FileTree) → Data → Option (Parts AnyDraft → Parts AnyDraft)
coupled_read tree d = if has_members 3 d then of_two (λ name t. coupled name t.0 t.1) (text_at (codes "name") d) (tree d) else None

abbrev pub part_read : List Machine → (Data → Option FileTree) → Data → Option (Parts AnyDraft → Parts AnyDraft)
part_read machines tree d = option_or (atom_read machines d) (coupled_read tree d)

abbrev pub parts_read : List Machine → (Data → Option FileTree) → Items → Option (Parts AnyDraft)
parts_read machines tree no_items = Some no_parts
parts_read machines tree (item d ds) = of_two (λ part rest. part rest) (part_read machines tree d) (parts_read machines tree ds)

-- the members `components` and `couplings`, of no more levels than there is room for
abbrev pub tree_read : List Machine → ℕ → Data → Option FileTree
tree_read machines zero d = None
tree_read machines (suc room) d =
    of_two (λ parts couplings. (parts, links_named parts couplings))
    (option_and_then (parts_read machines (tree_read machines room)) (option_and_then as_array (get (codes "components") d)))
    (array_at coupling_of (codes "couplings") d)

-- ---- the whole file: a JSON text nests no deeper than 127 levels, so it has no more than 63 levels of parts

abbrev pub is_tree_format : Option (List ℕ) → Bool
is_tree_format format = option_map_or (λ f. bytes_eq f (codes "tw-2")) format false

abbrev pub tree_file_made : ℕ → FileTree → List FileInput → TreeFile
tree_file_made micro_limit tree inputs = record { micro_limit = micro_limit; parts = tree.0; links = tree.1; inputs = inputs }

abbrev pub tree_file_of : Data → Option TreeFile
tree_file_of d =
    if has_members 5 d
    then if is_tree_format (text_at (codes "format") d)
    then of_three tree_file_made (count_at (codes "micro_limit") d) (tree_read [] 64 d) (array_at input_of (codes "inputs") d)
    else None
    else None

-- ---- with machines: the member `models` beside those of format tw-2, and `fields` and `constants`, which may be left out

abbrev pub count_of_one : Option Data → ℕ
count_of_one (Some d) = 1
count_of_one None = 0

abbrev pub member_count : Data → ℕ
member_count d = 6 + (count_of_one (get (codes "fields") d) + count_of_one (get (codes "constants") d))

abbrev pub is_machines_format : Option (List ℕ) → Bool
is_machines_format format = option_map_or (λ f. bytes_eq f (codes "tw-3")) format false

-- what else the file says, where its components may be these machines, and its tables have no more numbers than they may have
abbrev pub machines_file_with : Data → List Machine → Option TreeFile
machines_file_with d machines =
    if has_few_numbers machines d
    then of_three tree_file_made (count_at (codes "micro_limit") d) (tree_read machines 64 d) (array_at input_of (codes "inputs") d)
    else None

-- the machines that it declares
abbrev pub machines_at : Data → Option (List Machine)
machines_at d = option_and_then (λ models. result_ok (machines_in d models)) (get (codes "models") d)

-- those of a file of this format
abbrev pub machines_declared : Data → Option (List Machine)
machines_declared d = if has_members (member_count d) d then if is_machines_format (text_at (codes "format") d) then machines_at d else None else None

abbrev pub machines_file_of : Data → Option TreeFile
machines_file_of d = option_and_then (machines_file_with d) (machines_declared d)

-- a file of the one format or of the other
abbrev pub tree_of : Data → Option TreeFile
tree_of d = if is_tree_format (text_at (codes "format") d) then tree_file_of d else machines_file_of d

-- ---- models

abbrev pub tree_made : Parts AnyDraft → Result (Parts AnyModel) FileRefused
tree_made no_parts = Ok no_parts
tree_made (atom name draft rest) = after (λ m. after (λ more. Ok (atom name m more)) (tree_made rest)) (any_model_of draft)
tree_made (coupled name inner links rest) = after (λ within. after (λ more. Ok (coupled name within links more)) (tree_made rest)) (tree_made inner)
