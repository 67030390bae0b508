-- What a file says of the models of its network's components: what they are called, and their figures.
--     labels_said file models      of all components of these models, in order
--     atoms_of file      the components of a file that are no coupled models, depth first: they have the numbers 0 and on
--     machines_said file      the machines that a file declares
--     figures_named, observations_named machines values name      those of the machine of a name, among machines that these values declare
use Rattle.std.specs.Prelude.{◌+◌, ◌++◌, ◌∷◌, [], ℕ, zero, suc, List, Option, Some, None, codes, is_some, option_and_then, slice_index_or, unwrap_or, if◌then◌else◌}
use Rattle.std.specs.Option.{option_map_or}
use Rattle.std.specs.Result.{result_ok}
use Rattle.std.specs.Str.{bytes_eq}
use Rattle.serde_json.specs.Data.{Data, null, Items, no_items, item}
use Rattle.serde_json.specs.Find.{get}
use Rattle.tw_figures.specs.Labelled.{Label}
use Rattle.tw_figures.specs.declared.figure.Measure.{Measure}
use Rattle.tw_any_model.specs.declared.any_model.AnyModel.{AnyModel}
use Rattle.tw_any_model.specs.declared.any_model.AnyModel.TheVariants.{BuiltIn, Machine}
use Rattle.tw_machine_declaration.specs.Names.{standings_of}
use Rattle.tw_machine_file.specs.Machines.{machines_in, nothing_given}
use Rattle.tw_machine_file.specs.Seen as file
use Rattle.tw_file_members.specs.Members.{items_in, text_in}
use Rattle.tw_file_members.specs.Named.{machine_named}
use Rattle.tw_figure_names.specs.Entries.{Entry, entries_of, figures_of, observations_of}
use Rattle.tw_figure_names.specs.Labels.{built_in}

-- ---- components

abbrev pub of_all : {A : Type 0} → (Data → List A) → Items → List A
of_all f no_items = []
of_all f (item d ds) = f d ++ of_all f ds

-- in a model, of no more levels than there is room for
abbrev pub atoms_within : ℕ → Data → List Data
atoms_within zero d = []
atoms_within (suc room) d = of_all (λ c. if is_some (get (codes "components") c) then atoms_within room c else c ∷ []) (items_in (codes "components") d)

-- a component, or those in it
abbrev pub atom_or_within : ℕ → Data → List Data
atom_or_within room c = if is_some (get (codes "components") c) then atoms_within room c else c ∷ []

unfoldable pub atoms_of : Data → List Data
atoms_of file = atoms_within 64 file

-- ---- machines

-- none where one of them is refused
abbrev pub machines_said : Data → List file.Machine
machines_said file = unwrap_or (option_and_then (λ models. result_ok (machines_in file models)) (get (codes "models") file)) []

-- the first value that declares something of a name
abbrev pub value_named : Items → List ℕ → Option Data
value_named no_items name = None
value_named (item d ds) name = if bytes_eq (text_in (codes "name") d) name then Some d else value_named ds name

abbrev pub words_named : Items → List ℕ → Items
words_named values name = option_map_or (items_in (codes "words")) (value_named values name) no_items

-- what each entry of `words` shows is the same whatever a component gives
abbrev pub entries_said : file.Machine → Items → List Entry
entries_said m words = entries_of (standings_of nothing_given m.declaration.names) m.declaration.words words

abbrev pub figures_named : List file.Machine → Items → List ℕ → List (List ℕ × Measure)
figures_named machines values name = option_map_or (λ m. figures_of (entries_said m (words_named values name))) (machine_named machines name) []

abbrev pub observations_named : List file.Machine → Items → List ℕ → List (List ℕ × ℕ)
observations_named machines values name = option_map_or (λ m. observations_of (entries_said m (words_named values name))) (machine_named machines name) []

-- ---- labels

-- of a component that names this machine
abbrev pub machine_label : List file.Machine → Items → List ℕ → Label
machine_label machines values name = record { model = name; figures = figures_named machines values name; observations = observations_named machines values name }

-- of a component's model, where the file says this of the component
abbrev pub label_said : List file.Machine → Items → AnyModel → Data → Label
label_said machines values (BuiltIn m) d = built_in m
label_said machines values (Machine m) d = machine_label machines values (text_in (codes "model") d)

-- of these models, from number k on, where these components are said
abbrev pub labels_from : List file.Machine → Items → List Data → ℕ → List AnyModel → List Label
labels_from machines values said k [] = []
labels_from machines values said k (m ∷ ms) = label_said machines values m (slice_index_or said k null) ∷ labels_from machines values said (k + 1) ms

abbrev pub labels_said : Data → List AnyModel → List Label
labels_said file models = labels_from (machines_said file) (items_in (codes "models") file) (atoms_of file) 0 models
