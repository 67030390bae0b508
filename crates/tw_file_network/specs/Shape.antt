-- What a network file says, read off its JSON value: exactly these members, each of its type.
--     component_of machines d      a component, where these machines may be named
--     file_of d      what the value says, where it has the shape of a network file (format tw-1)
use Rattle.std.specs.Prelude.{◌∷◌, [], ℕ, ℤ, List, Bool, false, Option, Some, None, codes, option_and_then, option_map, if◌then◌else◌}
use Rattle.std.specs.Str.{bytes_eq}
use Rattle.std.specs.Option.{option_map_or, option_or}
use Rattle.std.specs.Result.{result_ok}
use Rattle.serde_json.specs.Data.{Data, Items, no_items, item}
use Rattle.serde_json.specs.Find.{get, as_str, as_array, at}
use Rattle.tw_machine_file.specs.Machines.{program_in}
use Rattle.tw_machine_file.specs.Seen as file
use Rattle.tw_file_members.specs.Members.{count_at, count_of, has_items, has_members, text_at, value_at}
use Rattle.tw_file_members.specs.Named.{machine_named}
use Rattle.tw_models.specs.Kinds.{gen_name, tally_name, relay_name, queue_name, hop_name}
use Rattle.tw_file_network.specs.declared.draft.AnyDraft.{AnyDraft}
use Rattle.tw_file_network.specs.declared.draft.AnyDraft.TheVariants.{BuiltIn, Machine}
use Rattle.tw_file_network.specs.declared.draft.ModelDraft.{ModelDraft}
use Rattle.tw_file_network.specs.declared.draft.ModelDraft.TheVariants.{Gen, Tally, Relay, Queue, Hop}

-- a component: its name, and its model with parameters that may be out of range
abbrev pub FileComponent : Type 0
FileComponent = List ℕ × AnyDraft

-- a coupling: source, its port, destination, its port
abbrev pub FileCoupling : Type 0
FileCoupling = List ℕ × ℕ × List ℕ × ℕ

-- an input: tick, component, port, value
abbrev pub FileInput : Type 0
FileInput = ℕ × List ℕ × ℕ × ℤ

pub record File : Type 0 where
  pub micro_limit : ℕ
  pub components : List FileComponent
  pub couplings : List FileCoupling
  pub inputs : List FileInput

-- ---- parts of a value

-- a function of parts that are all there
abbrev pub of_two : {A B C : Type 0} → (A → B → C) → Option A → Option B → Option C
of_two f a b = option_and_then (λ x. option_map (f x) b) a

abbrev pub of_three : {A B C D : Type 0} → (A → B → C → D) → Option A → Option B → Option C → Option D
of_three f a b c = option_and_then (λ x. of_two (f x) b c) a

abbrev pub of_four : {A B C D E : Type 0} → (A → B → C → D → E) → Option A → Option B → Option C → Option D → Option E
of_four f a b c d = option_and_then (λ x. of_three (f x) b c d) a

-- each item read alike, where all can be
abbrev pub all_read : {A : Type 0} → (Data → Option A) → Items → Option (List A)
all_read read no_items = Some []
all_read read (item d ds) = of_two (λ x xs. x ∷ xs) (read d) (all_read read ds)

-- a member that is an array, each of its items read alike
abbrev pub array_at : {A : Type 0} → (Data → Option A) → List ℕ → Data → Option (List A)
array_at read name d = option_and_then (all_read read) (option_and_then as_array (get name d))

-- ---- components, couplings and inputs

-- exactly `name`, `model` and the model's own parameters
abbrev pub gen_of : Data → Option ModelDraft
gen_of d = if has_members 4 d then of_two Gen (count_at (codes "period") d) (value_at (codes "value") d) else None

abbrev pub tally_of : Data → Option ModelDraft
tally_of d = if has_members 2 d then Some Tally else None

abbrev pub relay_of : Data → Option ModelDraft
relay_of d = if has_members 3 d then option_map Relay (count_at (codes "delay") d) else None

abbrev pub queue_of : Data → Option ModelDraft
queue_of d = if has_members 3 d then option_map Queue (count_at (codes "service") d) else None

abbrev pub hop_of : Data → Option ModelDraft
hop_of d =
    if has_members 5 d
    then of_three Hop (count_at (codes "seed") d) (count_at (codes "ports") d) (count_at (codes "spread") d)
    else None

-- the model of this name
abbrev pub model_named : List ℕ → Data → Option ModelDraft
model_named name d =
    if bytes_eq name gen_name then gen_of d
    else if bytes_eq name tally_name then tally_of d
    else if bytes_eq name relay_name then relay_of d
    else if bytes_eq name queue_name then queue_of d
    else if bytes_eq name hop_name then hop_of d
    else None

-- the program of a machine, with what the component gives for its parameters
abbrev pub machine_of : file.Machine → Data → Option AnyDraft
machine_of m d = option_map Machine (result_ok (program_in m d))

-- one of the five, or else a machine
abbrev pub model_in : List file.Machine → Data → List ℕ → Option AnyDraft
model_in machines d name = option_or (option_map BuiltIn (model_named name d)) (option_and_then (λ m. machine_of m d) (machine_named machines name))

abbrev pub component_of : List file.Machine → Data → Option FileComponent
component_of machines d =
    of_two (λ name model. (name, model)) (text_at (codes "name") d)
    (option_and_then (model_in machines d) (text_at (codes "model") d))

abbrev pub coupling_of : Data → Option FileCoupling
coupling_of d =
    if has_items 4 d
    then of_four (λ source from destination to. (source, from, destination, to))
    (option_and_then as_str (at 0 d)) (option_and_then count_of (at 1 d))
    (option_and_then as_str (at 2 d)) (option_and_then count_of (at 3 d))
    else None

abbrev pub input_of : Data → Option FileInput
input_of d =
    if has_members 4 d
    then of_four (λ tick to port value. (tick, to, port, value))
    (count_at (codes "tick") d) (text_at (codes "to") d) (count_at (codes "port") d) (value_at (codes "value") d)
    else None

-- ---- the whole file

abbrev pub file_made : ℕ → List FileComponent → List FileCoupling → List FileInput → File
file_made micro_limit components couplings inputs =
    record { micro_limit = micro_limit; components = components; couplings = couplings; inputs = inputs }

abbrev pub is_format : Option (List ℕ) → Bool
is_format format = option_map_or (λ f. bytes_eq f (codes "tw-1")) format false

abbrev pub file_of : Data → Option File
file_of d =
    if has_members 5 d
    then if is_format (text_at (codes "format") d)
    then of_four file_made (count_at (codes "micro_limit") d) (array_at (component_of []) (codes "components") d)
    (array_at coupling_of (codes "couplings") d) (array_at input_of (codes "inputs") d)
    else None
    else None
