-- What a file says once for all its machines: its fields and its constants.
--     shared_in file      what the members `fields` and `constants` say, or the first fault
--     fields_said file      the fields of a file
--     constants_left d constants      those that the machine d does not hide by names of its own
--     shared_names d shared      the names that the machine d has of it
use Rattle.std.specs.Prelude.{◌++◌, ◌∷◌, [], ◌+◌, ◌^◌, ◌==◌, ◌&&◌, ◌||◌, ℕ, ℤ, List, Bool, true, false, not, Option, Some, None, Result, Ok, Err, codes, flat_map, is_some, map, nat_le, option_and_then, string_bytes, unwrap_or, if◌then◌else◌}
use Rattle.std.specs.Option.{option_map_or}
use Rattle.std.specs.Result.{result_ok}
use Rattle.serde_json.specs.Data.{Data, Items, no_items, item, Members, no_members, member}
use Rattle.serde_json.specs.Events.{items_len}
use Rattle.serde_json.specs.Find.{get, as_array, as_object, as_str, as_u64, as_number, at}
use Rattle.tw_machine_text.specs.Letters.{same_text, functions}
use Rattle.tw_machine_text.specs.declared.kinds.Field.{Field}
use Rattle.tw_machine_declaration.specs.Seen.{Name, fixed, field}
use Rattle.tw_machine_file.specs.Constants.{file_constant, number_named, whole_of}
use Rattle.tw_machine_file.specs.Fault.{Fault, wrong, once, made, expected, provided}
use Rattle.tw_machine_file.specs.Names.{is_among, is_name}
use Rattle.tw_machine_file.specs.Used.{some_item}
use Rattle.tw_machine_file.specs.declared.shared.FileField.{FileField}
use Rattle.tw_machine_file.specs.declared.shared.SharedNames as rust
use Rattle.tw_machine_file.specs.declared.fault.Part.TheVariants as part
use Rattle.tw_machine_file.specs.declared.fault.Why.TheVariants as why

-- a field: its name, how many bits are below it, and how many it has
pub record FieldSaid : Type 0 where
  pub name : List ℕ
  pub low : ℕ
  pub bits : ℕ

abbrev pub file_field : FileField → FieldSaid
file_field f = record { name = string_bytes f.name; low = f.low; bits = f.bits }

-- what is said once: fields, the lowest first, and constants
pub record SharedNames : Type 0 where
  pub fields : List FieldSaid
  pub constants : List (List ℕ × ℤ)

abbrev pub shared : rust.SharedNames → SharedNames
shared s = record { fields = map file_field s.fields.items; constants = map file_constant s.constants.items }

abbrev pub nothing_shared : SharedNames
nothing_shared = record { fields = []; constants = [] }

-- ---- the member `fields`: an array of arrays of a name and a count of bits

-- all fields together have at most so many bits
abbrev pub most_bits : ℕ
most_bits = 63

abbrev pub field_texts : List FieldSaid → List (List ℕ)
field_texts fields = map (λ f. f.name) fields

-- the words that are one where a machine has no such name; of timers no name is one, in no machine
abbrev pub other_words : List (List ℕ)
other_words = codes "observe" ∷ codes "clear" ∷ codes "do" ∷ []

-- a name as that of a register of a machine with timers, and no function's or other word
abbrev pub is_field_name : List ℕ → Bool
is_field_name text = is_name true text && not (is_among functions text) && not (is_among other_words text)

abbrev pub new_field_name : List FieldSaid → List ℕ → Result (List ℕ) Fault
new_field_name before name =
    if is_field_name name then (if is_among (field_texts before) name then Err (wrong part.Fields why.Twice) else Ok name) else Err (wrong part.Fields why.Name)

-- a pair
abbrev pub field_pair : Data → Option Items → Result Data Fault
field_pair d None = Err (wrong part.Fields why.Shape)
field_pair d (Some items) = if items_len items == 2 then Ok d else Err (wrong part.Fields why.Shape)

abbrev pub field_text : Data → Result (List ℕ) Fault
field_text d = expected part.Fields why.Shape (option_and_then as_str (at 0 d))

abbrev pub field_count : Data → Result ℕ Fault
field_count d = expected part.Fields why.Shape (option_and_then as_u64 (option_and_then as_number (at 1 d)))

-- 1 to 62 bits, and no more than 63 with those below
abbrev pub is_count_above : ℕ → ℕ → Bool
is_count_above taken bits = nat_le 1 bits && nat_le bits 62 && nat_le (taken + bits) most_bits

abbrev pub field_bits : ℕ → Data → Result ℕ Fault
field_bits taken d = once (field_count d) (λ bits. provided (is_count_above taken bits) (wrong part.Fields why.Count) bits)

abbrev pub field_made : ℕ → List ℕ → ℕ → FieldSaid
field_made low name bits = record { name = name; low = low; bits = bits }

-- a field above these, which take so many bits
abbrev pub field_above : (low : ℕ) → List FieldSaid → Data → Result FieldSaid Fault
field_above low below d =
    once (field_pair d (as_array d)) (λ d.
    once (field_text d) (λ name.
    once (new_field_name below name) (λ name.
    made (field_made low name) (field_bits low d))))

abbrev pub fields_above : (low : ℕ) → List FieldSaid → Items → Result (List FieldSaid) Fault
fields_above low below no_items = Ok below
fields_above low below (item d ds) = once (field_above low below d) (λ f. fields_above (f.low + f.bits) (below ++ f ∷ []) ds)

abbrev pub fields_in : Option Data → Result (List FieldSaid) Fault
fields_in None = Ok []
fields_in (Some d) = once (expected part.Fields why.Shape (as_array d)) (fields_above 0 [])

-- those of a file; of one that is refused for them there are none
abbrev pub fields_said : Data → List FieldSaid
fields_said file = unwrap_or (result_ok (fields_in (get (codes "fields") file))) []

-- ---- the member `constants`: names, each with a whole number

abbrev pub constant_named : List ℕ → Data → Result (List ℕ × ℤ) Fault
constant_named name d =
    if is_name true name then made (λ n. (name, n)) (expected part.Constants why.Shape (whole_of d)) else Err (wrong part.Constants why.Name)

abbrev pub constants_behind : List (List ℕ × ℤ) → Members → Result (List (List ℕ × ℤ)) Fault
constants_behind before no_members = Ok before
constants_behind before (member name d ms) = once (constant_named name d) (λ c. constants_behind (before ++ c ∷ []) ms)

abbrev pub constants_in : Option Data → Result (List (List ℕ × ℤ)) Fault
constants_in None = Ok []
constants_in (Some d) = once (expected part.Constants why.Shape (as_object d)) (constants_behind [])

abbrev pub shared_made : List FieldSaid → List (List ℕ × ℤ) → SharedNames
shared_made fields constants = record { fields = fields; constants = constants }

abbrev pub shared_in : Data → Result SharedNames Fault
shared_in file = once (fields_in (get (codes "fields") file)) (λ fields. made (shared_made fields) (constants_in (get (codes "constants") file)))

-- ---- what a machine has of it

abbrev pub is_text : List ℕ → Data → Bool
is_text name d = option_map_or (λ t. same_text t name) (as_str d) false

-- whether an array has an item that is so
abbrev pub has_item : (Data → Bool) → Option Data → Bool
has_item test o = option_map_or (some_item test) (option_and_then as_array o) false

abbrev pub has_key : List ℕ → Option Data → Bool
has_key name o = is_some (option_and_then (get name) o)

-- a machine says a name: of a parameter, a register, a queue, a table, an observation, a procedure or a timer
abbrev pub has_some_key : List ℕ → (registers queues tables : Option Data) → Bool
has_some_key name registers queues tables = has_key name registers || has_key name queues || has_key name tables

abbrev pub names_held : Data → List ℕ → Bool
names_held d name =
    has_item (is_text name) (get (codes "parameters") d) || has_some_key name (get (codes "registers") d) (get (codes "queues") d) (get (codes "tables") d)

abbrev pub is_procedure : List ℕ → Data → Bool
is_procedure name p = option_map_or (is_text name) (at 0 p) false

abbrev pub is_timer : List ℕ → Data → Bool
is_timer name t = option_map_or (is_text name) (get (codes "name") t) false

abbrev pub has_some_item : List ℕ → (observations procedures timers : Option Data) → Bool
has_some_item name observations procedures timers =
    has_item (is_text name) observations || has_item (is_procedure name) procedures || has_item (is_timer name) timers

abbrev pub names_deed : Data → List ℕ → Bool
names_deed d name = has_some_item name (get (codes "observations") d) (get (codes "procedures") d) (get (codes "timers") d)

unfoldable pub says_name : Data → List ℕ → Bool
says_name d name = names_held d name || names_deed d name

-- the constants that it does not hide
abbrev pub unhidden : Data → List ℕ × ℤ → List (List ℕ × ℤ)
unhidden d c = if says_name d c.0 then [] else c ∷ []

abbrev pub constants_left : Data → List (List ℕ × ℤ) → List (List ℕ × ℤ)
constants_left d constants = flat_map (unhidden d) constants

abbrev pub constant_name : List ℕ × ℤ → Name
constant_name c = (c.0, fixed c.1)

-- the names of fields that neither the machine nor a constant has
abbrev pub is_alone : Data → List (List ℕ × ℤ) → List ℕ → Bool
is_alone d constants name = not (says_name d name) && not (is_some (number_named constants name))

abbrev pub field_left : Data → List (List ℕ × ℤ) → FieldSaid → List Name
field_left d constants f = if is_alone d constants f.name then (f.name, field) ∷ [] else []

abbrev pub fields_left : Data → List (List ℕ × ℤ) → List FieldSaid → List Name
fields_left d constants fields = flat_map (field_left d constants) fields

abbrev pub shared_names : Data → SharedNames → List Name
shared_names d s =
    let constants = constants_left d s.constants in
    map constant_name constants ++ fields_left d constants s.fields

abbrev pub field_part : FieldSaid → Field
field_part f = record { unit = 2 ^ f.low; size = 2 ^ f.bits }

-- the field of this name
abbrev pub field_named : List FieldSaid → List ℕ → Option Field
field_named [] name = None
field_named (f ∷ fs) name = if same_text f.name name then Some (field_part f) else field_named fs name
