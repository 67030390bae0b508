-- What a machine declares: its parameters, the members `registers`, `queues` and `tables`, whose members are names, and its observations.
use Rattle.std.specs.Prelude.{◌++◌, ◌∷◌, [], ◌+◌, ◌==◌, ◌||◌, ℕ, List, Bool, true, false, Option, Some, None, is_some, Result, Ok, Err, codes, length, map, nat_le, option_and_then, option_map, if◌then◌else◌}
use Rattle.std.specs.Option.{option_map_or}
use Rattle.serde_json.specs.Data.{Data, Items, no_items, item, Members, no_members, member}
use Rattle.serde_json.specs.Find.{get, as_array, as_object, as_str, at}
use Rattle.serde_json.specs.Events.{items_len}
use Rattle.tw_machine.specs.Limits.{max_cells, max_numbers, max_observations, max_queues, max_room}
use Rattle.tw_machine_text.specs.Letters.{same_text}
use Rattle.tw_machine_text.specs.Text.{position}
use Rattle.tw_machine_declaration.specs.Seen.{Declares, Name, parameter, list_parameter, register, registers, queue, queues, table, list_table, observation, procedure}
use Rattle.tw_machine_declaration.specs.declared.declaration.Constant.{Constant}
use Rattle.tw_machine_file.specs.Constants.{Numbers, constant, constants, count, wholes}
use Rattle.tw_machine_file.specs.Fault.{Fault, wrong, once, made, expected, provided}
use Rattle.tw_machine_file.specs.Names.{is_among, is_name, is_own_name}
use Rattle.tw_machine_file.specs.Seen.{Scope}
use Rattle.tw_machine_file.specs.Shared.{SharedNames, constants_left, shared_names}
use Rattle.tw_machine_file.specs.Values.{is_long}
use Rattle.tw_machine_file.specs.declared.declarations.Section.{Section}
use Rattle.tw_machine_file.specs.declared.declarations.Section.TheVariants as section
use Rattle.tw_machine_file.specs.declared.fault.Part.{Part}
use Rattle.tw_machine_file.specs.declared.fault.Part.TheVariants as part
use Rattle.tw_machine_file.specs.declared.fault.Why.TheVariants as why

-- ---- what is declared by a name

-- a register: a constant, or an array of 1 to 64
abbrev pub register_by : Numbers → Data → Option Items → Result Declares Fault
register_by numbers d None = made register (constant part.Registers numbers d)
register_by numbers d (Some items) =
    if is_long max_cells items then made registers (constants part.Registers numbers items) else Err (wrong part.Registers why.Count)

-- in an array: from 1 to this
abbrev pub queue_part : ℕ → Numbers → Option Data → Result Constant Fault
queue_part most numbers d = once (expected part.Queues why.Shape d) (count part.Queues most numbers)

-- a queue: a room of 1 to 1,024, or an array of a count of 1 to 16 and a room
abbrev pub queue_by : Numbers → Data → Option Items → Result Declares Fault
queue_by numbers d None = made queue (count part.Queues max_room numbers d)
queue_by numbers d (Some items) =
    if items_len items == 2
    then once (queue_part max_queues numbers (at 0 d)) (λ n. made (queues n) (queue_part max_room numbers (at 1 d)))
    else Err (wrong part.Queues why.Shape)

-- a table: an array of 1 to 65,536 whole numbers, or the name of a parameter, which is a list then
abbrev pub table_by : List (List ℕ) → Data → Option Items → Result Declares Fault
table_by lists d None = expected part.Tables why.Constant (option_map list_table (option_and_then (position 0 lists) (as_str d)))
table_by lists d (Some items) = if is_long max_numbers items then made table (wholes part.Tables items) else Err (wrong part.Tables why.Count)

abbrev pub part_of : Section → Part
part_of section.Registers = part.Registers
part_of section.Queues = part.Queues
part_of section.Tables = part.Tables

abbrev pub thing_of : Section → Scope → Data → Result Declares Fault
thing_of section.Registers s d = register_by s.numbers d (as_array d)
thing_of section.Queues s d = queue_by s.numbers d (as_array d)
thing_of section.Tables s d = table_by s.lists d (as_array d)

-- ---- names

abbrev pub texts : List Name → List (List ℕ)
texts names = map (λ n. n.0) names

-- a name that may be one, and has not come before
abbrev pub new_name : Part → Bool → List Name → List ℕ → Result (List ℕ) Fault
new_name part may before name =
    if may then (if is_among (texts before) name then Err (wrong part why.Twice) else Ok name) else Err (wrong part why.Name)

abbrev pub with_name : Scope → Name → Scope
with_name s n = record s { names = s.names ++ n ∷ [] }

-- one member: its name, and then what it declares
abbrev pub declare : Section → Scope → List ℕ → Data → Result Scope Fault
declare at s name d =
    once (new_name (part_of at) (is_name s.timed name) s.names name) (λ name. made (λ thing. with_name s (name, thing)) (thing_of at s d))

abbrev pub declare_all : Section → Scope → Members → Result Scope Fault
declare_all at s no_members = Ok s
declare_all at s (member name d ms) = once (declare at s name d) (λ next. declare_all at next ms)

-- a member `registers`, `queues` or `tables`, if there is one
abbrev pub declared_in : Section → Scope → Option Data → Result Scope Fault
declared_in at s None = Ok s
declared_in at s (Some d) = once (expected (part_of at) why.Shape (as_object d)) (declare_all at s)

-- ---- parameters

-- whether a table is named after a parameter, which is a list then
abbrev pub is_text : List ℕ → Data → Bool
is_text name d = option_map_or (λ t. same_text t name) (as_str d) false

abbrev pub names_list : List ℕ → Members → Bool
names_list name no_members = false
names_list name (member k d ms) = is_text name d || names_list name ms

abbrev pub is_list : Option Data → List ℕ → Bool
is_list tables name = option_map_or (names_list name) (option_and_then as_object tables) false

-- a parameter is the next of those that are numbers, or of the lists
abbrev pub with_parameter : Bool → Scope → List ℕ → Scope
with_parameter true s name = record s { names = s.names ++ (name, list_parameter (length s.lists)) ∷ []; lists = s.lists ++ name ∷ [] }
with_parameter false s name = record s { names = s.names ++ (name, parameter (length s.numbers.parameters)) ∷ []; numbers = record s.numbers { parameters = s.numbers.parameters ++ name ∷ [] } }

abbrev pub parameter_named : Option Data → Scope → List ℕ → Result Scope Fault
parameter_named tables s name = made (with_parameter (is_list tables name) s) (new_name part.Parameters (is_own_name s.timed name) s.names name)

abbrev pub parameter_of : Option Data → Scope → Data → Result Scope Fault
parameter_of tables s d = once (expected part.Parameters why.Shape (as_str d)) (parameter_named tables s)

abbrev pub parameters_of : Option Data → Scope → Items → Result Scope Fault
parameters_of tables s no_items = Ok s
parameters_of tables s (item d ds) = once (parameter_of tables s d) (λ next. parameters_of tables next ds)

-- what a machine has before it declares anything: what the file says for it
abbrev pub nothing_declared : SharedNames → Data → Scope
nothing_declared shared d =
    record {
      names = shared_names d shared;
      numbers = record { parameters = []; constants = constants_left d shared.constants };
      lists = [];
      timed = is_some (get (codes "timers") d);
      timers = [];
    }

-- the member `parameters`, if there is one
abbrev pub parameters_in : Scope → Option Data → Option Data → Result Scope Fault
parameters_in s tables None = Ok s
parameters_in s tables (Some d) = once (expected part.Parameters why.Shape (as_array d)) (parameters_of tables s)

-- ---- observations

abbrev pub observation_named : Scope → List ℕ → Result Scope Fault
observation_named s name = made (λ name. with_name s (name, observation)) (new_name part.Observations (is_name s.timed name) s.names name)

abbrev pub observation_of : Scope → Data → Result Scope Fault
observation_of s d = once (expected part.Observations why.Shape (as_str d)) (observation_named s)

abbrev pub observations_of : Scope → Items → Result Scope Fault
observations_of s no_items = Ok s
observations_of s (item d ds) = once (observation_of s d) (λ next. observations_of next ds)

-- an array of at most 16 names
abbrev pub few_observations : Data → Result Items Fault
few_observations d = once (expected part.Observations why.Shape (as_array d)) (λ items. provided (nat_le (items_len items) max_observations) (wrong part.Observations why.Count) items)

-- the member `observations`, if there is one
abbrev pub observations_in : Scope → Option Data → Result Scope Fault
observations_in s None = Ok s
observations_in s (Some d) = once (few_observations d) (observations_of s)

-- ---- procedures

-- the name of a procedure, of an array of a name and a program
abbrev pub pair_name : Data → Result (List ℕ) Fault
pair_name d = expected part.Procedures why.Shape (option_and_then as_str (at 0 d))

abbrev pub pair_by : Data → Option Items → Result (List ℕ) Fault
pair_by d None = Err (wrong part.Procedures why.Shape)
pair_by d (Some items) = if items_len items == 2 then pair_name d else Err (wrong part.Procedures why.Shape)

abbrev pub pair_of : Data → Result (List ℕ) Fault
pair_of d = pair_by d (as_array d)

-- one more behind so many
abbrev pub procedure_named : ℕ → Scope → List ℕ → Result Scope Fault
procedure_named k s name = made (λ name. with_name s (name, procedure k)) (new_name part.Procedures (is_name s.timed name) s.names name)

abbrev pub procedures_named : ℕ → Scope → Items → Result Scope Fault
procedures_named k s no_items = Ok s
procedures_named k s (item d ds) = once (once (pair_of d) (procedure_named k s)) (λ next. procedures_named (k + 1) next ds)

-- the names in the member `procedures`, if there is one
abbrev pub procedures_in : Scope → Option Data → Result Scope Fault
procedures_in s None = Ok s
procedures_in s (Some d) = once (expected part.Procedures why.Shape (as_array d)) (procedures_named 0 s)

-- ---- all names

-- behind what the file says for it its parameters
abbrev pub parameters_said : SharedNames → Data → Result Scope Fault
parameters_said shared d = parameters_in (nothing_declared shared d) (get (codes "tables") d) (get (codes "parameters") d)

-- then registers, queues, tables and observations, in this order
abbrev pub scope_of : SharedNames → Data → Result Scope Fault
scope_of shared d =
    once (parameters_said shared d) (λ s.
    once (declared_in section.Registers s (get (codes "registers") d)) (λ s.
    once (declared_in section.Queues s (get (codes "queues") d)) (λ s.
    once (declared_in section.Tables s (get (codes "tables") d)) (λ s.
    observations_in s (get (codes "observations") d)))))
