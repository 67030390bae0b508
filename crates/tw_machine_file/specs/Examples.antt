-- Machines by hand: the arrivals of `machine-pool`, the value of the file and what it declares; eight values with one fault each; and one that is large where it makes a turn.
use Rattle.std.specs.Prelude.{◌≡◌, ◌∷◌, [], ℕ, List, pos, true, false, Option, Some, None, Result, Ok, Err, codes}
use Rattle.std.specs.Result.{result_err}
use Rattle.serde_json.specs.Data.{Data, unsigned, Items, number, string, array, object, no_items, item, Members, no_members, member}
use Rattle.tw_machine_text.specs.Letters.{own}
use Rattle.tw_machine_text.specs.Tree.{Number, Name, Indexed, RandomBelow, Binary, Empty, Then, Assign, Wait, Draw}
use Rattle.tw_machine_text.specs.declared.words.SourceChange.TheVariants.{Add}
use Rattle.tw_machine_text.specs.declared.words.Operator.TheVariants.{Plus}
use Rattle.tw_machine_declaration.specs.Seen.{Given, parameter, list_parameter, register, list_table, whole, tree}
use Rattle.tw_machine_declaration.specs.declared.declaration.Constant.TheVariants as c
use Rattle.tw_machine_compiler.specs.declared.limits.BadMachine.TheVariants as bad
use Rattle.tw_machine_file.specs.Fault.{Fault, wrong, text, limit, once}
use Rattle.tw_machine_file.specs.Given.{given_of}
use Rattle.tw_machine_file.specs.Machine.{machine_of}
use Rattle.tw_machine_file.specs.Shared.{nothing_shared}
use Rattle.tw_machine_file.specs.Machines.{machines_in, program_in}
use Rattle.tw_machine_file.specs.Seen.{Machine}
use Rattle.tw_machine_file.specs.declared.fault.Part.TheVariants as part
use Rattle.tw_machine_file.specs.declared.fault.Why.TheVariants as why

abbrev pub count : ℕ → Data
count n = number (unsigned n)

abbrev pub only : Data → Items
only d = item d no_items

abbrev pub both : Data → Data → Items
both a b = item a (item b no_items)

-- ---- the value: members stand in the order of their names

-- {"port": 0, "value": "made + 1"}
abbrev pub arrival : Data
arrival = object (member (codes "port") (count 0) (member (codes "value") (string (codes "made + 1")) no_members))

-- the members from `output` on, with these registers, queues and words
abbrev pub rest_with : Members → Members → Items → Members
rest_with registers queues words =
    member (codes "output") (array (only arrival))
    (member (codes "parameters") (array (both (string (codes "seed")) (string (codes "gaps"))))
    (member (codes "queues") (object queues)
    (member (codes "random") (string (codes "seed"))
    (member (codes "registers") (object registers)
    (member (codes "tables") (object (member (codes "gap") (string (codes "gaps")) no_members))
    (member (codes "words") (array words) no_members))))))

-- the members before `name`, of which the first line of `internal` is this
abbrev pub source_with : List ℕ → Members → Data
source_with line rest = object
    (member (codes "first") (count 1) (member (codes "internal") (array (both (string line) (string (codes "wait gap[random(20)]; draw")))) rest))

abbrev pub made_at : Data → Members
made_at start = member (codes "made") start no_members

abbrev pub with_name : Members → Members
with_name rest = member (codes "name") (string (codes "source")) rest

abbrev pub plain : Members
plain = rest_with (made_at (count 0)) no_members (only (string (codes "made")))

abbrev pub source : Data
source = source_with (codes "made += 1") (with_name plain)

-- ---- what it declares: `seed`, `gaps`, `made` and `gap` are the first names that are declared

abbrev pub declared_source : Machine
declared_source = record {
  name = codes "source";
  declaration = record {
    names = (codes "seed", parameter 0) ∷ (codes "gaps", list_parameter 0) ∷ (codes "made", register (c.Number (pos 0))) ∷ (codes "gap", list_table 0) ∷ [];
    random = c.Parameter 0;
    first = Some (c.Number (pos 1));
    longest = None;
    timers = None;
    internal = Then (Then (Then Empty (Assign (Name (own 2)) Add (Number 1)) false) (Wait (Indexed (own 3) (RandomBelow (Number 20)))) true) Draw false;
    external = Empty;
    outputs = record { port = whole (pos 0); sent = tree (Binary Plus (Name (own 2)) (Number 1)); when = None; each = None } ∷ [];
    words = tree (Name (own 2)) ∷ [];
  };
  numbers = codes "seed" ∷ [];
  lists = codes "gaps" ∷ [];
}

pub record Source : Type 0 where
  pub declares : machine_of nothing_shared [] source ≡ Ok declared_source

-- ---- faults

-- a machine without a name
abbrev pub NoName : Type 0
NoName = machine_of nothing_shared [] (source_with (codes "made += 1") plain) ≡ Err (wrong part.Name why.Missing)

-- a second machine of its name
abbrev pub MachineTwice : Type 0
MachineTwice = machine_of nothing_shared (codes "sink" ∷ codes "source" ∷ []) source ≡ Err (wrong part.Name why.Twice)

-- a register named `now`, and one that starts at a list
abbrev pub ReservedRegister : Type 0
ReservedRegister = machine_of nothing_shared [] (source_with (codes "made += 1") (with_name (rest_with (member (codes "now") (count 0) no_members) no_members (only (count 0))))) ≡ Err (wrong part.Registers why.Name)

abbrev pub ListAsConstant : Type 0
ListAsConstant = machine_of nothing_shared [] (source_with (codes "made += 1") (with_name (rest_with (made_at (string (codes "gaps"))) no_members (only (count 0))))) ≡ Err (wrong part.Registers why.Constant)

-- an array of queues with three numbers
abbrev pub QueueOfThree : Type 0
QueueOfThree =
    machine_of nothing_shared [] (source_with (codes "made += 1") (with_name (rest_with (made_at (count 0)) (member (codes "r") (array (item (count 2) (both (count 3) (count 3)))) no_members) (only (count 0)))))
    ≡ Err (wrong part.Queues why.Shape)

-- a name of two kinds
abbrev pub NameOfTwoKinds : Type 0
NameOfTwoKinds =
    machine_of nothing_shared [] (source_with (codes "made += 1") (with_name (rest_with (made_at (count 0)) (member (codes "made") (count 3) no_members) (only (count 0)))))
    ≡ Err (wrong part.Queues why.Twice)

-- `made = =`
abbrev pub OpenProgram : Type 0
OpenProgram = machine_of nothing_shared [] (source_with (codes "made = =") (with_name plain)) ≡ Err (text part.Internal)

-- r[1] and r [ 1 ] in words
abbrev pub QueueTwice : Type 0
QueueTwice =
    machine_of nothing_shared [] (source_with (codes "made += 1") (with_name (rest_with (made_at (count 0)) (member (codes "r") (array (both (count 2) (count 3))) no_members) (both (string (codes "r[1]")) (string (codes "r [ 1 ]"))))))
    ≡ Err (wrong (part.Word 1) why.Twice)

-- ---- what a component gives: `seed` is a number, `gaps` a list

abbrev pub component_with : Data → Data → Members → Data
component_with gaps seed more = object (member (codes "gaps") gaps (member (codes "model") (string (codes "source")) (member (codes "name") (string (codes "s")) (member (codes "seed") seed more))))

abbrev pub given_by : Data → Result Given Fault
given_by component = given_of (codes "seed" ∷ []) (codes "gaps" ∷ []) component

abbrev pub Gives : Type 0
Gives = given_by (component_with (array (both (count 1) (count 2))) (count 7) no_members) ≡ Ok (record { numbers = pos 7 ∷ []; lists = (pos 1 ∷ pos 2 ∷ []) ∷ [] })

-- a list for a number, a number for a list, an empty list
abbrev pub ListForNumber : Type 0
ListForNumber = given_by (component_with (array (only (count 1))) (array (only (count 7))) no_members) ≡ Err (wrong (part.Number 0) why.Shape)

abbrev pub NumberForList : Type 0
NumberForList = given_by (component_with (count 1) (count 7) no_members) ≡ Err (wrong (part.List 0) why.Shape)

abbrev pub EmptyList : Type 0
EmptyList = given_by (component_with (array no_items) (count 7) no_members) ≡ Err (wrong (part.List 0) why.Count)

-- a component without `seed`, and one with `value`
abbrev pub MissingParameter : Type 0
MissingParameter =
    given_by (object (member (codes "gaps") (array (only (count 1))) (member (codes "model") (string (codes "source")) (member (codes "name") (string (codes "s")) no_members))))
    ≡ Err (wrong (part.Number 0) why.Missing)

abbrev pub MoreThanParameters : Type 0
MoreThanParameters = given_by (component_with (array (only (count 1))) (count 7) (member (codes "value") (count 1) no_members)) ≡ Err (wrong part.Component why.Unknown)

-- ---- limits, with nothing given and with what components give

-- {"internal": "repeat p { repeat 64 { repeat 64 { repeat 64 { draw } } } }", "name": "dice", "parameters": ["p"], "words": [0]}
abbrev pub dice : Data
dice = object
    (member (codes "internal") (string (codes "repeat p { repeat 64 { repeat 64 { repeat 64 { draw } } } }"))
    (member (codes "name") (string (codes "dice")) (member (codes "parameters") (array (only (string (codes "p")))) (member (codes "words") (array (only (count 0))) no_members))))

-- {"model": "dice", "name": "d", "p": 0}, and the same with 1
abbrev pub thrown : ℕ → Data
thrown p = object (member (codes "model") (string (codes "dice")) (member (codes "name") (string (codes "d")) (member (codes "p") (count p) no_members)))

abbrev pub file_of : Data → Data
file_of component = object (member (codes "components") (array (only component)) no_members)

-- the faults of the list of `dice` alone, in a file of this component
abbrev pub fault_in : Data → Option Fault
fault_in component = result_err (machines_in (file_of component) (array (only dice)))

-- what a component of it gives
abbrev pub fault_with : ℕ → Option Fault
fault_with p = result_err (once (machine_of nothing_shared [] dice) (λ m. program_in m (thrown p)))

pub record Limited : Type 0 where
  -- where no component uses it, 270,468 computations of one turn are too many
  pub unused : fault_in (object (member (codes "model") (string (codes "tally")) no_members)) ≡ Some (limit bad.TooManyComputations)
  -- a component that uses it, or one in a model
  pub used : fault_in (thrown 0) ≡ None
  pub used_within : fault_in (file_of (thrown 0)) ≡ None
  -- no turn is within the limit, one is not
  pub no_turn : fault_with 0 ≡ None
  pub one_turn : fault_with 1 ≡ Some (limit bad.TooManyComputations)
