-- The timers that a machine declares: the members `timers` and `least`.
use Rattle.std.specs.Prelude.{◌++◌, ◌∷◌, [], ◌+◌, ℕ, List, Bool, true, false, Option, Some, None, Result, Ok, Err, codes, length, nat_le}
use Rattle.serde_json.specs.Data.{Data, Items, no_items, item, Members}
use Rattle.serde_json.specs.Events.{items_len}
use Rattle.serde_json.specs.Find.{get, as_array, as_object, as_str}
use Rattle.tw_vtime.specs.Stamps.{max_tick}
use Rattle.tw_machine_text.specs.Limits.{max_count}
use Rattle.tw_machine_declaration.specs.Limits.{max_timer_names}
use Rattle.tw_machine_declaration.specs.Seen.{Declares, timer, timer_array}
use Rattle.tw_machine_declaration.specs.Timed.{Names, names_behind, before_name, greatest_name}
use Rattle.tw_machine_declaration.specs.declared.declaration.Constant.{Constant}
use Rattle.tw_machine_declaration.specs.declared.declaration.Timer.{Timer}
use Rattle.tw_machine_file.specs.Constants.{Numbers, constant, count}
use Rattle.tw_machine_file.specs.Declares.{new_name}
use Rattle.tw_machine_file.specs.Fault.{Fault, wrong, once, made, expected, provided}
use Rattle.tw_machine_file.specs.Names.{is_name}
use Rattle.tw_machine_file.specs.Seen.{Scope}
use Rattle.tw_machine_file.specs.Values.{are_among}
use Rattle.tw_machine_file.specs.declared.fault.Part.TheVariants as part
use Rattle.tw_machine_file.specs.declared.fault.Why.TheVariants as why

-- the hidden names of its timers, once all are declared
abbrev pub names_of : Scope → Names
names_of s = names_behind (length s.names) (length s.timers)

abbrev pub timer_members : List (List ℕ)
timer_members = codes "name" ∷ codes "count" ∷ codes "first" ∷ codes "do" ∷ codes "output" ∷ []

-- an object of these members alone
abbrev pub entry_of : ℕ → Data → Result Members Fault
entry_of k d =
    once (expected (part.Timer k) why.Shape (as_object d)) (λ ms. provided (are_among timer_members ms) (wrong (part.Timer k) why.Unknown) ms)

-- a name, which must be there
abbrev pub name_of : ℕ → Option Data → Result (List ℕ) Fault
name_of k d = once (expected (part.TimerName k) why.Missing d) (λ d. expected (part.TimerName k) why.Shape (as_str d))

-- how many are alike, 1 to 16, if that is said
abbrev pub count_in : ℕ → Numbers → Option Data → Result (Option Constant) Fault
count_in k numbers None = Ok None
count_in k numbers (Some d) = made Some (count (part.TimerCount k) max_count numbers d)

-- in how many ticks of the start it is due, if that is said
abbrev pub first_in : ℕ → Numbers → Option Data → Result (Option Constant) Fault
first_in k numbers None = Ok None
first_in k numbers (Some d) = made Some (constant (part.TimerFirst k) numbers d)

abbrev pub timer_thing : Names → ℕ → Option Constant → Declares
timer_thing n k None = timer (before_name n k)
timer_thing n k (Some c) = timer_array (before_name n k) (greatest_name n k)

-- one timer more
abbrev pub with_timer : Names → Scope → List ℕ → Timer → Scope
with_timer n s name t = record s { names = s.names ++ (name, timer_thing n (length s.timers) t.count) ∷ []; timers = s.timers ++ t ∷ [] }

abbrev pub timer_made : Option Constant → Option Constant → Timer
timer_made count first = record { count = count; first = first }

-- its count, and when it is first due
abbrev pub timer_in : ℕ → Numbers → Data → Result Timer Fault
timer_in k numbers d =
    once (count_in k numbers (get (codes "count") d)) (λ count. made (timer_made count) (first_in k numbers (get (codes "first") d)))

-- of this name
abbrev pub timer_named : Names → Scope → List ℕ → Data → Result Scope Fault
timer_named n s name d =
    let k = length s.timers in
    once (new_name (part.TimerName k) (is_name s.timed name) s.names name) (λ name. made (with_timer n s name) (timer_in k s.numbers d))

abbrev pub timer_of : Names → Scope → Data → Result Scope Fault
timer_of n s d =
    let k = length s.timers in
    once (entry_of k d) (λ ms. once (name_of k (get (codes "name") d)) (λ name. timer_named n s name d))

abbrev pub timers_named : Names → Scope → Items → Result Scope Fault
timers_named n s no_items = Ok s
timers_named n s (item d ds) = once (timer_of n s d) (λ next. timers_named n next ds)

-- an array of at most 16
abbrev pub few_timers : Data → Result Items Fault
few_timers d = once (expected part.Timers why.Shape (as_array d)) (λ items. provided (nat_le (items_len items) max_timer_names) (wrong part.Timers why.Count) items)

-- the member `timers`, if there is one
abbrev pub timers_in : Scope → Option Data → Result Scope Fault
timers_in s None = Ok s
timers_in s (Some d) = once (few_timers d) (λ items. timers_named (names_behind (length s.names + items_len items) (items_len items)) s items)

-- the member `least`, which stands beside `timers` alone
abbrev pub least_by : (timed : Bool) → Numbers → Data → Result (Option Constant) Fault
least_by true numbers d = made Some (count part.Least max_tick numbers d)
least_by false numbers d = Err (wrong part.Least why.Unknown)

abbrev pub least_in : Scope → Option Data → Result (Option Constant) Fault
least_in s None = Ok None
least_in s (Some d) = least_by s.timed s.numbers d
