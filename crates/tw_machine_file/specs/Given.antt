-- What a component gives for the parameters of its machine.
use Rattle.std.specs.Prelude.{◌∷◌, [], ◌+◌, ◌==◌, ◌&&◌, ℕ, ℤ, List, Bool, false, Option, Result, Ok, Err, codes, length, is_some, if◌then◌else◌}
use Rattle.std.specs.Option.{option_map_or}
use Rattle.serde_json.specs.Data.{Data, Items}
use Rattle.serde_json.specs.Events.{members_len}
use Rattle.serde_json.specs.Find.{as_array, as_object, get}
use Rattle.tw_machine.specs.Limits.{max_numbers}
use Rattle.tw_machine_declaration.specs.Seen.{Given}
use Rattle.tw_machine_file.specs.Constants.{whole_of, wholes}
use Rattle.tw_machine_file.specs.Fault.{Fault, wrong, once, with_rest, expected, provided}
use Rattle.tw_machine_file.specs.Values.{is_long}
use Rattle.tw_machine_file.specs.declared.fault.Part.TheVariants as part
use Rattle.tw_machine_file.specs.declared.fault.Why.TheVariants as why

-- a whole number for one that is a number
abbrev pub number_given : ℕ → Option Data → Result ℤ Fault
number_given i d = once (expected (part.Number i) why.Missing d) (λ d. expected (part.Number i) why.Shape (whole_of d))

-- one for each of these names, of which the first is that of the parameter at place i
abbrev pub numbers_given : Data → ℕ → List (List ℕ) → Result (List ℤ) Fault
numbers_given d i [] = Ok []
numbers_given d i (name ∷ names) = with_rest (number_given i (get name d)) (numbers_given d (i + 1) names)

-- an array of 1 to 65,536 whole numbers for a list
abbrev pub long_list : ℕ → Items → Result (List ℤ) Fault
long_list i items = if is_long max_numbers items then wholes (part.List i) items else Err (wrong (part.List i) why.Count)

abbrev pub list_given : ℕ → Option Data → Result (List ℤ) Fault
list_given i d = once (expected (part.List i) why.Missing d) (λ d. once (expected (part.List i) why.Shape (as_array d)) (long_list i))

abbrev pub lists_given : Data → ℕ → List (List ℕ) → Result (List (List ℤ)) Fault
lists_given d i [] = Ok []
lists_given d i (name ∷ names) = with_rest (list_given i (get name d)) (lists_given d (i + 1) names)

abbrev pub has_count : ℕ → Data → Bool
has_count count d = option_map_or (λ ms. members_len ms == count) (as_object d) false

-- a name, a model, and so many members in all
abbrev pub has_exactly : ℕ → Data → Bool
has_exactly count d = has_count count d && (is_some (get (codes "name") d) && is_some (get (codes "model") d))

-- its parameters, and no member but them, its name and its model
abbrev pub given_of : List (List ℕ) → List (List ℕ) → Data → Result Given Fault
given_of numbers lists d =
    once (numbers_given d 0 numbers) (λ ns.
    once (lists_given d 0 lists) (λ ls.
    provided (has_exactly (length numbers + length lists + 2) d) (wrong part.Component why.Unknown) (record { numbers = ns; lists = ls })))
