-- How many numbers the tables of a whole file have: those that its machines declare, of each machine once, and those that its components give for lists.
--     numbers_in machines d      of the file of this value, which declares these machines
--     has_few_numbers machines d      there are no more than a file may have
use Rattle.std.specs.Prelude.{ℕ, zero, suc, ◌+◌, List, Bool, Option, codes, length, option_and_then, sum_by, nat_le}
use Rattle.std.specs.Option.{option_map_or}
use Rattle.serde_json.specs.Data.{Data, Items, no_items, item}
use Rattle.serde_json.specs.Events.{items_len}
use Rattle.serde_json.specs.Find.{as_array, get}
use Rattle.tw_machine.specs.Limits.{max_file_numbers}
use Rattle.tw_machine_declaration.specs.Seen.{Declares, table}
use Rattle.tw_machine_file.specs.Seen.{Machine}
use Rattle.tw_file_members.specs.Members.{text_at}
use Rattle.tw_file_members.specs.Named.{machine_named}

-- ---- of a machine

-- the numbers that stand in a table; what a component gives for a list is none of the machine's own
abbrev pub own : Declares → ℕ
own (table ns) = length ns
own _ = 0

abbrev pub own_numbers : Machine → ℕ
own_numbers m = sum_by (λ n. own n.1) m.declaration.names

-- ---- of a component

-- how many items a member has, where it is an array
abbrev pub length_at : List ℕ → Data → ℕ
length_at name d = option_map_or items_len (option_and_then as_array (get name d)) 0

-- what a component gives for the lists of its machine, for each once
abbrev pub given_numbers : Machine → Data → ℕ
given_numbers m d = sum_by (λ name. length_at name d) m.lists

-- the machine that a component names
abbrev pub machine_at : List Machine → Data → Option Machine
machine_at machines d = option_and_then (machine_named machines) (text_at (codes "model") d)

abbrev pub component_numbers : List Machine → Data → ℕ
component_numbers machines d = option_map_or (λ m. given_numbers m d) (machine_at machines d) 0

-- ---- of all components

abbrev pub items_sum : (Data → ℕ) → Items → ℕ
items_sum numbers no_items = 0
items_sum numbers (item d ds) = numbers d + items_sum numbers ds

-- in a model, of no more levels than there is room for
abbrev pub given_within : List Machine → ℕ → Data → ℕ
given_within machines zero d = 0
given_within machines (suc room) d =
    option_map_or (items_sum (λ c. component_numbers machines c + given_within machines room c)) (option_and_then as_array (get (codes "components") d)) 0

-- ---- of the whole file

abbrev pub numbers_in : List Machine → Data → ℕ
numbers_in machines d = sum_by own_numbers machines + given_within machines 64 d

abbrev pub has_few_numbers : List Machine → Data → Bool
has_few_numbers machines d = nat_le (numbers_in machines d) max_file_numbers
