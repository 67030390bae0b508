-- Constants: whole numbers of 64 bits with a sign, names of parameters that are numbers, and of constants of the file.
use Rattle.std.specs.Prelude.{◌∷◌, [], ℕ, ℤ, List, Bool, true, Option, Some, None, map, option_and_then, option_map, string_bytes, Result, Ok, if◌then◌else◌}
use Rattle.std.specs.Option.{option_or}
use Rattle.serde_json.specs.Data.{Data, Items, no_items, item}
use Rattle.serde_json.specs.Find.{as_i64, as_number, as_str}
use Rattle.tw_machine_text.specs.Letters.{same_text}
use Rattle.tw_machine_text.specs.Text.{position}
use Rattle.tw_machine_compiler.specs.Limits.{is_up_to}
use Rattle.tw_machine_declaration.specs.declared.declaration.Constant.{Constant}
use Rattle.tw_machine_declaration.specs.declared.declaration.Constant.TheVariants as c
use Rattle.tw_machine_file.specs.Fault.{Fault, wrong, once, with_rest, expected, provided}
use Rattle.tw_machine_file.specs.declared.constants.Numbers as rust
use Rattle.tw_machine_file.specs.declared.shared.FileConstant.{FileConstant}
use Rattle.tw_machine_file.specs.declared.fault.Part.{Part}
use Rattle.tw_machine_file.specs.declared.fault.Why.TheVariants as why

-- a whole number that fits 64 bits with a sign
abbrev pub whole_of : Data → Option ℤ
whole_of d = option_and_then as_i64 (as_number d)

-- a constant of a file: its name, and its number
abbrev pub file_constant : FileConstant → List ℕ × ℤ
file_constant c = (string_bytes c.name, c.number)

-- the names that may stand for a number: of the parameters that are numbers, in order, and of the file's constants
pub record Numbers : Type 0 where
  pub parameters : List (List ℕ)
  pub constants : List (List ℕ × ℤ)

abbrev pub numbers_in : rust.Numbers → Numbers
numbers_in n = record { parameters = map string_bytes n.parameters.items; constants = map file_constant n.constants.items }

-- the number of this name
abbrev pub number_named : List (List ℕ × ℤ) → List ℕ → Option ℤ
number_named [] name = None
number_named (c ∷ cs) name = if same_text c.0 name then Some c.1 else number_named cs name

-- what a name stands for: a parameter by its place, or the number of a constant
abbrev pub constant_named : Numbers → List ℕ → Option Constant
constant_named numbers name = option_or (option_map c.Parameter (position 0 numbers.parameters name)) (option_map c.Number (number_named numbers.constants name))

-- a whole number, or a name that stands for one
abbrev pub constant_of : Numbers → Data → Option Constant
constant_of numbers d = option_or (option_map c.Number (whole_of d)) (option_and_then (constant_named numbers) (as_str d))

abbrev pub constant : Part → Numbers → Data → Result Constant Fault
constant part numbers d = expected part why.Constant (constant_of numbers d)

-- whether a constant is from 1 to this, as far as its number stands in the file
abbrev pub is_within : ℕ → Constant → Bool
is_within most (c.Number n) = is_up_to most n
is_within most (c.Parameter k) = true

-- a constant from 1 to this
abbrev pub count : Part → ℕ → Numbers → Data → Result Constant Fault
count part most numbers d = once (constant part numbers d) (λ n. provided (is_within most n) (wrong part why.Count) n)

-- each item a constant
abbrev pub constants : Part → Numbers → Items → Result (List Constant) Fault
constants part numbers no_items = Ok []
constants part numbers (item d ds) = with_rest (constant part numbers d) (constants part numbers ds)

-- each item a whole number
abbrev pub wholes : Part → Items → Result (List ℤ) Fault
wholes part no_items = Ok []
wholes part (item d ds) = with_rest (expected part why.Shape (whole_of d)) (wholes part ds)
