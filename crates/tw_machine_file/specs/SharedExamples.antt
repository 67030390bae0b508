-- What files say once: two fields and a constant, what a machine has of them, and what is wrong with others.
use Rattle.std.specs.Prelude.{◌≡◌, ◌∷◌, [], ℕ, List, pos, Option, Some, None, Ok, codes}
use Rattle.std.specs.Result.{result_err}
use Rattle.serde_json.specs.Data.{Data, string, array, object, no_items, Members, no_members, member}
use Rattle.tw_machine_declaration.specs.Seen.{fixed, field}
use Rattle.tw_machine_declaration.specs.declared.declaration.Constant.TheVariants as c
use Rattle.tw_machine_file.specs.Constants.{constant_of}
use Rattle.tw_machine_file.specs.Examples.{both, count, only}
use Rattle.tw_machine_file.specs.Fault.{Fault, wrong}
use Rattle.tw_machine_file.specs.Shared.{SharedNames, field_named, shared_in, shared_names}
use Rattle.tw_machine_file.specs.declared.fault.Part.TheVariants as part
use Rattle.tw_machine_file.specs.declared.fault.Why.TheVariants as why

-- ["size", 8]
abbrev pub bits_of : List ℕ → ℕ → Data
bits_of name bits = array (both (string name) (count bits))

abbrev pub file_of : Data → Members → Data
file_of fields constants = object (member (codes "constants") (object constants) (member (codes "fields") fields no_members))

-- {"constants": {"K": 3}, "fields": [["size", 8], ["K", 4]]}
abbrev pub said : SharedNames
said = record {
  fields = record { name = codes "size"; low = 0; bits = 8 } ∷ record { name = codes "K"; low = 8; bits = 4 } ∷ [];
  constants = (codes "K", pos 3) ∷ [];
}

abbrev pub three : Members
three = member (codes "K") (count 3) no_members

abbrev pub Says : Type 0
Says = shared_in (file_of (array (both (bits_of (codes "size") 8) (bits_of (codes "K") 4))) three) ≡ Ok said

-- the part of K is value / 256 % 16
abbrev pub Part : Type 0
Part = field_named said.fields (codes "K") ≡ Some (record { unit = 256; size = 16 })

-- a machine without names of its own has the constant and the other field by name; one with a register K has that alone, and K is no constant there
abbrev pub with_registers : Members → Data
with_registers registers = object (member (codes "registers") (object registers) no_members)

abbrev pub Left : Type 0
Left = shared_names (with_registers no_members) said ≡ (codes "K", fixed (pos 3)) ∷ (codes "size", field) ∷ []

abbrev pub Hidden : Type 0
Hidden = shared_names (with_registers (member (codes "K") (count 0) no_members)) said ≡ (codes "size", field) ∷ []

-- a name stands for a parameter, or for a constant
abbrev pub Named : Type 0
Named =
    (constant_of (record { parameters = codes "p" ∷ []; constants = said.constants }) (string (codes "K")) ≡ Some (c.Number (pos 3)))
    × (constant_of (record { parameters = codes "p" ∷ []; constants = said.constants }) (string (codes "p")) ≡ Some (c.Parameter 0))
    × (constant_of (record { parameters = []; constants = [] }) (string (codes "K")) ≡ None)

-- ---- faults

abbrev pub fault_of : Data → Members → Option Fault
fault_of fields constants = result_err (shared_in (file_of fields constants))

abbrev pub Refused : Type 0
Refused =
    -- 64 bits together, 63 alone, and none
    (fault_of (array (both (bits_of (codes "size") 62) (bits_of (codes "kind") 2))) no_members ≡ Some (wrong part.Fields why.Count))
    × (fault_of (array (only (bits_of (codes "size") 63))) no_members ≡ Some (wrong part.Fields why.Count))
    × (fault_of (array (only (bits_of (codes "size") 0))) no_members ≡ Some (wrong part.Fields why.Count))
    -- a name twice, a function's, and a word of timers
    × (fault_of (array (both (bits_of (codes "size") 2) (bits_of (codes "size") 2))) no_members ≡ Some (wrong part.Fields why.Twice))
    × (fault_of (array (only (bits_of (codes "min") 2))) no_members ≡ Some (wrong part.Fields why.Name))
    × (fault_of (array (only (bits_of (codes "start") 2))) no_members ≡ Some (wrong part.Fields why.Name))
    -- no pair; a constant that is a text, and one that is named by a word
    × (fault_of (array (only (count 2))) no_members ≡ Some (wrong part.Fields why.Shape))
    × (fault_of (array no_items) (member (codes "K") (string (codes "3")) no_members) ≡ Some (wrong part.Constants why.Shape))
    × (fault_of (array no_items) (member (codes "if") (count 3) no_members) ≡ Some (wrong part.Constants why.Name))
