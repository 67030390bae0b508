-- Where the random numbers of components start.
--     starts_within machines room path prefix d      of the components of a model, depth first
--     same_starts before starts      those that start as one before them
use Rattle.std.specs.Prelude.{◌++◌, ◌∷◌, [], ℕ, zero, suc, ℤ, List, Bool, Option, Some, None, codes, option_and_then, slice_index_or, if◌then◌else◌}
use Rattle.std.specs.List.{list_any}
use Rattle.std.specs.Ordering.{int_eq}
use Rattle.serde_json.specs.Data.{Data}
use Rattle.tw_machine_declaration.specs.declared.declaration.Constant.{Constant}
use Rattle.tw_machine_declaration.specs.declared.declaration.Constant.TheVariants as c
use Rattle.tw_machine_file.specs.Seen.{Machine}
use Rattle.tw_file_members.specs.Members.{items_in, value_at}
use Rattle.tw_file_members.specs.Tables.{machine_at}
use Rattle.tw_machine_warnings.specs.Texts.{in_machine}
use Rattle.tw_machine_warnings.specs.Warning.{Warning, where_so}
use Rattle.tw_machine_warnings.specs.declared.sought.Sought.TheVariants.{Random}
use Rattle.tw_machine_warnings.specs.declared.warning.Kind.TheVariants.{SameStart}
use Rattle.tw_file_warnings.specs.Places.{component_place, of_each, path_in, prefix_in}

-- a component, and the constant that its random numbers are mixed from
abbrev pub Start : Type 0
Start = List ℕ × ℤ

abbrev pub constant_of : Machine → Constant → Data → Option ℤ
constant_of m (c.Number n) d = Some n
constant_of m (c.Parameter k) d = value_at (slice_index_or m.numbers k []) d

-- of a machine that reads random numbers
abbrev pub start_of : Data → Machine → Option ℤ
start_of d m = if in_machine Random m.declaration then constant_of m m.declaration.random d else None

abbrev pub start_at : List ℕ → Option ℤ → List Start
start_at place (Some n) = (place, n) ∷ []
start_at place None = []

abbrev pub own_start : List Machine → List ℕ → Data → List Start
own_start machines place d = start_at place (option_and_then (start_of d) (machine_at machines d))

-- of no more levels than there is room for
abbrev pub starts_within : List Machine → ℕ → List ℕ → List ℕ → Data → List Start
starts_within machines zero path prefix d = []
starts_within machines (suc room) path prefix d =
    of_each (λ i c. own_start machines (component_place path prefix i c) c ++ starts_within machines room (path_in path i) (prefix_in prefix c) c) 0 (items_in (codes "components") d)

abbrev pub is_start : ℤ → Start → Bool
is_start n s = int_eq s.1 n

abbrev pub same_starts : List Start → List Start → List Warning
same_starts before [] = []
same_starts before (s ∷ ss) = where_so (list_any (is_start s.1) before) s.0 SameStart ++ same_starts (before ++ s ∷ []) ss
