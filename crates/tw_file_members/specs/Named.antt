-- The machine of a name, among those that a file declares.
--     machine_named machines name      the first that has the name
--     machine_index i machines name      its place, where the first of these machines has place i
use Rattle.std.specs.Prelude.{ℕ, ◌+◌, List, [], ◌∷◌, Option, Some, None, if◌then◌else◌}
use Rattle.std.specs.Str.{bytes_eq}
use Rattle.tw_machine_file.specs.Seen.{Machine}

-- the first machine of a name
abbrev pub machine_named : List Machine → List ℕ → Option Machine
machine_named [] name = None
machine_named (m ∷ ms) name = if bytes_eq m.name name then Some m else machine_named ms name

-- its place, counted from a place on
abbrev pub machine_index : ℕ → List Machine → List ℕ → Option ℕ
machine_index i [] name = None
machine_index i (m ∷ ms) name = if bytes_eq m.name name then Some i else machine_index (i + 1) ms name
