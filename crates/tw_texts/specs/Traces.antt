-- What a writer holds while and after a trace is written.
--     AppendsBeginning old new whole      the writer holds a beginning of these bytes more than before
--     MovesBytes old new from to      the writer holds as many more bytes as the text has lost at its front
use Rattle.std.specs.Prelude.{◌≡◌, ◌++◌, ℕ, List, Option}
use Rattle.std.specs.Io.KnownBytes.{Appends}

abbrev pub AppendsBeginning : Option (List ℕ) → Option (List ℕ) → List ℕ → Type 0
AppendsBeginning old new whole = (done : List ℕ) × (rest : List ℕ) × Appends old new done × (done ++ rest ≡ whole)

abbrev pub MovesBytes : Option (List ℕ) → Option (List ℕ) → List ℕ → List ℕ → Type 0
MovesBytes old new from to = (moved : List ℕ) × Appends old new moved × (moved ++ to ≡ from)
