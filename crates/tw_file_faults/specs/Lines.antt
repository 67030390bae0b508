-- Words that are one line.
use Rattle.std.specs.Prelude.{◌≢◌, ℕ, List, All}

-- no byte of them ends a line
abbrev pub HasNoLineEnd : List ℕ → Type 0
HasNoLineEnd words = All (λ byte. byte ≢ 10) words
