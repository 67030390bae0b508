-- Words of a line, without the byte that parts them.
--     IsFree c word      no byte of a word is c
use Rattle.std.specs.Prelude.{◌<◌, ◌≢◌, ℕ, List, length, get_or}

abbrev pub IsFree : ℕ → List ℕ → Type 0
IsFree c word = (i : ℕ) → i < length word → get_or word i 0 ≢ c
