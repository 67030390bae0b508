-- Lines and columns of a text, from 1. A column counts letters.
use Rattle.std.specs.Prelude.{◌≡◌, ℕ, ◌+◌, ◌≤◌, length, Bool, ◌||◌, ◌==◌, List, [], ◌∷◌, if◌then◌else◌, take, count_by, nat_lt, nat_le}
use Rattle.std.specs.List.{list_any}
use Rattle.tw_machine_text.specs.declared.refusal.TextRefused.{TextRefused}
use Rattle.tw_machine_text.specs.declared.refusal.TextRefused.TheVariants.{OutOfMemory, Wrong}

-- a byte at which a letter begins: in UTF-8 those that go on are 128 to 191
abbrev pub begins_letter : ℕ → Bool
begins_letter c = nat_lt c 128 || nat_le 192 c

abbrev pub is_newline : ℕ → Bool
is_newline c = c == 10

-- what stands behind the last newline, or all where there is none
abbrev pub last_line : List ℕ → List ℕ
last_line [] = []
last_line (c ∷ cs) = if list_any is_newline (c ∷ cs) then last_line cs else c ∷ cs

-- as many newlines stand before it
abbrev pub line_at : List ℕ → ℕ → ℕ
line_at text byte = count_by is_newline (take byte text) + 1

-- as many letters stand before it in its line
abbrev pub column_at : List ℕ → ℕ → ℕ
column_at text byte = count_by begins_letter (last_line (take byte text)) + 1

-- a refusal's place is the line and the column of a byte of the text, or of its end
abbrev pub IsInText : List ℕ → TextRefused → Type 0
IsInText text OutOfMemory = Unit {0}
IsInText text (Wrong place) = (byte : ℕ) × (byte ≤ length text) × (place.line ≡ line_at text byte) × (place.column ≡ column_at text byte)
