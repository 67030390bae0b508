-- The bytes of a network's file with other numbers.
--     json_in bytes      the JSON value that UTF-8 writes; a value nested deeper than 127 levels is none
--     IsFileWith s bytes file      the file writes the value of the bytes with these settings; bytes that write none stay as they are
use Rattle.std.specs.Prelude.{◌≡◌, ℕ, List, Option, None, Some, if◌then◌else◌}
use Rattle.std.specs.Str.{is_utf8}
use Rattle.serde_json.specs.Data.{Data}
use Rattle.serde_json.specs.Read.{read}
use Rattle.tw_file_settings.specs.Set.{set}
use Rattle.tw_file_settings.specs.declared.settings.Settings.{Settings}

abbrev pub json_in : List ℕ → Option Data
json_in bytes = if is_utf8 bytes then read bytes else None

-- by what the bytes write
abbrev pub IsFileBy : Settings → Option Data → List ℕ → List ℕ → Type 0
IsFileBy s None bytes file = file ≡ bytes
IsFileBy s (Some d) bytes file = (e : Data) × (set s d ≡ Some e) × (json_in file ≡ Some e)

abbrev pub IsFileWith : Settings → List ℕ → List ℕ → Type 0
IsFileWith s bytes file = IsFileBy s (json_in bytes) bytes file

-- two such files write one value
abbrev pub HasOneValue : Settings → Type 0
HasOneValue s = (bytes file other : List ℕ) → IsFileWith s bytes file → IsFileWith s bytes other → json_in file ≡ json_in other

-- they write a value in which there is no such parameter
abbrev pub HasNoFile : Settings → List ℕ → Type 0
HasNoFile s bytes = (d : Data) × (json_in bytes ≡ Some d) × (set s d ≡ None)
