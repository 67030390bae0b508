-- An entry of a machine's `words`, and the numbers that entries show, without where their texts lie in memory.
use Rattle.std.specs.Prelude.{ℕ, List, Option, option_map, string_bytes}
use Rattle.std.specs.Global.{Global}
use Rattle.std.specs.declared.string.String.{String}
use Rattle.tw_figure_names.specs.Entries.{Entry}
use Rattle.tw_figure_names.specs.declared.entries.Entry as rust

abbrev pub entry : rust.Entry → Entry
entry e = (string_bytes e.text, e.shows)

-- the name of a number, if it is a figure
abbrev pub number : Option (String Global) → Option (List ℕ)
number name = option_map string_bytes name
