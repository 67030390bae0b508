-- The limits of a text, by name.
use Rattle.std.specs.Prelude.{ℕ}

-- the most nodes of all texts of a machine together, and where counting them ends
abbrev pub max_nodes : ℕ
max_nodes = 4096

abbrev pub nodes_end : ℕ
nodes_end = 4097

-- how deep blocks, parentheses, brackets, `not` and signs may stand in one another
abbrev pub max_levels : ℕ
max_levels = 64

-- where counting them ends
abbrev pub levels_end : ℕ
levels_end = 65

-- the same of a text as it is written, before it is in the core: `length(t)` of a table is a level and a node more there. Where the core of a text is within its limits, so is the text, unless it runs very many procedures that are empty
abbrev pub written_levels : ℕ
written_levels = 65

abbrev pub written_nodes : ℕ
written_nodes = 8192

-- how many timers may be alike
abbrev pub max_count : ℕ
max_count = 16

-- in how many ticks a timer is due at most: one past the greatest tick
abbrev pub last_due : ℕ
last_due = 1099511627775

-- how often a block may be repeated
abbrev pub max_turns : ℕ
max_turns = 64

-- the longest name, in bytes
abbrev pub max_name : ℕ
max_name = 32
