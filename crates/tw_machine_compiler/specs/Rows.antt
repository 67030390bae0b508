-- Which words are rows of values, a queue's, an array register's or an observation's, and whether one stands there twice.
use Rattle.std.specs.Prelude.{ℕ, ◌-◌, min, Bool, false, ◌&&◌, ◌||◌, ◌==◌, List, [], ◌∷◌, Option, Some, None, filter_map, if◌then◌else◌}
use Rattle.tw_machine.specs.declared.language.Span.{Span}
use Rattle.tw_machine_text.specs.Tree.{Tree, Number, Name, Indexed}
use Rattle.tw_machine_declaration.specs.Seen.{Value, whole, tree}
use Rattle.tw_machine_declaration.specs.declared.names.Standing.{Standing}
use Rattle.tw_machine_declaration.specs.declared.names.Standing.TheVariants as s
use Rattle.tw_machine_compiler.specs.declared.rows.Row.{Row}
use Rattle.tw_machine_declaration.specs.Names.{standing_at}

-- which queue of an array a number says: past the end the last; where it is not given how many there are, each another
abbrev pub which : Span → ℕ → ℕ
which span i = if span.count == 0 then i else min i (span.count - 1)

abbrev pub row_named : ℕ → Standing → Option Row
row_named n (s.Queue k room) = Some (record { name = n; index = 0 })
row_named n (s.Cells span) = Some (record { name = n; index = 0 })
row_named n (s.Observation k) = Some (record { name = n; index = 0 })
row_named n _ = None

abbrev pub row_numbered : ℕ → ℕ → Standing → Option Row
row_numbered n i (s.Queues span room) = Some (record { name = n; index = which span i })
row_numbered n i _ = None

-- a queue, one of an array of queues by its number, an array register or an observation; an expression is none
abbrev pub row_of : List Standing → Tree → Option Row
row_of ss (Name n) = row_named n (standing_at ss n)
row_of ss (Indexed n (Number i)) = row_numbered n i (standing_at ss n)
row_of ss _ = None

abbrev pub shown_row : List Standing → Value → Option Row
shown_row ss (whole n) = None
shown_row ss (tree e) = row_of ss e

abbrev pub same_row : Row → Row → Bool
same_row a b = a.name == b.name && a.index == b.index

abbrev pub among : Row → List Row → Bool
among a [] = false
among a (b ∷ rows) = same_row a b || among a rows

abbrev pub twice : List Row → Bool
twice [] = false
twice (a ∷ rows) = among a rows || twice rows

-- the rows among the words
abbrev pub rows : List Standing → List Value → List Row
rows ss words = filter_map (shown_row ss) words
