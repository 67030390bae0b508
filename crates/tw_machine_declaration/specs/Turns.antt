-- How often a block is repeated, as it is written.
use Rattle.std.specs.Prelude.{ℤ, pos, List, Option, Some, None}
use Rattle.tw_machine_text.specs.Tree.{Tree, Number, Name}
use Rattle.tw_machine_declaration.specs.declared.names.Standing.{Standing}
use Rattle.tw_machine_declaration.specs.declared.names.Standing.TheVariants as s
use Rattle.tw_machine_declaration.specs.Names.{standing_at}

-- the number of a parameter, if it is given
abbrev pub number_of : Standing → Option ℤ
number_of (s.Number n) = Some n
number_of _ = None

-- how often a block is repeated, as it is written; none where a parameter says it of which nothing is given
abbrev pub written_turns : List Standing → Tree → Option ℤ
written_turns ss (Number n) = Some (pos n)
written_turns ss (Name n) = number_of (standing_at ss n)
written_turns ss _ = None
