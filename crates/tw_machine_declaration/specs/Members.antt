-- What the members of a machine cost: nodes, and computations.
use Rattle.std.specs.Prelude.{ℕ, ◌+◌, ◌*◌, List, sum_by, Option, Some, None}
use Rattle.tw_machine.specs.Limits.{observation_cells}
use Rattle.tw_machine_text.specs.Tree.{Tree, Number, Name, Indexed, nodes, nodes_block}
use Rattle.tw_machine_declaration.specs.Seen.{Declaration, Output, Value, whole, tree}
use Rattle.tw_machine_declaration.specs.declared.names.Standing.{Standing}
use Rattle.tw_machine_declaration.specs.declared.names.Standing.TheVariants as s
use Rattle.tw_machine_declaration.specs.Names.{standing_at}
use Rattle.tw_machine_declaration.specs.Work.{room_at, queue_room, work}

-- how many nodes the programs, the outputs and the words have; a whole number is one
abbrev pub value_nodes : Value → ℕ
value_nodes (whole n) = 1
value_nodes (tree e) = nodes e

abbrev pub when_nodes : Option Value → ℕ
when_nodes (Some e) = value_nodes e
when_nodes None = 0

abbrev pub each_nodes : Option Tree → ℕ
each_nodes (Some q) = nodes q
each_nodes None = 0

abbrev pub output_nodes : Output → ℕ
output_nodes o = value_nodes o.port + value_nodes o.sent + when_nodes o.when + each_nodes o.each

abbrev pub all_nodes : Declaration → ℕ
all_nodes d = nodes_block d.internal + nodes_block d.external + sum_by output_nodes d.outputs + sum_by value_nodes d.words

-- computations of a member
abbrev pub value_work : List Standing → Value → ℕ
value_work ss (whole n) = 1
value_work ss (tree e) = work ss e

abbrev pub when_work : List Standing → Option Value → ℕ
when_work ss (Some e) = value_work ss e
when_work ss None = 0

-- the queue that an output goes over is named once for each of its places
abbrev pub each_work : List Standing → Option Tree → ℕ
each_work ss (Some q) = work ss q
each_work ss None = 0

abbrev pub once_work : List Standing → Output → ℕ
once_work ss o = value_work ss o.port + value_work ss o.sent + when_work ss o.when + each_work ss o.each

-- how often an output is sent: for each place of its queue's room, or once
abbrev pub sendings : List Standing → Option Tree → ℕ
sendings ss (Some q) = queue_room ss q
sendings ss None = 1

abbrev pub output_work : List Standing → Output → ℕ
output_work ss o = sendings ss o.each * once_work ss o

-- a queue that is shown counts its room more, an array register and an observation their cells
abbrev pub shown_over : Standing → ℕ
shown_over (s.Queue k room) = room
shown_over (s.Cells span) = span.count
shown_over (s.Observation k) = observation_cells
shown_over _ = 0

abbrev pub word_over : List Standing → Tree → ℕ
word_over ss (Name n) = shown_over (standing_at ss n)
word_over ss (Indexed n (Number i)) = room_at (standing_at ss n)
word_over ss _ = 0

abbrev pub word_work : List Standing → Value → ℕ
word_work ss (whole n) = 1
word_work ss (tree e) = work ss e + word_over ss e
