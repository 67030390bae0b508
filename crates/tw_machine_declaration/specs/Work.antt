-- How many computations a run makes at the most, each node for itself.
use Rattle.std.specs.Prelude.{ℕ, ℤ, ◌+◌, ◌*◌, min, max, List, Option, Some, None}
use Rattle.tw_machine.specs.declared.language.Measure.TheVariants.{Sum}
use Rattle.tw_machine.specs.Values.{natural}
use Rattle.tw_machine_text.specs.Limits.{max_turns}
use Rattle.tw_machine_text.specs.declared.words.Verb.{Verb}
use Rattle.tw_machine_text.specs.declared.words.Verb.TheVariants.{Push, Insert, Remove, Put, Observe}
use Rattle.tw_machine_text.specs.declared.words.Deed.{Deed}
use Rattle.tw_machine_text.specs.declared.words.Deed.TheVariants.{Pop, Clear, Do, Stop}
use Rattle.tw_machine_text.specs.declared.words.Operator.TheVariants.{Comma}
use Rattle.tw_machine_text.specs.Tree.{Tree, Number, Name, Known, Indexed, Call, RandomBelow, Group, Negate, Not, Binary, SourceStatement, Assign, Act, Treat, Draw, Wait, Passivate, Start, Send, If, IfElse, Repeat, Block, Empty, Then, Arms, One, More}
use Rattle.tw_machine_declaration.specs.declared.functions.Function.{Function}
use Rattle.tw_machine_declaration.specs.declared.functions.Function.TheVariants.{Measured, Applied}
use Rattle.tw_machine_declaration.specs.declared.functions.Joining.TheVariants.{Place}
use Rattle.tw_machine_declaration.specs.declared.names.Standing.{Standing}
use Rattle.tw_machine_declaration.specs.declared.names.Standing.TheVariants as s
use Rattle.tw_machine_declaration.specs.Names.{standing_at}
use Rattle.tw_machine_declaration.specs.Functions.{function_of}
use Rattle.tw_machine_declaration.specs.Turns.{written_turns}

-- the room of a queue, or of each of an array
abbrev pub room_at : Standing → ℕ
room_at (s.Queue k room) = room
room_at (s.Queues span room) = room
room_at _ = 0

-- the room of the queue that stands first
abbrev pub queue_room : List Standing → Tree → ℕ
queue_room ss (Name n) = room_at (standing_at ss n)
queue_room ss (Indexed n index) = room_at (standing_at ss n)
queue_room ss (Binary Comma q e) = queue_room ss q
queue_room ss _ = 0

-- `sum` and `place` go over their queue
abbrev pub gone_over : Function → ℕ → ℕ
gone_over (Measured Sum) room = room
gone_over (Applied Place) room = room
gone_over _ room = 0

abbrev pub work : List Standing → Tree → ℕ
work ss (Number n) = 1
work ss (Name n) = 1
work ss (Known g) = 1
work ss (Indexed n e) = 1 + work ss e
work ss (Call n e) = 1 + (work ss e + gone_over (function_of n) (queue_room ss e))
work ss (RandomBelow e) = 1 + work ss e
work ss (Group e) = work ss e
work ss (Negate e) = 1 + work ss e
work ss (Not e) = 1 + work ss e
work ss (Binary Comma a b) = work ss a + work ss b
work ss (Binary op a b) = 1 + (work ss a + work ss b)

-- `insert`, `remove` and `put` move values; no `observe` stands in what is read
abbrev pub moved : Verb → ℕ → ℕ
moved Push room = 0
moved Insert room = room
moved Remove room = room
moved Put room = room
moved Observe room = 0

-- `clear` goes over its queue, `pop` does not; no `do` and no `stop` stands in what is read
abbrev pub left : Deed → ℕ → ℕ
left Pop room = 0
left Clear room = room
left Do room = 0
left Stop room = 0

-- how many turns are counted: one where a parameter says it of which nothing is given
abbrev pub counted_turns : Option ℤ → ℕ
counted_turns (Some n) = min (natural n) max_turns
counted_turns None = 1

-- the tests of an `if`
abbrev pub tests_work : List Standing → Arms → ℕ
tests_work ss (One test b) = work ss test
tests_work ss (More before test b) = tests_work ss before + work ss test

abbrev mutual
  pub statement_work : List Standing → SourceStatement → ℕ
  statement_work ss (Assign place change e) = 1 + (work ss place + work ss e)
  statement_work ss (Act verb q e) = 1 + (work ss q + work ss e + moved verb (queue_room ss q))
  statement_work ss (Treat d q) = 1 + (work ss q + left d (queue_room ss q))
  statement_work ss Draw = 1
  statement_work ss (Wait e) = 1 + work ss e
  statement_work ss Passivate = 1
  statement_work ss (Start t e) = 1 + (work ss t + work ss e)
  statement_work ss (Send e) = 1 + work ss e
  statement_work ss (If arms) = 1 + (tests_work ss arms + greatest_work ss arms)
  statement_work ss (IfElse arms last) = 1 + (tests_work ss arms + max (greatest_work ss arms) (block_work ss last))
  statement_work ss (Repeat count each) = 2 + counted_turns (written_turns ss count) * block_work ss each

  pub block_work : List Standing → Block → ℕ
  block_work ss Empty = 0
  block_work ss (Then before last marked) = block_work ss before + statement_work ss last

  -- its greatest block
  pub greatest_work : List Standing → Arms → ℕ
  greatest_work ss (One test b) = block_work ss b
  greatest_work ss (More before test b) = max (greatest_work ss before) (block_work ss b)
