-- What the statements of a text are in the machine's language. A name that may not stand where it does is nowhere, and changes nothing.
use Rattle.std.specs.Prelude.{ℕ, ℤ, min, List, Option, Some, None}
use Rattle.tw_machine.specs.declared.language.Expr.{Expr}
use Rattle.tw_machine.specs.declared.language.Target.{Target}
use Rattle.tw_machine.specs.declared.language.Target.TheVariants.{Single, Indexed as Among}
use Rattle.tw_machine.specs.declared.language.Change.TheVariants as machine
use Rattle.tw_machine.specs.declared.language.Position.TheVariants.{End, Sorted, Given}
use Rattle.tw_machine.specs.declared.language.Which.TheVariants.{Foremost, Chosen}
use Rattle.tw_machine.specs.declared.language.Statement.{Statement}
use Rattle.tw_machine.specs.declared.language.Statement.TheVariants as m
use Rattle.tw_machine.specs.Values.{natural}
use Rattle.tw_machine_text.specs.Limits.{max_turns}
use Rattle.tw_machine_text.specs.declared.words.SourceChange.{SourceChange}
use Rattle.tw_machine_text.specs.declared.words.SourceChange.TheVariants.{Set, Add, Subtract, Xor}
use Rattle.tw_machine_text.specs.declared.words.Verb.{Verb}
use Rattle.tw_machine_text.specs.declared.words.Verb.TheVariants.{Push, Insert, Remove, Put, Observe}
use Rattle.tw_machine_text.specs.declared.words.Deed.{Deed}
use Rattle.tw_machine_text.specs.declared.words.Deed.TheVariants.{Pop, Clear, Do, Stop}
use Rattle.tw_machine_text.specs.declared.words.Operator.TheVariants.{Comma}
use Rattle.tw_machine_text.specs.Tree.{Tree, Name, Indexed, Binary, SourceStatement, Assign, Act, Treat, Draw, Wait, Passivate, Start, Send, If, IfElse, Repeat, Block, Empty, Then, Arms, One, More}
use Rattle.tw_machine_declaration.specs.declared.names.Standing.{Standing}
use Rattle.tw_machine_declaration.specs.declared.names.Standing.TheVariants as s
use Rattle.tw_machine_declaration.specs.Names.{observation_span, standing_at}
use Rattle.tw_machine_declaration.specs.Turns.{written_turns}
use Rattle.tw_machine_declaration.specs.Work.{queue_room}
use Rattle.tw_machine.specs.Seen.{both, branch, repeated}
use Rattle.tw_machine_compiler.specs.Expressions.{no_target, expression, queue}

-- a register by its name
abbrev pub cell_named : Standing → Target
cell_named (s.Cell k) = Single k
cell_named _ = no_target

-- a cell of an array register, of an observation, or of the ticks at which timers are due
abbrev pub cell_indexed : Standing → Expr → Target
cell_indexed (s.Cells span) index = Among span index
cell_indexed (s.Due span) index = Among span index
cell_indexed (s.Observation k) index = Among (observation_span k) index
cell_indexed _ index = no_target

-- the register that a statement changes
abbrev pub cell : List Standing → Tree → Target
cell ss (Name n) = cell_named (standing_at ss n)
cell ss (Indexed n index) = cell_indexed (standing_at ss n) (expression ss index)
cell ss _ = no_target

abbrev pub assigned : SourceChange → Target → Expr → Statement
assigned Set t e = m.Set t e
assigned Add t e = m.Alter machine.Add t e
assigned Subtract t e = m.Alter machine.Subtract t e
assigned Xor t e = m.Alter machine.Flip t e

-- `put` has a place, a comma and a value
abbrev pub put : List Standing → Target → Tree → Statement
put ss q (Binary Comma place e) = m.Put q (Given (expression ss place)) (expression ss e)
put ss q _ = m.Skip

-- what is done to a queue; no `observe` stands in what is read
abbrev pub acted : List Standing → Verb → Target → Tree → Statement
acted ss Push q e = m.Put q End (expression ss e)
acted ss Insert q e = m.Put q Sorted (expression ss e)
acted ss Remove q e = m.Take q (Chosen (expression ss e))
acted ss Put q e = put ss q e
acted ss Observe q e = m.Skip

-- what is done to a queue alone, of which this is the room: a queue has no more values than its room; no `do` and no `stop` stands in what is read
abbrev pub treated : Deed → Target → ℕ → Statement
treated Pop q room = m.Take q Foremost
treated Clear q room = m.Clear q room
treated Do q room = m.Skip
treated Stop q room = m.Skip

-- how often it is repeated: other numbers than 0 to 64 are refused
abbrev pub turns : Option ℤ → ℕ
turns (Some n) = min (natural n) max_turns
turns None = 0

-- no `start` and no `send` stands in what is read
abbrev mutual
  pub statement : List Standing → SourceStatement → Statement
  statement ss (Assign place change e) = assigned change (cell ss place) (expression ss e)
  statement ss (Act verb q e) = acted ss verb (queue ss q) e
  statement ss (Treat d q) = treated d (queue ss q) (queue_room ss q)
  statement ss Draw = m.Draw
  statement ss (Wait e) = m.Wait (expression ss e)
  statement ss Passivate = m.Passivate
  statement ss (Start t e) = m.Skip
  statement ss (Send e) = m.Skip
  statement ss (If arms) = chosen ss arms m.Skip
  statement ss (IfElse arms last) = chosen ss arms (block ss last)
  statement ss (Repeat count each) = repeated (turns (written_turns ss count)) (block ss each)

  pub block : List Standing → Block → Statement
  block ss Empty = m.Skip
  block ss (Then before last marked) = both (block ss before) (statement ss last)

  -- the first arm whose test is not 0, or what is done where none is
  pub chosen : List Standing → Arms → Statement → Statement
  chosen ss (One test b) last = branch (expression ss test) (block ss b) last
  chosen ss (More before test b) last = chosen ss before (branch (expression ss test) (block ss b) last)
