-- A machine's program without where its parts lie in memory: each box is nowhere. What a program does hangs on no such place.
use Rattle.std.specs.Prelude.{ℕ, Box, map, option_map}
use Rattle.std.specs.Ptr.{null_ptr}
use Rattle.std.specs.declared.alloc.Global.{Global}
use Rattle.tw_machine.specs.declared.language.Unary.{Unary}
use Rattle.tw_machine.specs.declared.language.Binary.{Binary}
use Rattle.tw_machine.specs.declared.language.Expr.{Expr}
use Rattle.tw_machine.specs.declared.language.Expr.TheVariants.{Plain, One', Two', Choose'}
use Rattle.tw_machine.specs.declared.language.Target.{Target}
use Rattle.tw_machine.specs.declared.language.Target.TheVariants.{Single, Indexed}
use Rattle.tw_machine.specs.declared.language.Position.{Position}
use Rattle.tw_machine.specs.declared.language.Position.TheVariants.{End, Sorted, Given}
use Rattle.tw_machine.specs.declared.language.Which.{Which}
use Rattle.tw_machine.specs.declared.language.Which.TheVariants.{Foremost, Chosen}
use Rattle.tw_machine.specs.declared.language.Output.{Output}
use Rattle.tw_machine.specs.declared.language.Word.{Word}
use Rattle.tw_machine.specs.declared.language.Word.TheVariants as word
use Rattle.tw_machine.specs.Program.{ProgramText}
use Rattle.tw_machine.specs.declared.language.Statement.{Statement}
use Rattle.tw_machine.specs.declared.language.Statement.TheVariants.{Skip, Then', Block', Set, Alter, Put, Take, Clear, Draw, If', Repeat', Wait, Passivate}

-- a box that lies nowhere
abbrev pub nowhere : Box (Unit {0}) Global
nowhere = record { ptr = null_ptr; alloc = record { memory = record { seal = tt } }; value = tt }

abbrev pub one : Unary → Expr → Expr
one unary a = One' unary nowhere a

abbrev pub two : Binary → Expr → Expr → Expr
two binary a b = Two' binary nowhere a nowhere b

abbrev pub choose : Expr → Expr → Expr → Expr
choose test a b = Choose' nowhere test nowhere a nowhere b

abbrev pub seen : Expr → Expr
seen (Plain leaf) = Plain leaf
seen (One' unary p a) = one unary (seen a)
seen (Two' binary p a q b) = two binary (seen a) (seen b)
seen (Choose' p test q a r b) = choose (seen test) (seen a) (seen b)

abbrev pub seen_target : Target → Target
seen_target (Single place) = Single place
seen_target (Indexed span index) = Indexed span (seen index)

abbrev pub seen_position : Position → Position
seen_position End = End
seen_position Sorted = Sorted
seen_position (Given place) = Given (seen place)

abbrev pub seen_which : Which → Which
seen_which Foremost = Foremost
seen_which (Chosen place) = Chosen (seen place)

abbrev pub both : Statement → Statement → Statement
both a b = Then' nowhere a nowhere b

abbrev pub branch : Expr → Statement → Statement → Statement
branch test a b = If' test nowhere a nowhere b

abbrev pub repeated : ℕ → Statement → Statement
repeated count a = Repeat' count nowhere a

abbrev pub seen_statement : Statement → Statement
seen_statement Skip = Skip
seen_statement (Then' p a q b) = both (seen_statement a) (seen_statement b)
seen_statement (Block' p a) = Block' nowhere (seen_statement a)
seen_statement (Set t e) = Set (seen_target t) (seen e)
seen_statement (Alter change t e) = Alter change (seen_target t) (seen e)
seen_statement (Put t position e) = Put (seen_target t) (seen_position position) (seen e)
seen_statement (Take t which) = Take (seen_target t) (seen_which which)
seen_statement (Clear t count) = Clear (seen_target t) count
seen_statement Draw = Draw
seen_statement (If' test p a q b) = branch (seen test) (seen_statement a) (seen_statement b)
seen_statement (Repeat' count p a) = repeated count (seen_statement a)
seen_statement (Wait e) = Wait (seen e)
seen_statement Passivate = Passivate

abbrev pub seen_output : Output → Output
seen_output o = record { when = option_map seen o.when; each = option_map seen_target o.each; port = seen o.port; value = seen o.value }

abbrev pub seen_word : Word → Word
seen_word (word.Number e) = word.Number (seen e)
seen_word (word.Values q) = word.Values q
seen_word (word.Cells span) = word.Cells span

abbrev pub seen_program : ProgramText → ProgramText
seen_program p =
    record {
      cells = p.cells;
      rooms = p.rooms;
      seed = p.seed;
      first = p.first;
      longest = p.longest;
      numbers = p.numbers;
      internal = seen_statement p.internal;
      external = seen_statement p.external;
      outputs = map seen_output p.outputs;
      words = map seen_word p.words;
    }
