-- The program of a machine, once the numbers of a component are put in.
use Rattle.std.specs.Prelude.{ℕ, ℤ, pos, negsuc, ◌-◌, ◌++◌, min, List, map, Option, Some, None, option_map, option_and_then, flat_map}
use Rattle.tw_machine.specs.declared.language.Leaf.TheVariants as leaf
use Rattle.tw_machine.specs.declared.language.Expr.{Expr}
use Rattle.tw_machine.specs.declared.language.Expr.TheVariants.{Plain}
use Rattle.tw_machine.specs.declared.language.Output.{Output}
use Rattle.tw_machine.specs.declared.language.Word.{Word}
use Rattle.tw_machine.specs.declared.language.Word.TheVariants as word
use Rattle.tw_machine.specs.Program.{ProgramText}
use Rattle.tw_machine.specs.Values.{brought}
use Rattle.tw_machine_text.specs.Tree.{Tree, Number, Name, Indexed}
use Rattle.tw_machine_declaration.specs.declared.declaration.Constant.{Constant}
use Rattle.tw_machine_declaration.specs.Seen.{Declaration, Given, Value, whole, tree}
use Rattle.tw_machine_declaration.specs.Seen as plain
use Rattle.tw_machine_declaration.specs.declared.names.Standing.{Standing}
use Rattle.tw_machine_declaration.specs.declared.names.Standing.TheVariants as s
use Rattle.tw_machine_declaration.specs.Names.{constant, start_of, due_ticks, earliest, cells, rooms, given_numbers, numbers, things, observation_span, standing_at, standings_of}
use Rattle.tw_machine_compiler.specs.Expressions.{number, expression, queue}
use Rattle.tw_machine_compiler.specs.Statements.{block}

-- an expression in a member
abbrev pub value : List Standing → Value → Expr
value ss (whole n) = Plain (leaf.Number n)
value ss (tree e) = expression ss e

-- an entry of what is sent
abbrev pub output : List Standing → plain.Output → Output
output ss o =
    record {
      when = option_map (value ss) o.when;
      each = option_map (queue ss) o.each;
      port = value ss o.port;
      value = value ss o.sent;
    }

-- a queue, an array register, an observation, or else an expression
abbrev pub word_named : Standing → Expr → Word
word_named (s.Queue k room) e = word.Values k
word_named (s.Cells span) e = word.Cells span
word_named (s.Observation k) e = word.Cells (observation_span k)
word_named _ e = word.Number e

-- one of an array of queues by its number, or else an expression
abbrev pub word_numbered : Standing → ℕ → Expr → Word
word_numbered (s.Queues span room) i e = word.Values (min (brought span (number i)) 4294967295)
word_numbered _ i e = word.Number e

abbrev pub word_of : List Standing → Tree → Word
word_of ss (Name n) = word_named (standing_at ss n) (expression ss (Name n))
word_of ss (Indexed n (Number i)) = word_numbered (standing_at ss n) i (expression ss (Indexed n (Number i)))
word_of ss e = word.Number (expression ss e)

abbrev pub shown_word : List Standing → Value → Word
shown_word ss (whole n) = word.Number (Plain (leaf.Number n))
shown_word ss (tree e) = word_of ss e

-- a number modulo 2^64
abbrev pub seed : ℤ → ℕ
seed (pos n) = n
seed (negsuc n) = 18446744073709551615 - n

-- a first wait; none where it is negative
abbrev pub wait : ℤ → Option ℕ
wait (pos n) = Some n
wait (negsuc n) = None

abbrev pub ticks : Given → Option Constant → Option ℕ
ticks given c = option_and_then wait (option_and_then (constant given) c)

-- the first wait; of a machine with timers it is until the first of them is due
abbrev pub first_by : Given → Option plain.Timers → Option Constant → Option ℕ
first_by given (Some ts) first = earliest (due_ticks given ts)
first_by given None first = ticks given first

abbrev pub first_wait : Given → Declaration → Option ℕ
first_wait given d = first_by given d.timers d.first

abbrev pub program_of : Given → Declaration → ProgramText
program_of given d =
    let ss = standings_of given d.names in
    record {
      cells = flat_map (cells given) (things d.names);
      rooms = flat_map (rooms given) (things d.names);
      seed = seed (start_of given d.random);
      first = first_wait given d;
      longest = ticks given d.longest;
      numbers = given_numbers given ++ flat_map numbers (things d.names);
      internal = block ss d.internal;
      external = block ss d.external;
      outputs = map (output ss) d.outputs;
      words = map (shown_word ss) d.words;
    }
