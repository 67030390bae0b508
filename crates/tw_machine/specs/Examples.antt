-- What the language says where one might guess otherwise, computed: division of negative numbers, places past an end, and what the items of a bag read.
use Rattle.std.specs.Prelude.{◌≡◌, ℕ, ℤ, pos, negsuc, List, [], ◌∷◌, Option, Some, None}
use Rattle.tw_machine.specs.declared.language.Span.{Span}
use Rattle.tw_machine.specs.declared.language.Leaf.TheVariants as leaf
use Rattle.tw_machine.specs.declared.language.Unary.TheVariants as unary
use Rattle.tw_machine.specs.declared.language.Binary.{Binary}
use Rattle.tw_machine.specs.declared.language.Binary.TheVariants as binary
use Rattle.tw_machine.specs.declared.language.Expr.{Expr}
use Rattle.tw_machine.specs.declared.language.Expr.TheVariants.{Plain}
use Rattle.tw_machine.specs.declared.language.Target.TheVariants.{Single}
use Rattle.tw_machine.specs.declared.language.Position.TheVariants.{Given}
use Rattle.tw_machine.specs.declared.language.Statement.{Statement}
use Rattle.tw_machine.specs.declared.language.Statement.TheVariants.{Set, Put, Clear, Wait}
use Rattle.tw_machine.specs.declared.memory.State.{State}
use Rattle.tw_machine.specs.Memory.{MemoryValue}
use Rattle.tw_machine.specs.Values.{value_of}
use Rattle.tw_machine.specs.Running.{run}
use Rattle.tw_machine.specs.Undoing.{kept, past, undone}
use Rattle.tw_machine.specs.Program.{ProgramText}
use Rattle.tw_machine.specs.Machine.{machine_meaning, machine_ext, own_input, sent}
use Rattle.tw_machine.specs.Seen.{one, two}

abbrev pub number : ℤ → Expr
number n = Plain (leaf.Number n)

-- a plain register, an array register of two, and a queue with room for three
abbrev pub memory_with : List ℤ → MemoryValue
memory_with values = record { cells = pos 10 ∷ pos 20 ∷ pos 30 ∷ []; queues = record { items = values; room = 3 } ∷ []; random = 0 }

-- what an expression is there, beside a table of three numbers
abbrev pub computes : Expr → ℤ
computes e = value_of e (pos 7 ∷ pos 8 ∷ pos 9 ∷ []) (own_input 0 0) (memory_with [])

-- ---- quotients and remainders

abbrev pub divides : Binary → ℤ → ℤ → ℤ
divides binary a b = computes (two binary (number a) (number b))

-- -7 / 2, -7 % 2, -8 / 2, -8 % 2, -1 / 2
pub record Divides : Type 0 where
  pub quotient : divides binary.Over (negsuc 6) (pos 2) ≡ negsuc 3
  pub remainder : divides binary.Rest (negsuc 6) (pos 2) ≡ pos 1
  pub even : divides binary.Over (negsuc 7) (pos 2) ≡ negsuc 3
  pub nothing_left : divides binary.Rest (negsuc 7) (pos 2) ≡ pos 0
  pub least : divides binary.Over (negsuc 0) (pos 2) ≡ negsuc 0

-- 7 / -2, 7 % -2, 7 / 0, 7 % 0
pub record DividesByNone : Type 0 where
  pub quotient : divides binary.Over (pos 7) (negsuc 1) ≡ pos 0
  pub remainder : divides binary.Rest (pos 7) (negsuc 1) ≡ pos 0
  pub by_zero : divides binary.Over (pos 7) (pos 0) ≡ pos 0
  pub rest_by_zero : divides binary.Rest (pos 7) (pos 0) ≡ pos 0

-- ---- places past an end

abbrev pub pair : Span
pair = record { first = 1; count = 2 }

abbrev pub table : Span
table = record { first = 0; count = 3 }

abbrev pub cell_at : ℤ → ℤ
cell_at index = computes (one (unary.Cell pair) (number index))

abbrev pub table_at : ℤ → ℤ
table_at index = computes (one (unary.Table table) (number index))

-- an index before the first place of an array or a table is the first, one past the last is the last
pub record Indexes : Type 0 where
  pub before : cell_at (negsuc 4) ≡ pos 20
  pub inside : cell_at (pos 1) ≡ pos 30
  pub past : cell_at (pos 2) ≡ pos 30
  pub table_before : table_at (negsuc 0) ≡ pos 7
  pub table_past : table_at (pos 3) ≡ pos 9

abbrev pub state_with : List ℤ → State
state_with values = record { memory = memory_with values; time = 0; left = None }

-- the queue after put q place, 5
abbrev pub put_at : ℤ → List ℤ → State
put_at place values = run (Put (Single 0) (Given (number place)) (number (pos 5))) [] (own_input 0 0) (state_with values)

-- `put` past the end, before the front, and into a full queue
pub record Puts : Type 0 where
  pub past : put_at (pos 9) (pos 1 ∷ pos 2 ∷ []) ≡ state_with (pos 1 ∷ pos 2 ∷ pos 5 ∷ [])
  pub before : put_at (negsuc 0) (pos 1 ∷ pos 2 ∷ []) ≡ state_with (pos 5 ∷ pos 1 ∷ pos 2 ∷ [])
  pub full : put_at (pos 0) (pos 1 ∷ pos 2 ∷ pos 3 ∷ []) ≡ state_with (pos 1 ∷ pos 2 ∷ pos 3 ∷ [])

-- `clear` on a queue of two, with room for three
abbrev pub clears : Statement
clears = Clear (Single 0) 3

abbrev pub two_values : List ℤ
two_values = pos 1 ∷ pos 2 ∷ []

-- the queue is empty, and how many there were and their values are kept, by which they come back in their order
pub record Clears : Type 0 where
  pub empties : run clears [] (own_input 0 0) (state_with two_values) ≡ state_with []
  pub keeps : kept clears [] (own_input 0 0) (state_with two_values) [] ≡ pos 2 ∷ two_values
  pub back : undone clears [] (own_input 0 0) (past (memory_with []) (pos 2 ∷ two_values)) ≡ past (memory_with two_values) []

-- ---- what is sent for each value of a queue

-- on the port of its turn, where the condition holds
abbrev pub sent_each : Option Expr → List (ℕ × ℤ)
sent_each when = sent (record { when = when; each = Some (Single 0); port = Plain leaf.Turn; value = Plain leaf.Value } ∷ []) [] (own_input 0 0) (memory_with two_values)

-- `turn` is the place of the value in the queue, whether those before it are sent or not
pub record Turns : Type 0 where
  pub all : sent_each None ≡ (0, pos 1) ∷ (1, pos 2) ∷ []
  pub some : sent_each (Some (Plain leaf.Turn)) ≡ (1, pos 2) ∷ []

-- ---- what the items of a bag read

-- a register `a`: for each item a = 100 * a + this, and `wait 9` when the time is up
abbrev pub notes : Expr → ProgramText
notes read =
    record {
      cells = pos 0 ∷ [];
      rooms = [];
      seed = 0;
      first = Some 4;
      longest = None;
      numbers = [];
      internal = Wait (number (pos 9));
      external = Set (Single 0) (two binary.Plus (two binary.Times (number (pos 100)) (Plain (leaf.Register 0))) read);
      outputs = [];
      words = [];
    }

-- at tick 0, with so many ticks left
abbrev pub noted : ℤ → ℕ → ℕ → State
noted a time left = record { memory = record { cells = a ∷ []; queues = []; random = 5 }; time = time; left = Some left }

abbrev pub two_items : List (ℕ × ℤ)
two_items = (0, pos 5) ∷ (1, pos 6) ∷ []

-- three ticks after the last transition, one before the next: `elapsed` is 3 for the first item and 0 for the second, `left` is 1 for both
pub record External : Type 0 where
  pub elapsed : machine_ext (notes (Plain leaf.Elapsed)) (noted (pos 0) 7 4) 3 two_items ≡ noted (pos 300) 10 1
  pub left : machine_ext (notes (Plain leaf.Left)) (noted (pos 0) 7 4) 3 two_items ≡ noted (pos 101) 10 1
  pub now : machine_ext (notes (Plain leaf.Now)) (noted (pos 0) 7 4) 3 two_items ≡ noted (pos 1010) 10 1

abbrev pub confluent : Expr → State
confluent read = (machine_meaning (notes read)).con (noted (pos 0) 7 4) 4 two_items

-- in a confluent transition `left` is as `internal` left it and `elapsed` is 0, for both items
pub record Confluent : Type 0 where
  pub left : confluent (Plain leaf.Left) ≡ noted (pos 909) 11 9
  pub elapsed : confluent (Plain leaf.Elapsed) ≡ noted (pos 0) 11 9
