-- What is written of numbers in another way than in the core of the language: `length(t)` of a table, the numbers that are drawn by themselves, `sample(t)` and `roll(n)`, and fields of values.
use Rattle.std.specs.Prelude.{ℕ, ◌+◌, Bool, true, false, ◌&&◌, List, Option, Some, None, nat_eq, nat_le, if◌then◌else◌}
use Rattle.tw_machine_text.specs.declared.kinds.Meaning.{Meaning}
use Rattle.tw_machine_text.specs.declared.kinds.Field.{Field}
use Rattle.tw_machine_text.specs.declared.words.Operator.TheVariants.{Comma, Colon, Plus, Times, Divide, Modulo}
use Rattle.tw_machine_text.specs.Kinds.{field_of, is_table_name}
use Rattle.tw_machine_text.specs.Letters.{item_number}
use Rattle.tw_machine_text.specs.Tree.{Tree, Number, Name, Known, Indexed, Call, RandomBelow, Group, Negate, Not, Binary, SourceStatement, Assign, Act, Treat, Draw, Wait, Passivate, Start, Send, If, IfElse, Repeat, Block, Empty, Then, Arms, One, More}

-- ---- in the core

-- a number of a table that is drawn
abbrev pub sampled : Tree → Tree
sampled (Name t) = Indexed t (RandomBelow (Name t))
sampled e = e

-- the field of a value is `(e / unit % size)`, with the value in parentheses; a function stays
abbrev pub called : Option Field → ℕ → Tree → Tree
called (Some f) n e = Group (Binary Modulo (Binary Divide (Group e) (Number f.unit)) (Number f.size))
called None n e = Call n e

-- a number in its field's place is `e % size * unit`, with the number in parentheses
abbrev pub put_at : Option Field → Tree → Tree
put_at (Some f) e = Binary Times (Binary Modulo (Group e) (Number f.size)) (Number f.unit)
put_at None e = e

-- fields with their numbers are the sum of these
abbrev pub packed : List Meaning → Tree → Tree
packed kinds (Binary Colon (Name n) e) = put_at (field_of kinds n) e
packed kinds (Binary Colon (Binary Comma before (Name n)) e) = Binary Plus (packed kinds before) (put_at (field_of kinds n) e)
packed kinds e = e

-- `length(t)` of a table is its name, which stands for how many numbers it has; `sample(t)` is `t[random(length(t))]`, `roll(n)` is `random(n)`
abbrev pub core_call : List Meaning → ℕ → Tree → Tree
core_call kinds n e =
    if nat_eq n 10 then sampled e
    else if nat_eq n 11 then RandomBelow e
    else if nat_eq n 3 && is_table_name kinds e then e
    else if nat_eq n item_number then Group (packed kinds e)
    else called (field_of kinds n) n e

abbrev pub core_tree : List Meaning → Tree → Tree
core_tree kinds (Number n) = Number n
core_tree kinds (Name n) = Name n
core_tree kinds (Known g) = Known g
core_tree kinds (Indexed n e) = Indexed n (core_tree kinds e)
core_tree kinds (Call n e) = core_call kinds n (core_tree kinds e)
core_tree kinds (RandomBelow e) = RandomBelow (core_tree kinds e)
core_tree kinds (Group e) = Group (core_tree kinds e)
core_tree kinds (Negate e) = Negate (core_tree kinds e)
core_tree kinds (Not e) = Not (core_tree kinds e)
core_tree kinds (Binary op a b) = Binary op (core_tree kinds a) (core_tree kinds b)

-- ---- how many numbers are drawn

-- whether a function draws
abbrev pub is_drawing : ℕ → Bool
is_drawing n = nat_le 10 n && nat_le n 11

-- how many numbers an expression draws
abbrev pub drawn : Tree → ℕ
drawn (Number n) = 0
drawn (Name n) = 0
drawn (Known g) = 0
drawn (Indexed n e) = drawn e
drawn (Call n e) = (if is_drawing n then 1 else 0) + drawn e
drawn (RandomBelow e) = drawn e
drawn (Group e) = drawn e
drawn (Negate e) = drawn e
drawn (Not e) = drawn e
drawn (Binary op a b) = drawn a + drawn b

abbrev pub draws_none : Tree → Bool
draws_none e = nat_eq (drawn e) 0

-- at most one number is drawn in a statement or a test, and none in the index of what is changed
abbrev pub draws_few : Tree → Bool
draws_few e = nat_le (drawn e) 1

abbrev mutual
  pub few_drawn_statement : SourceStatement → Bool
  few_drawn_statement (Assign p c e) = draws_none p && draws_few e
  few_drawn_statement (Act v q e) = draws_none q && draws_few e
  few_drawn_statement (Treat d q) = draws_none q
  few_drawn_statement Draw = true
  few_drawn_statement (Wait e) = draws_few e
  few_drawn_statement Passivate = true
  few_drawn_statement (Start t e) = draws_none t && draws_few e
  few_drawn_statement (Send e) = draws_few e
  few_drawn_statement (If arms) = few_drawn_arms arms
  few_drawn_statement (IfElse arms b) = few_drawn_arms arms && few_drawn b
  few_drawn_statement (Repeat n b) = few_drawn b

  pub few_drawn : Block → Bool
  few_drawn Empty = true
  few_drawn (Then b s m) = few_drawn b && few_drawn_statement s

  pub few_drawn_arms : Arms → Bool
  few_drawn_arms (One t b) = draws_few t && few_drawn b
  few_drawn_arms (More a t b) = few_drawn_arms a && draws_few t && few_drawn b

-- ---- where `draw` stands

-- whether a number is drawn in an expression
abbrev pub draws : Tree → Bool
draws e = nat_le 1 (drawn e)

-- or in a statement, but for its blocks and tests
abbrev pub draws_in : SourceStatement → Bool
draws_in (Assign p c e) = draws e
draws_in (Act v q e) = draws e
draws_in (Wait e) = draws e
draws_in (Start t e) = draws e
draws_in (Send e) = draws e
draws_in _ = false

-- or in the last of the tests of an `if`
abbrev pub draws_last : Arms → Bool
draws_last (One t b) = draws t
draws_last (More a t b) = draws t

-- what a block begins with: `draw`, where the test before it draws
abbrev pub begun : Bool → Block
begun true = Then Empty Draw false
begun false = Empty
