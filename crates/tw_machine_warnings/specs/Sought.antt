-- What is looked for in the texts of a machine, in the core of the language: procedures are put in, and `draw` stands behind what `sample` and `roll` stand for.
--     in_tree s e, in_block s b      it stands somewhere in an expression, in a program
use Rattle.std.specs.Prelude.{ℕ, ◌==◌, Bool, true, false, not, ◌&&◌, ◌||◌, Option, Some, None, nat_le, nat_lt}
use Rattle.tw_machine_text.specs.declared.words.Builtin.TheVariants as word
use Rattle.tw_machine_text.specs.declared.words.Operator.TheVariants.{Minus}
use Rattle.tw_machine_text.specs.Tree.{Tree, Number, Name, Known, Indexed, Call, RandomBelow, Group, Negate, Not, Binary, SourceStatement, Assign, Act, Treat, Draw, Wait, Passivate, Start, Send, If, IfElse, Repeat, Block, Empty, Then, Arms, One, More}
use Rattle.tw_machine_warnings.specs.declared.sought.Called.{Called}
use Rattle.tw_machine_warnings.specs.declared.sought.Sought.{Sought}
use Rattle.tw_machine_warnings.specs.declared.sought.Sought.TheVariants.{Random, Value, Left, Named, Outside, Chance}

-- ---- numbers that stand in a text

-- a number, maybe in parentheses
abbrev pub number_in : Tree → Option ℕ
number_in (Number n) = Some n
number_in (Group e) = number_in e
number_in _ = None

abbrev pub is_some_positive : Option ℕ → Bool
is_some_positive (Some n) = nat_le 1 n
is_some_positive None = false

abbrev pub is_some_less : Option ℕ → Option ℕ → Bool
is_some_less (Some a) (Some b) = nat_lt a b
is_some_less _ _ = false

-- a number below zero: one with a sign, or a difference of two numbers
abbrev pub is_below_zero : Tree → Bool
is_below_zero (Group e) = is_below_zero e
is_below_zero (Negate e) = is_some_positive (number_in e)
is_below_zero (Binary Minus a b) = is_some_less (number_in a) (number_in b)
is_below_zero _ = false

abbrev pub is_some_from : ℕ → Option ℕ → Bool
is_some_from many (Some n) = nat_le many n
is_some_from many None = false

-- a number that is no place among so many, counted from 0
abbrev pub is_outside : ℕ → Tree → Bool
is_outside many e = is_below_zero e || is_some_from many (number_in e)

abbrev pub is_some_other : ℕ → Option ℕ → Bool
is_some_other many (Some n) = not (n == many)
is_some_other many None = false

-- a place by chance, but of another number of places
abbrev pub is_other_chance : ℕ → Tree → Bool
is_other_chance many (RandomBelow e) = is_some_other many (number_in e)
is_other_chance many _ = false

-- ---- in expressions

-- a name is called by its own number; one that is also that of a function, by the function's
abbrev pub is_called : Called → ℕ → Bool
is_called c n = n == c.number || n == c.function

abbrev pub is_random : Tree → Bool
is_random (Known word.Random) = true
is_random (RandomBelow e) = true
is_random _ = false

abbrev pub is_value : Tree → Bool
is_value (Known word.Value) = true
is_value _ = false

abbrev pub is_left : Tree → Bool
is_left (Known word.Left) = true
is_left _ = false

abbrev pub is_name : Called → Tree → Bool
is_name c (Name n) = is_called c n
is_name c (Indexed n i) = is_called c n
is_name c _ = false

abbrev pub is_place_outside : Called → ℕ → Tree → Bool
is_place_outside c many (Indexed n i) = is_called c n && is_outside many i
is_place_outside c many _ = false

abbrev pub is_place_by_chance : Called → ℕ → Tree → Bool
is_place_by_chance c many (Indexed n i) = is_called c n && is_other_chance many i
is_place_by_chance c many _ = false

-- an expression, apart from those that it is made of
abbrev pub is_sought : Sought → Tree → Bool
is_sought Random e = is_random e
is_sought Value e = is_value e
is_sought Left e = is_left e
is_sought (Named c) e = is_name c e
is_sought (Outside c many) e = is_place_outside c many e
is_sought (Chance c many) e = is_place_by_chance c many e

abbrev pub in_tree : Sought → Tree → Bool
in_tree s (Number n) = false
in_tree s (Name n) = is_sought s (Name n)
in_tree s (Known g) = is_sought s (Known g)
in_tree s (Indexed n e) = is_sought s (Indexed n e) || in_tree s e
in_tree s (Call n e) = in_tree s e
in_tree s (RandomBelow e) = is_sought s (RandomBelow e) || in_tree s e
in_tree s (Group e) = in_tree s e
in_tree s (Negate e) = in_tree s e
in_tree s (Not e) = in_tree s e
in_tree s (Binary op a b) = in_tree s a || in_tree s b

-- ---- in programs

-- a register or a queue that is changed is not read by that
abbrev pub is_sought_changed : Sought → Tree → Bool
is_sought_changed (Named c) e = false
is_sought_changed s e = is_sought s e

-- what is changed: its index is read
abbrev pub in_changed : Sought → Tree → Bool
in_changed s (Indexed n e) = is_sought_changed s (Indexed n e) || in_tree s e
in_changed s _ = false

abbrev mutual
  pub in_statement : Sought → SourceStatement → Bool
  in_statement s (Assign p c e) = in_changed s p || in_tree s e
  in_statement s (Act v q e) = in_changed s q || in_tree s e
  in_statement s (Treat d q) = in_changed s q
  in_statement s Draw = false
  in_statement s (Wait e) = in_tree s e
  in_statement s Passivate = false
  in_statement s (Start timer e) = in_changed s timer || in_tree s e
  in_statement s (Send e) = in_tree s e
  in_statement s (If arms) = in_arms s arms
  in_statement s (IfElse arms last) = in_arms s arms || in_block s last
  in_statement s (Repeat count each) = in_tree s count || in_block s each

  pub in_block : Sought → Block → Bool
  in_block s Empty = false
  in_block s (Then before last marked) = in_block s before || in_statement s last

  pub in_arms : Sought → Arms → Bool
  in_arms s (One test b) = in_tree s test || in_block s b
  in_arms s (More before test b) = in_arms s before || (in_tree s test || in_block s b)
