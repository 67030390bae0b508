-- What an expression is, which words it has, and where it may stand.
use Rattle.std.specs.Prelude.{◌≡◌, ℕ, suc, ◌+◌, ◌<◌, ◌≤◌, max, Bool, true, false, ◌&&◌, ◌||◌, List, [], ◌∷◌, nat_eq, nat_le, nat_lt, if◌then◌else◌, slice_index}
use Rattle.tw_machine_text.specs.declared.words.Operator.{Operator}
use Rattle.tw_machine_text.specs.declared.words.Operator.TheVariants.{Comma, Colon, Or, And, Equal, NotEqual, Less, LessEqual, Greater, GreaterEqual, Plus, Minus, Times, Divide, Modulo}
use Rattle.tw_machine_text.specs.declared.words.Builtin.{Builtin}
use Rattle.tw_machine_text.specs.declared.words.Builtin.TheVariants.{Random}
use Rattle.tw_machine_text.specs.declared.words.SourceChange.{SourceChange}
use Rattle.tw_machine_text.specs.declared.words.Verb.{Verb}
use Rattle.tw_machine_text.specs.declared.words.Verb.TheVariants.{Push, Insert, Remove, Put, Observe}
use Rattle.tw_machine_text.specs.declared.words.Deed.{Deed}
use Rattle.tw_machine_text.specs.declared.words.Word.{Word}
use Rattle.tw_machine_text.specs.declared.words.Word.TheVariants as word
use Rattle.tw_machine_text.specs.Letters.{in_number, item_number, own_names}
use Rattle.tw_machine_text.specs.Limits.{max_nodes}

-- An expression as it is written: a pair of parentheses is a part of it.
pub data Tree : Type 0 where
  Number : (n : ℕ) → Tree
  Name : (n : ℕ) → Tree
  Known : (builtin : Builtin) → Tree
  Indexed : (n : ℕ) (index : Tree) → Tree
  Call : (n : ℕ) (arguments : Tree) → Tree
  RandomBelow : (below : Tree) → Tree
  Group : (e : Tree) → Tree
  Negate : (e : Tree) → Tree
  Not : (e : Tree) → Tree
  Binary : (op : Operator) (a b : Tree) → Tree

-- its words, and those that follow
abbrev pub spelled : Tree → List Word → List Word
spelled (Number n) ws = word.Number n ∷ ws
spelled (Name n) ws = word.Name n ∷ ws
spelled (Known g) ws = word.Known g ∷ ws
spelled (Indexed n e) ws = word.Name n ∷ word.OpenBracket ∷ spelled e (word.CloseBracket ∷ ws)
spelled (Call n e) ws = word.Name n ∷ word.Open ∷ spelled e (word.Close ∷ ws)
spelled (RandomBelow e) ws = word.Known Random ∷ word.Open ∷ spelled e (word.Close ∷ ws)
spelled (Group e) ws = word.Open ∷ spelled e (word.Close ∷ ws)
spelled (Negate e) ws = word.Sign Minus ∷ spelled e ws
spelled (Not e) ws = word.Not ∷ spelled e ws
spelled (Binary op a b) ws = spelled a (word.Sign op ∷ spelled b ws)

-- how tightly an operator binds
abbrev pub rank : Operator → ℕ
rank Comma = 0
rank Colon = 0
rank Or = 1
rank And = 2
rank Equal = 4
rank NotEqual = 4
rank Less = 4
rank LessEqual = 4
rank Greater = 4
rank GreaterEqual = 4
rank Plus = 5
rank Minus = 5
rank Times = 6
rank Divide = 6
rank Modulo = 6

-- how tightly its left operand has to: a comparison is no operand of a comparison, and all others go from left to right
abbrev pub left_rank : Operator → ℕ
left_rank Comma = 0
left_rank Colon = 0
left_rank Or = 1
left_rank And = 2
left_rank Equal = 5
left_rank NotEqual = 5
left_rank Less = 5
left_rank LessEqual = 5
left_rank Greater = 5
left_rank GreaterEqual = 5
left_rank Plus = 5
left_rank Minus = 5
left_rank Times = 6
left_rank Divide = 6
left_rank Modulo = 6

-- how tightly an expression is bound: 9 is a name with or without its index, 8 all else that needs no operator
abbrev pub level : Tree → ℕ
level (Number n) = 8
level (Name n) = 9
level (Known g) = 8
level (Indexed n e) = 9
level (Call n e) = 8
level (RandomBelow e) = 8
level (Group e) = 8
level (Negate e) = 7
level (Not e) = 3
level (Binary op a b) = rank op

-- how many arguments commas part
abbrev pub count : Tree → ℕ
count (Binary Comma a b) = suc (count a)
count _ = 1

-- the level of the first of them
abbrev pub first_level : Tree → ℕ
first_level (Binary Comma a b) = first_level a
first_level e = level e

-- the functions, in the order of their numbers: min, max, choose, length, room, front, last, sum, at, place, sample, roll, running, rest, idle; `in` is none; item, whose fields with their numbers are one argument; a field has one
abbrev pub arity : ℕ → ℕ
arity n = if nat_lt n own_names then slice_index (2 ∷ 2 ∷ 3 ∷ 1 ∷ 1 ∷ 1 ∷ 1 ∷ 1 ∷ 2 ∷ 2 ∷ 1 ∷ 1 ∷ 1 ∷ 1 ∷ 1 ∷ 0 ∷ 1 ∷ []) n else 1

-- whether all arguments are numbers: of the first three, of `roll`, and of a field; of the others the first is a queue, a table, a timer or a field
abbrev pub takes_numbers : ℕ → Bool
takes_numbers n = nat_lt n 3 || nat_eq n 11 || nat_le own_names n

-- how tightly the first argument has to be bound: a field with its number is hardly bound
abbrev pub first_demand : ℕ → ℕ
first_demand n = if takes_numbers n then 1 else if nat_eq n item_number then 0 else 9

abbrev pub fits_call : ℕ → Tree → Bool
fits_call n e = nat_eq (count e) (arity n) && nat_le (first_demand n) (first_level e)

-- each operand binds as tightly as it has to
abbrev pub IsExpr : Tree → Type 0
IsExpr (Number n) = Unit {0}
IsExpr (Name n) = Unit {0}
IsExpr (Known g) = Unit {0}
IsExpr (Indexed n e) = (1 ≤ level e) × IsExpr e
IsExpr (Call n e) = (fits_call n e ≡ true) × IsExpr e
IsExpr (RandomBelow e) = (1 ≤ level e) × IsExpr e
IsExpr (Group e) = (1 ≤ level e) × IsExpr e
IsExpr (Negate e) = (7 ≤ level e) × IsExpr e
IsExpr (Not e) = (3 ≤ level e) × IsExpr e
IsExpr (Binary op a b) = (left_rank op ≤ level a) × (rank op < level b) × IsExpr a × IsExpr b

-- how deep parentheses, brackets, `not` and signs stand in one another
abbrev pub deep : Tree → ℕ
deep (Number n) = 0
deep (Name n) = 0
deep (Known g) = 0
deep (Indexed n e) = suc (deep e)
deep (Call n e) = suc (deep e)
deep (RandomBelow e) = suc (deep e)
deep (Group e) = suc (deep e)
deep (Negate e) = suc (deep e)
deep (Not e) = suc (deep e)
deep (Binary op a b) = max (deep a) (deep b)

-- A statement as it is written, a block as it grows, and the arms of an `if`.
mutual
  pub data SourceStatement : Type 0 where
    Assign : (place : Tree) (change : SourceChange) (e : Tree) → SourceStatement
    Act : (verb : Verb) (queue e : Tree) → SourceStatement
    Treat : (deed : Deed) (queue : Tree) → SourceStatement
    Draw : SourceStatement
    Wait : (e : Tree) → SourceStatement
    Passivate : SourceStatement
    Start : (timer e : Tree) → SourceStatement
    Send : (sent : Tree) → SourceStatement
    If : (arms : Arms) → SourceStatement
    IfElse : (arms : Arms) (last : Block) → SourceStatement
    Repeat : (count : Tree) (each : Block) → SourceStatement

  pub data Block : Type 0 where
    Empty : Block
    -- a statement behind others, and whether a semicolon follows it
    Then : (before : Block) (last : SourceStatement) (marked : Bool) → Block

  pub data Arms : Type 0 where
    One : (test : Tree) (b : Block) → Arms
    More : (before : Arms) (test : Tree) (b : Block) → Arms

abbrev pub mark : Bool → List Word → List Word
mark true ws = word.Semicolon ∷ ws
mark false ws = ws

abbrev mutual
  pub said : SourceStatement → List Word → List Word
  said (Assign p c e) ws = spelled p (word.Becomes c ∷ spelled e ws)
  said (Act v q e) ws = word.Begins v ∷ spelled q (spelled e ws)
  said (Treat d q) ws = word.Does d ∷ spelled q ws
  said Draw ws = word.Draw ∷ ws
  said (Wait e) ws = word.Wait ∷ spelled e ws
  said Passivate ws = word.Passivate ∷ ws
  said (Start t e) ws = word.Start ∷ spelled t (word.Name in_number ∷ spelled e ws)
  said (Send e) ws = word.Send ∷ spelled e ws
  said (If arms) ws = said_arms arms ws
  said (IfElse arms b) ws = said_arms arms (word.Else ∷ word.OpenBrace ∷ said_block b (word.CloseBrace ∷ ws))
  said (Repeat n b) ws = word.Repeat ∷ spelled n (word.OpenBrace ∷ said_block b (word.CloseBrace ∷ ws))

  pub said_block : Block → List Word → List Word
  said_block Empty ws = ws
  said_block (Then b s m) ws = said_block b (said s (mark m ws))

  pub said_arms : Arms → List Word → List Word
  said_arms (One t b) ws = word.If ∷ spelled t (word.OpenBrace ∷ said_block b (word.CloseBrace ∷ ws))
  said_arms (More a t b) ws = said_arms a (word.Else ∷ word.If ∷ spelled t (word.OpenBrace ∷ said_block b (word.CloseBrace ∷ ws)))

-- a place and a queue are a name with or without its index
abbrev pub IsPlace : Tree → Type 0
IsPlace e = (9 ≤ level e) × IsExpr e

abbrev pub IsAlone : Tree → Type 0
IsAlone e = (1 ≤ level e) × IsExpr e

-- a turn's count is a number or a name
abbrev pub is_count : Tree → Bool
is_count (Number n) = true
is_count (Name n) = true
is_count _ = false

abbrev pub wanted : Verb → ℕ
wanted Push = 1
wanted Insert = 1
wanted Remove = 1
wanted Put = 2
wanted Observe = 1

abbrev mutual
  pub IsStatement : SourceStatement → Type 0
  IsStatement (Assign p c e) = IsPlace p × IsAlone e
  IsStatement (Act v q e) = IsPlace q × (nat_eq (count e) (wanted v) ≡ true) × IsExpr e
  IsStatement (Treat d q) = IsPlace q
  IsStatement Draw = Unit {0}
  IsStatement (Wait e) = IsAlone e
  IsStatement Passivate = Unit {0}
  IsStatement (Start t e) = IsPlace t × IsAlone e
  IsStatement (Send e) = (nat_eq (count e) 2 ≡ true) × IsExpr e
  IsStatement (If arms) = AreArms arms
  IsStatement (IfElse arms b) = AreArms arms × IsBlock b
  IsStatement (Repeat n b) = (is_count n ≡ true) × IsBlock b

  pub IsBlock : Block → Type 0
  IsBlock Empty = Unit {0}
  IsBlock (Then b s m) = IsBlock b × IsStatement s

  pub AreArms : Arms → Type 0
  AreArms (One t b) = IsAlone t × IsBlock b
  AreArms (More a t b) = AreArms a × IsAlone t × IsBlock b

abbrev mutual
  pub deep_statement : SourceStatement → ℕ
  deep_statement (Assign p c e) = max (deep p) (deep e)
  deep_statement (Act v q e) = max (deep q) (deep e)
  deep_statement (Treat d q) = deep q
  deep_statement Draw = 0
  deep_statement (Wait e) = deep e
  deep_statement Passivate = 0
  deep_statement (Start t e) = max (deep t) (deep e)
  deep_statement (Send e) = deep e
  deep_statement (If arms) = deep_arms arms
  deep_statement (IfElse arms b) = max (deep_arms arms) (suc (deep_block b))
  deep_statement (Repeat n b) = suc (deep_block b)

  pub deep_block : Block → ℕ
  deep_block Empty = 0
  deep_block (Then b s m) = max (deep_block b) (deep_statement s)

  pub deep_arms : Arms → ℕ
  deep_arms (One t b) = max (deep t) (suc (deep_block b))
  deep_arms (More a t b) = max (deep_arms a) (max (deep t) (suc (deep_block b)))

-- how many nodes: statements, operators with their operands, functions, names and numbers
abbrev pub nodes : Tree → ℕ
nodes (Number n) = 1
nodes (Name n) = 1
nodes (Known g) = 1
nodes (Indexed n e) = 1 + nodes e
nodes (Call n e) = 1 + nodes e
nodes (RandomBelow e) = 1 + nodes e
nodes (Group e) = nodes e
nodes (Negate e) = 1 + nodes e
nodes (Not e) = 1 + nodes e
nodes (Binary Comma a b) = nodes a + nodes b
nodes (Binary op a b) = 1 + (nodes a + nodes b)

abbrev mutual
  pub nodes_statement : SourceStatement → ℕ
  nodes_statement (Assign p c e) = 1 + (nodes p + nodes e)
  nodes_statement (Act v q e) = 1 + (nodes q + nodes e)
  nodes_statement (Treat d q) = 1 + nodes q
  nodes_statement Draw = 1
  nodes_statement (Wait e) = 1 + nodes e
  nodes_statement Passivate = 1
  nodes_statement (Start t e) = 1 + (nodes t + (1 + nodes e))
  nodes_statement (Send e) = 1 + nodes e
  nodes_statement (If arms) = nodes_arms arms
  nodes_statement (IfElse arms b) = nodes_arms arms + nodes_block b
  nodes_statement (Repeat n b) = 1 + (nodes n + nodes_block b)

  pub nodes_block : Block → ℕ
  nodes_block Empty = 0
  nodes_block (Then b s m) = nodes_block b + nodes_statement s

  -- an `if` is one statement, however many arms it has
  pub nodes_arms : Arms → ℕ
  nodes_arms (One t b) = 1 + (nodes t + nodes_block b)
  nodes_arms (More a t b) = nodes_arms a + (nodes t + nodes_block b)

-- how many operators and statements there are, each of which makes a node in the core: a tree is hardly deeper
abbrev pub head : Word → ℕ
head (word.Sign Comma) = 0
head (word.Sign op) = 1
head word.Not = 1
head (word.Becomes c) = 1
head (word.Begins v) = 1
head (word.Does d) = 1
head word.Draw = 1
head word.Wait = 1
head word.Passivate = 1
head word.Start = 1
head word.Send = 1
head word.If = 1
head word.Repeat = 1
head _ = 0

abbrev pub heads : List Word → ℕ
heads [] = 0
heads (w ∷ ws) = head w + heads ws

-- These words are this program, no deeper than so many levels, of no more than so many nodes, and of no more than 4,096 operators and statements.
pub record Means (most many : ℕ) (ws : List Word) (program : Block) : Type 0 where
  pub words : ws ≡ said_block program []
  pub fits : IsBlock program
  pub levels : deep_block program ≤ most
  pub size : nodes_block program ≤ many
  pub short : heads ws ≤ max_nodes
