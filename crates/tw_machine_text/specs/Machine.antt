-- A reader as a machine that takes one word after another. No public contract speaks of it.
use Rattle.std.specs.Prelude.{ℕ, suc, ◌+◌, Bool, true, false, List, [], ◌∷◌, Option, Some, None, nat_eq, nat_le, nat_lt, if◌then◌else◌}
use Rattle.std.specs.Option.{option_and_then}
use Rattle.tw_machine_text.specs.declared.words.Operator.{Operator}
use Rattle.tw_machine_text.specs.declared.words.Operator.TheVariants.{Comma, Minus}
use Rattle.tw_machine_text.specs.declared.words.Builtin.TheVariants.{Random}
use Rattle.tw_machine_text.specs.declared.words.SourceChange.{SourceChange}
use Rattle.tw_machine_text.specs.declared.words.Verb.{Verb}
use Rattle.tw_machine_text.specs.declared.words.Deed.{Deed}
use Rattle.tw_machine_text.specs.declared.words.Word.{Word}
use Rattle.tw_machine_text.specs.declared.words.Word.TheVariants as word
use Rattle.tw_machine_text.specs.Letters.{in_number}
use Rattle.tw_machine_text.specs.Tree.{Tree, Number, Name, Known, Indexed, Call, RandomBelow, Group, Negate, Not, Binary, rank, left_rank, count, fits_call, SourceStatement, Assign, Act, Treat, Draw, Wait, Passivate, Start, Send, If, IfElse, Repeat, Block, Empty, Then, Arms, One, More, is_count, wanted}

-- what has begun and is not done, the innermost first
pub data Frame : Type 0 where
  Operand : (a : Tree) (op : Operator) → Frame
  InNot : Frame
  InNegative : Frame
  InGroup : Frame
  InIndex : (n : ℕ) → Frame
  InCall : (n : ℕ) → Frame
  InRandom : Frame
  InPlace : (b : Block) → Frame
  InChange : (b : Block) (p : Tree) (c : SourceChange) → Frame
  InQueue : (b : Block) (v : Verb) → Frame
  InItem : (b : Block) (v : Verb) (q : Tree) → Frame
  InDeed : (b : Block) (d : Deed) → Frame
  InWait : (b : Block) → Frame
  InStart : (b : Block) → Frame
  InTicks : (b : Block) (timer : Tree) → Frame
  InSend : (b : Block) → Frame
  InIf : (b : Block) → Frame
  InElseIf : (b : Block) (arms : Arms) → Frame
  InCount : (b : Block) → Frame
  InThen : (b : Block) (t : Tree) → Frame
  InElseThen : (b : Block) (arms : Arms) (t : Tree) → Frame
  InElse : (b : Block) (arms : Arms) → Frame
  InTurns : (b : Block) (n : Tree) → Frame

pub data State : Type 0 where
  -- an operand is to come
  Need : (s : List Frame) → State
  -- an operand has come
  Have : (s : List Frame) (t : Tree) → State
  -- a statement may begin
  Begin : (s : List Frame) (b : Block) → State
  -- a statement is done
  After : (s : List Frame) (b : Block) (last : SourceStatement) → State
  -- an arm is done
  AfterThen : (s : List Frame) (b : Block) (arms : Arms) → State
  -- `else` has come
  AfterElse : (s : List Frame) (b : Block) (arms : Arms) → State

-- how tightly what comes has to be bound
abbrev pub demand : List Frame → ℕ
demand [] = 9
demand (Operand a op ∷ s) = suc (rank op)
demand (InNot ∷ s) = 3
demand (InNegative ∷ s) = 7
demand (InCall n ∷ s) = 0
demand (InItem b v q ∷ s) = 0
demand (InPlace b ∷ s) = 9
demand (InQueue b v ∷ s) = 9
demand (InDeed b d ∷ s) = 9
demand (InStart b ∷ s) = 9
demand (InSend b ∷ s) = 0
demand (_ ∷ s) = 1

-- how deep we are
abbrev pub depth : List Frame → ℕ
depth [] = 0
depth (InNot ∷ s) = suc (depth s)
depth (InNegative ∷ s) = suc (depth s)
depth (InGroup ∷ s) = suc (depth s)
depth (InIndex n ∷ s) = suc (depth s)
depth (InCall n ∷ s) = suc (depth s)
depth (InRandom ∷ s) = suc (depth s)
depth (InThen b t ∷ s) = suc (depth s)
depth (InElseThen b a t ∷ s) = suc (depth s)
depth (InElse b a ∷ s) = suc (depth s)
depth (InTurns b n ∷ s) = suc (depth s)
depth (_ ∷ s) = depth s

-- what binds at least as tightly as k is done
abbrev pub reduce : ℕ → List Frame → Tree → List Frame × Tree
reduce k [] t = ([], t)
reduce k (Operand a op ∷ s) t = if nat_le k (rank op) then reduce k s (Binary op a t) else (Operand a op ∷ s, t)
reduce k (InNot ∷ s) t = if nat_le k 3 then reduce k s (Not t) else (InNot ∷ s, t)
reduce k (InNegative ∷ s) t = if nat_le k 7 then reduce k s (Negate t) else (InNegative ∷ s, t)
reduce k (f ∷ s) t = (f ∷ s, t)

abbrev pub nest : ℕ → Frame → List Frame → Option State
nest most f s = if nat_lt (depth s) most then Some (Need (f ∷ s)) else None

abbrev pub operand : ℕ → List Frame → Tree → Option State
operand k s t = if nat_le (demand s) k then Some (Have s t) else None

-- a word where an operand is to come
abbrev pub need : ℕ → Word → List Frame → Option State
need most (word.Number n) s = operand 8 s (Number n)
need most (word.Name n) s = Some (Have s (Name n))
need most (word.Known g) s = operand 8 s (Known g)
need most word.Open s = if nat_le (demand s) 8 then nest most InGroup s else None
need most (word.Sign Minus) s = if nat_le (demand s) 7 then nest most InNegative s else None
need most word.Not s = if nat_le (demand s) 3 then nest most InNot s else None
need most _ s = None

-- a word that begins what is done to a queue that has come
abbrev pub item : ℕ → Word → List Frame × Tree → Option State
item most w (InQueue b v ∷ s, t) = need most w (InItem b v t ∷ s)
item most w _ = None

abbrev pub shift : ℕ → Operator → List Frame × Tree → Option State
shift most op (s, t) = if nat_le (demand s) (rank op) then Some (Need (Operand t op ∷ s)) else item most (word.Sign op) (s, t)

-- the function of a name that has come
abbrev pub called : ℕ → List Frame → Tree → Option State
called most s (Name n) = nest most (InCall n) s
called most s (Known Random) = nest most InRandom s
called most s _ = None

abbrev pub indexed : ℕ → List Frame → Tree → Option State
indexed most s (Name n) = nest most (InIndex n) s
indexed most s _ = None

abbrev pub close : List Frame × Tree → Option State
close (InGroup ∷ s, t) = Some (Have s (Group t))
close (InCall n ∷ s, t) = if fits_call n t then Some (Have s (Call n t)) else None
close (InRandom ∷ s, t) = Some (Have s (RandomBelow t))
close _ = None

abbrev pub close_index : List Frame × Tree → Option State
close_index (InIndex n ∷ s, t) = Some (Have s (Indexed n t))
close_index _ = None

abbrev pub becomes : SourceChange → List Frame × Tree → Option State
becomes c (InPlace b ∷ s, t) = Some (Need (InChange b t c ∷ s))
becomes c _ = None

-- a block begins
abbrev pub enter : ℕ → Frame → List Frame → Option State
enter most f s = if nat_lt (depth s) most then Some (Begin (f ∷ s) Empty) else None

abbrev pub open_block : ℕ → List Frame × Tree → Option State
open_block most (InIf b ∷ s, t) = enter most (InThen b t) s
open_block most (InElseIf b a ∷ s, t) = enter most (InElseThen b a t) s
open_block most (InCount b ∷ s, t) = if is_count t then enter most (InTurns b t) s else None
open_block most _ = None

-- the block so far, once its last statement is done
abbrev pub finished : Bool → List Frame × Tree → Option (List Frame × Block)
finished m (InChange b p c ∷ s, t) = Some (s, Then b (Assign p c t) m)
finished m (InItem b v q ∷ s, t) = if nat_eq (count t) (wanted v) then Some (s, Then b (Act v q t) m) else None
finished m (InDeed b d ∷ s, t) = Some (s, Then b (Treat d t) m)
finished m (InWait b ∷ s, t) = Some (s, Then b (Wait t) m)
finished m (InTicks b timer ∷ s, t) = Some (s, Then b (Start timer t) m)
finished m (InSend b ∷ s, t) = if nat_eq (count t) 2 then Some (s, Then b (Send t) m) else None
finished m _ = None

abbrev pub ended : Bool → State → Option (List Frame × Block)
ended m (Need s) = None
ended m (Have s t) = finished m (reduce 0 s t)
ended m (Begin s b) = if m then None else Some (s, b)
ended m (After s b last) = Some (s, Then b last m)
ended m (AfterThen s b arms) = Some (s, Then b (If arms) m)
ended m (AfterElse s b arms) = None

-- a block ends
abbrev pub close_block : List Frame → Block → Option State
close_block (InThen b t ∷ s) block = Some (AfterThen s b (One t block))
close_block (InElseThen b a t ∷ s) block = Some (AfterThen s b (More a t block))
close_block (InElse b a ∷ s) block = Some (After s b (IfElse a block))
close_block (InTurns b n ∷ s) block = Some (After s b (Repeat n block))
close_block _ block = None

-- a word behind what is done in a block
abbrev pub start : Word → List Frame × Block → Option State
start (word.Name n) (s, b) = Some (Have (InPlace b ∷ s) (Name n))
start (word.Begins v) (s, b) = Some (Need (InQueue b v ∷ s))
start (word.Does d) (s, b) = Some (Need (InDeed b d ∷ s))
start word.Draw (s, b) = Some (After s b Draw)
start word.Wait (s, b) = Some (Need (InWait b ∷ s))
start word.Passivate (s, b) = Some (After s b Passivate)
start word.Start (s, b) = Some (Need (InStart b ∷ s))
start word.Send (s, b) = Some (Need (InSend b ∷ s))
start word.If (s, b) = Some (Need (InIf b ∷ s))
start word.Repeat (s, b) = Some (Need (InCount b ∷ s))
start word.CloseBrace (s, b) = close_block s b
start _ _ = None

-- a name behind an operand: of what is done to a queue, `in` behind a timer, or of the next statement
abbrev pub named : ℕ → List Frame × Tree → Option State
named n (InQueue b v ∷ s, t) = Some (Have (InItem b v t ∷ s) (Name n))
named n (InStart b ∷ s, t) = if nat_eq n in_number then Some (Need (InTicks b t ∷ s)) else None
named n (s, t) = option_and_then (start (word.Name n)) (finished false (s, t))

abbrev pub marked : List Frame × Block → Option State
marked (s, b) = Some (Begin s b)

-- a word behind an operand, where all is complete that an operand completes
abbrev pub settle : ℕ → Word → List Frame × Tree → Option State
settle most (word.Name n) r = named n r
settle most word.Close r = close r
settle most word.CloseBracket r = close_index r
settle most (word.Becomes c) r = becomes c r
settle most word.OpenBrace r = open_block most r
settle most word.Semicolon r = option_and_then marked (finished true r)
settle most w r = option_and_then (start w) (finished false r)

-- a word behind an operand
abbrev pub have : ℕ → Word → List Frame → Tree → Option State
have most (word.Sign op) s t = shift most op (reduce (left_rank op) s t)
have most word.OpenBracket s t = indexed most s t
have most word.Open s t = if nat_le (demand s) 8 then called most s t else item most word.Open (s, t)
have most (word.Number n) s t = item most (word.Number n) (s, t)
have most (word.Known g) s t = item most (word.Known g) (s, t)
have most word.Not s t = item most word.Not (s, t)
have most w s t = settle most w (reduce 0 s t)

-- a word behind an arm
abbrev pub after_arm : Word → List Frame → Block → Arms → Option State
after_arm word.Else s b arms = Some (AfterElse s b arms)
after_arm word.Semicolon s b arms = Some (Begin s (Then b (If arms) true))
after_arm w s b arms = start w (s, Then b (If arms) false)

abbrev pub after_else : ℕ → Word → List Frame → Block → Arms → Option State
after_else most word.If s b arms = Some (Need (InElseIf b arms ∷ s))
after_else most word.OpenBrace s b arms = enter most (InElse b arms) s
after_else most _ s b arms = None

abbrev pub after : Word → List Frame → Block → SourceStatement → Option State
after word.Semicolon s b last = Some (Begin s (Then b last true))
after w s b last = start w (s, Then b last false)

abbrev pub step : ℕ → Word → State → Option State
step most w (Need s) = need most w s
step most w (Have s t) = have most w s t
step most w (Begin s b) = start w (s, b)
step most w (After s b last) = after w s b last
step most w (AfterThen s b arms) = after_arm w s b arms
step most w (AfterElse s b arms) = after_else most w s b arms

abbrev pub run : ℕ → List Word → State → Option State
run most [] st = Some st
run most (w ∷ ws) st = option_and_then (run most ws) (step most w st)

abbrev pub whole : List Frame × Block → Option Block
whole ([], b) = Some b
whole (f ∷ s, b) = None

-- the program that the words are
abbrev pub program_of : ℕ → List Word → Option Block
program_of most ws = option_and_then (λ st. option_and_then whole (ended false st)) (run most ws (Begin [] Empty))

-- what counts as a level
abbrev pub nests : Frame → Bool
nests InNot = true
nests InNegative = true
nests InGroup = true
nests (InIndex n) = true
nests (InCall n) = true
nests InRandom = true
nests (InThen b t) = true
nests (InElseThen b a t) = true
nests (InElse b a) = true
nests (InTurns b n) = true
nests _ = false

-- whether what has begun innermost binds at least as tightly as k, so that an operand completes it
abbrev pub closes : ℕ → List Frame → Bool
closes k (Operand a op ∷ s) = nat_le k (rank op)
closes k (InNot ∷ s) = nat_le k 3
closes k (InNegative ∷ s) = nat_le k 7
closes k _ = false

abbrev pub joined : Frame → Tree → Tree
joined (Operand a op) t = Binary op a t
joined InNot t = Not t
joined InNegative t = Negate t
joined _ t = t

-- whether a queue has just been asked for, to which something is done
abbrev pub wants : List Frame → Bool
wants (InQueue b v ∷ s) = true
wants _ = false

-- whether a timer has just been asked for, which is started
abbrev pub starts_timer : List Frame → Bool
starts_timer (InStart b ∷ s) = true
starts_timer _ = false

abbrev pub is_bottom : List Frame → Bool
is_bottom [] = true
is_bottom (f ∷ s) = false

-- how many nodes a word makes
abbrev pub weight : Word → ℕ
weight (word.Number n) = 1
weight (word.Name n) = 1
weight (word.Known g) = 1
weight (word.Sign Comma) = 0
weight (word.Sign op) = 1
weight word.Not = 1
weight (word.Becomes c) = 1
weight (word.Begins v) = 1
weight (word.Does d) = 1
weight word.Draw = 1
weight word.Wait = 1
weight word.Passivate = 1
weight word.Start = 1
weight word.Send = 1
weight word.If = 1
weight word.Repeat = 1
weight _ = 0

-- that of an `if` behind an `else` is none
abbrev pub weigh : Bool → List Word → ℕ
weigh chained [] = 0
weigh chained (word.Else ∷ ws) = weigh true ws
weigh true (word.If ∷ ws) = weigh false ws
weigh chained (w ∷ ws) = weight w + weigh false ws
