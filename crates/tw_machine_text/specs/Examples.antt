-- Worked examples of how tightly operators bind, and of what is desugared, a to d being the first names that are declared.
use Rattle.std.specs.Prelude.{◌≡◌, ℕ, List, [], ◌∷◌, ◌++◌, Option, Some, None, true, false, map, replicate}
use Rattle.tw_machine_text.specs.declared.words.Operator.TheVariants.{Comma, Colon, Or, And, Equal, Less, GreaterEqual, Plus, Minus, Times, Divide, Modulo}
use Rattle.tw_machine_text.specs.declared.words.Word.{Word}
use Rattle.tw_machine_text.specs.declared.words.Word.TheVariants as word
use Rattle.tw_machine_text.specs.declared.words.SourceChange.TheVariants.{Set, Add}
use Rattle.tw_machine_text.specs.declared.words.Builtin.TheVariants.{Left, Now, Which}
use Rattle.tw_machine_text.specs.declared.words.Deed.TheVariants.{Stop}
use Rattle.tw_machine_text.specs.declared.words.Verb.TheVariants.{Push, Put, Observe}
use Rattle.tw_machine_text.specs.Letters.{own, own_names, in_number, item_number}
use Rattle.tw_machine_text.specs.Limits.{max_levels, max_nodes}
use Rattle.tw_machine_text.specs.declared.kinds.Field.{Field}
use Rattle.tw_machine_text.specs.declared.kinds.Kind.{Kind}
use Rattle.tw_machine_text.specs.declared.kinds.Meaning.{Meaning}
use Rattle.tw_machine_text.specs.declared.kinds.Kind.TheVariants.{Nothing, Register, Table, Queue, Timer, TimerArray}
use Rattle.tw_machine_text.specs.declared.kinds.Timing.{Timing}
use Rattle.tw_machine_text.specs.declared.kinds.Member.TheVariants.{Value}
use Rattle.tw_machine_text.specs.Desugared.{desugared_block, desugared_text}
use Rattle.tw_machine_text.specs.Drawn.{core_tree}
use Rattle.tw_machine_text.specs.Timers.{may_stand, may_stand_as}
use Rattle.tw_machine_text.specs.Tree.{Tree, Number, Name, Known, Indexed, Call, RandomBelow, Group, Negate, Not, Binary, SourceStatement, Block, Empty, Then, Assign, Act, Treat, Wait, Draw, Passivate, Start, Send, If, IfElse, Repeat, One, More, Means, deep, nodes}

abbrev pub a : Tree
a = Name (own 0)

abbrev pub b : Tree
b = Name (own 1)

abbrev pub c : Tree
c = Name (own 2)

abbrev pub d : Tree
d = Name (own 3)

-- the program that waits for this
abbrev pub Waiting : List Word → Tree → Type 0
Waiting ws e = Means max_levels max_nodes (word.Wait ∷ ws) (Then Empty (Wait e) false)

-- not a == b
abbrev pub not_equal : Type 0
not_equal = Waiting (word.Not ∷ word.Name (own 0) ∷ word.Sign Equal ∷ word.Name (own 1) ∷ []) (Not (Binary Equal a b))

-- a - b - c
abbrev pub two_less : Type 0
two_less = Waiting (word.Name (own 0) ∷ word.Sign Minus ∷ word.Name (own 1) ∷ word.Sign Minus ∷ word.Name (own 2) ∷ []) (Binary Minus (Binary Minus a b) c)

-- -a * b
abbrev pub minus_times : Type 0
minus_times = Waiting (word.Sign Minus ∷ word.Name (own 0) ∷ word.Sign Times ∷ word.Name (own 1) ∷ []) (Binary Times (Negate a) b)

-- a < b and c or d
abbrev pub and_or : Type 0
and_or = Waiting (word.Name (own 0) ∷ word.Sign Less ∷ word.Name (own 1) ∷ word.Sign And ∷ word.Name (own 2) ∷ word.Sign Or ∷ word.Name (own 3) ∷ []) (Binary Or (Binary And (Binary Less a b) c) d)

-- put q 0, a - 1 push q -a draw: a sign behind a queue begins what is pushed
abbrev pub behind_queues : Type 0
behind_queues = Means max_levels max_nodes
    (word.Begins Put ∷ word.Name (own 2) ∷ word.Number 0 ∷ word.Sign Comma ∷ word.Name (own 0) ∷ word.Sign Minus ∷ word.Number 1 ∷ word.Begins Push ∷ word.Name (own 2) ∷ word.Sign Minus ∷ word.Name (own 0) ∷ word.Draw ∷ [])
    (Then (Then (Then Empty (Act Put c (Binary Comma (Number 0) (Binary Minus a (Number 1)))) false) (Act Push c (Negate a)) false) Draw false)

-- if a { draw; } else if b { } else { c = 1 }
abbrev pub chains : Type 0
chains = Means max_levels max_nodes
    (word.If ∷ word.Name (own 0) ∷ word.OpenBrace ∷ word.Draw ∷ word.Semicolon ∷ word.CloseBrace ∷ word.Else ∷ word.If ∷ word.Name (own 1) ∷ word.OpenBrace ∷ word.CloseBrace ∷ word.Else ∷ word.OpenBrace ∷ word.Name (own 2) ∷ word.Becomes Set ∷ word.Number 1 ∷ word.CloseBrace ∷ [])
    (Then Empty (IfElse (More (One a (Then Empty Draw true)) b Empty) (Then Empty (Assign c Set (Number 1)) false)) false)

-- observe a b + 1 is written so, and comes to a[0] += 1  a[1] += b + 1  a[2] += (b + 1) * (b + 1)
abbrev pub a_sum : Tree
a_sum = Binary Plus b (Number 1)

abbrev pub observing : Type 0
observing = Means max_levels max_nodes (word.Begins Observe ∷ word.Name (own 0) ∷ word.Name (own 1) ∷ word.Sign Plus ∷ word.Number 1 ∷ []) (Then Empty (Act Observe a a_sum) false)

abbrev pub observed : Type 0
observed =
    desugared_block None [] [] (Then Empty (Act Observe a a_sum) false)
    ≡ Then (Then (Then Empty (Assign (Indexed (own 0) (Number 0)) Add (Number 1)) false) (Assign (Indexed (own 0) (Number 1)) Add a_sum) false) (Assign (Indexed (own 0) (Number 2)) Add (Binary Times (Group a_sum) (Group a_sum))) false

-- ---- numbers that are drawn, a being a register, b a table and c a queue

abbrev pub plainly : Kind → Meaning
plainly kind = record { kind = kind; field = None }

abbrev pub functions_alone : List Meaning
functions_alone = replicate own_names (plainly Nothing)

abbrev pub kinds : List Meaning
kinds = functions_alone ++ map plainly (Register ∷ Table ∷ Queue ∷ [])

-- sample(b), roll(6), length(b), length(c)
abbrev pub sample_b : Tree
sample_b = Call 10 b

abbrev pub roll_6 : Tree
roll_6 = Call 11 (Number 6)

-- b[random(length(b))], where `length(b)` is the name alone
abbrev pub core_sample_b : Tree
core_sample_b = Indexed (own 1) (RandomBelow b)

abbrev pub lengths : Type 0
lengths = (core_tree kinds (Call 3 b) ≡ b) × (core_tree kinds (Call 3 c) ≡ Call 3 c)

-- a = a + sample(b) comes to a = a + b[random(length(b))]  draw
abbrev pub drawn_behind : Type 0
drawn_behind =
    desugared_block None kinds [] (Then Empty (Assign a Set (Binary Plus a sample_b)) true)
    ≡ Then (Then Empty (Assign a Set (Binary Plus a core_sample_b)) false) Draw true

-- a = 1, and a = 2
abbrev pub first : SourceStatement
first = Assign a Set (Number 1)

abbrev pub second : SourceStatement
second = Assign a Set (Number 2)

abbrev pub alone : SourceStatement → Block
alone s = Then Empty s false

-- `draw`, and then this
abbrev pub drawing : SourceStatement → Block
drawing s = Then (Then Empty Draw false) s false

-- if sample(b) < a { a = 1 } comes to if b[random(length(b))] < a { draw a = 1 } else { draw }
abbrev pub drawn_test : Type 0
drawn_test =
    desugared_block None kinds [] (alone (If (One (Binary Less sample_b a) (alone first))))
    ≡ alone (IfElse (One (Binary Less core_sample_b a) (drawing first)) (alone Draw))

-- if roll(6) { a = 1 } else { a = 2 } comes to if random(6) { draw a = 1 } else { draw a = 2 }
abbrev pub drawn_else : Type 0
drawn_else =
    desugared_block None kinds [] (alone (IfElse (One roll_6 (alone first)) (alone second)))
    ≡ alone (IfElse (One (RandomBelow (Number 6)) (drawing first)) (drawing second))

-- if a { a = 1 } else if roll(6) { a = 2 } else if a { } else { a = 1 } comes to if a { a = 1 } else if random(6) { draw a = 2 } else { draw if a { } else { a = 1 } }
abbrev pub drawn_chain : Type 0
drawn_chain =
    desugared_block None kinds [] (alone (IfElse (More (More (One a (alone first)) roll_6 (alone second)) a Empty) (alone first)))
    ≡ alone (IfElse (More (One a (alone first)) (RandomBelow (Number 6)) (drawing second)) (drawing (IfElse (One a Empty) (alone first))))

-- within `repeat` a number is drawn in each turn: repeat 3 { a = roll(6) } comes to repeat 3 { a = random(6) draw }
abbrev pub drawn_turns : Type 0
drawn_turns =
    desugared_block None kinds [] (alone (Repeat (Number 3) (alone (Assign a Set roll_6))))
    ≡ alone (Repeat (Number 3) (Then (alone (Assign a Set (RandomBelow (Number 6)))) Draw false))

-- push c roll(6) may stand, roll(sample(b)) and a member's text with roll(6) may not, nor may length(a)
abbrev pub few_drawn : Type 0
few_drawn =
    (may_stand None kinds 0 (alone (Act Push c roll_6)) ≡ true)
    × (may_stand None kinds 0 (alone (Wait (Call 11 sample_b))) ≡ false)
    × (may_stand_as None Value kinds roll_6 ≡ false)
    × (may_stand None kinds 0 (alone (Wait (Call 3 a))) ≡ false)

-- a < b < c means nothing
abbrev pub no_chain : Type 0
no_chain = (program : Block) → Means max_levels max_nodes (word.Wait ∷ word.Name (own 0) ∷ word.Sign Less ∷ word.Name (own 1) ∷ word.Sign Less ∷ word.Name (own 2) ∷ []) program → ⊥

-- ---- fields, a being a register and a field of 8 bits, b a field of 4 bits above it, and c a register alone

abbrev pub low_field : Field
low_field = record { unit = 1; size = 256 }

abbrev pub high_field : Field
high_field = record { unit = 256; size = 16 }

abbrev pub field_kinds : List Meaning
field_kinds = functions_alone ++ record { kind = Register; field = Some low_field } ∷ record { kind = Nothing; field = Some high_field } ∷ plainly Register ∷ []

-- item(b: c, a: 3)
abbrev pub item_of : Tree
item_of = Call item_number (Binary Colon (Binary Comma (Binary Colon b c) a) (Number 3))

-- it is written so
abbrev pub fields_written : Type 0
fields_written =
    Waiting
    (word.Name item_number ∷ word.Open ∷ word.Name (own 1) ∷ word.Sign Colon ∷ word.Name (own 2) ∷ word.Sign Comma ∷ word.Name (own 0) ∷ word.Sign Colon ∷ word.Number 3 ∷ word.Close ∷ [])
    item_of

-- and is ((c) % 16 * 256 + (3) % 256 * 1)
abbrev pub fields_packed : Type 0
fields_packed =
    core_tree field_kinds item_of
    ≡ Group (Binary Plus (Binary Times (Binary Modulo (Group c) (Number 16)) (Number 256)) (Binary Times (Binary Modulo (Group (Number 3)) (Number 256)) (Number 1)))

-- b(a) is ((a) / 256 % 16)
abbrev pub field_read : Type 0
field_read = core_tree field_kinds (Call (own 1) a) ≡ Group (Binary Modulo (Binary Divide (Group a) (Number 256)) (Number 16))

-- item(f: 1, g: 2)
abbrev pub both : (f g : Tree) → Tree
both f g = Call item_number (Binary Colon (Binary Comma (Binary Colon f (Number 1)) g) (Number 2))

-- c is no field, b is no number, and a field stands once
abbrev pub fields_named : Type 0
fields_named =
    (may_stand_as None Value field_kinds item_of ≡ true)
    × (may_stand_as None Value field_kinds (both a b) ≡ true)
    × (may_stand_as None Value field_kinds (both a a) ≡ false)
    × (may_stand_as None Value field_kinds (both a c) ≡ false)
    × (may_stand_as None Value field_kinds (Call (own 0) c) ≡ true)
    × (may_stand_as None Value field_kinds (Call (own 2) a) ≡ false)
    × (may_stand_as None Value field_kinds b ≡ false)
    × (may_stand_as None Value kinds (Call item_number (Binary Colon a c)) ≡ false)

-- ---- timers, a being a register, b a timer and c several of them; behind these stand the names that timers need

abbrev pub timed_kinds : List Meaning
timed_kinds = functions_alone ++ map plainly (Register ∷ Timer (own 8) ∷ TimerArray (own 9) (own 10) ∷ [])

abbrev pub timing_of : Option ℕ → Timing
timing_of timer = record { due = own 3; next = own 4; least = own 5; ports = own 6; values = own 7; of = timer }

abbrev pub plain : Option Timing
plain = Some (timing_of None)

-- that of a text of c
abbrev pub of_c : Option Timing
of_c = Some (timing_of (Some (own 9)))

-- the tick at which b is due
abbrev pub due_b : Tree
due_b = Indexed (own 3) (Name (own 8))

-- that at which c[e] is
abbrev pub due_c : Tree → Tree
due_c e = Indexed (own 3) (Binary Plus (Name (own 9)) (Call 0 (Binary Comma (Call 1 (Binary Comma e (Number 0))) (Name (own 10)))))

-- which of c goes
abbrev pub which_c : Tree
which_c = Group (Binary Minus (Name (own 4)) (Name (own 9)))

-- start b in a + 1  send 0, a  stop c[which] is written so
abbrev pub timed_words : Type 0
timed_words = Means max_levels max_nodes
    (word.Start ∷ word.Name (own 1) ∷ word.Name in_number ∷ word.Name (own 0) ∷ word.Sign Plus ∷ word.Number 1 ∷ word.Send ∷ word.Number 0 ∷ word.Sign Comma ∷ word.Name (own 0) ∷ word.Does Stop ∷ word.Name (own 2) ∷ word.OpenBracket ∷ word.Known Which ∷ word.CloseBracket ∷ [])
    (Then (Then (alone (Start b (Binary Plus a (Number 1)))) (Send (Binary Comma (Number 0) a)) false) (Treat Stop (Indexed (own 2) (Known Which))) false)

-- start b in a comes to due[before] = now + min(max(a, least), 1099511627775)
abbrev pub starting : Type 0
starting =
    desugared_block plain timed_kinds [] (alone (Start b a))
    ≡ alone (Assign due_b Set (Binary Plus (Known Now) (Call 0 (Binary Comma (Call 1 (Binary Comma a (Name (own 5)))) (Number 1099511627775)))))

-- stop c[which] comes to due[before + min(max((next - before), 0), last)] = -1 in a text of c, and in another to due[before + min(max(0, 0), last)] = -1
abbrev pub stopping : Type 0
stopping =
    (desugared_block of_c timed_kinds [] (alone (Treat Stop (Indexed (own 2) (Known Which)))) ≡ alone (Assign (due_c which_c) Set (Negate (Number 1))))
    × (desugared_block plain timed_kinds [] (alone (Treat Stop (Indexed (own 2) (Known Which)))) ≡ alone (Assign (due_c (Number 0)) Set (Negate (Number 1))))

-- send a, roll(6) comes to push ports a  push values random(6)  draw
abbrev pub sending : Type 0
sending =
    desugared_block plain timed_kinds [] (alone (Send (Binary Comma a roll_6)))
    ≡ Then (Then (alone (Act Push (Name (own 6)) a)) (Act Push (Name (own 7)) (RandomBelow (Number 6))) false) Draw false

-- running(b) is (due[before] >= 0), and rest(c[a]) is max(due[..] - now, -1)
abbrev pub asking : Type 0
asking =
    (desugared_text plain timed_kinds (Call 12 b) ≡ Group (Binary GreaterEqual due_b (Number 0)))
    × (desugared_text plain timed_kinds (Call 13 (Indexed (own 2) a)) ≡ Call 1 (Binary Comma (Binary Minus (due_c a) (Known Now)) (Negate (Number 1))))

-- idle(c) has 162 nodes and 18 levels
abbrev pub idling : Type 0
idling = (nodes (desugared_text plain timed_kinds (Call 14 c)) ≡ 162) × (deep (desugared_text plain timed_kinds (Call 14 c)) ≡ 18)

-- start b in roll(6) and idle(c) may stand; start a in 1, stop c, stop b[0], start c[roll(6)] in 1 and idle(b) may not
abbrev pub timers_named : Type 0
timers_named =
    (may_stand plain timed_kinds 0 (alone (Start b roll_6)) ≡ true)
    × (may_stand_as plain Value timed_kinds (Call 14 c) ≡ true)
    × (may_stand plain timed_kinds 0 (alone (Start a (Number 1))) ≡ false)
    × (may_stand plain timed_kinds 0 (alone (Treat Stop c)) ≡ false)
    × (may_stand plain timed_kinds 0 (alone (Treat Stop (Indexed (own 1) (Number 0)))) ≡ false)
    × (may_stand plain timed_kinds 0 (alone (Start (Indexed (own 2) roll_6) (Number 1))) ≡ false)
    × (may_stand_as plain Value timed_kinds (Call 14 b) ≡ false)

-- in a machine with timers may stand neither wait 1, nor passivate, nor left; in one without them neither send 0, a, nor which
abbrev pub times_kept : Type 0
times_kept =
    (may_stand plain timed_kinds 0 (alone (Wait (Number 1))) ≡ false)
    × (may_stand plain timed_kinds 0 (alone Passivate) ≡ false)
    × (may_stand_as plain Value timed_kinds (Known Left) ≡ false)
    × (may_stand None timed_kinds 0 (alone (Send (Binary Comma (Number 0) a))) ≡ false)
    × (may_stand_as None Value timed_kinds (Known Which) ≡ false)
