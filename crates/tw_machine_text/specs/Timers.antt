-- What timers come to in the core of the language: an array register of the ticks at which they are due, -1 for one that does not run, and the register of the timer that goes. These and the others stand behind a machine's own names, and no text names them.
use Rattle.std.specs.Prelude.{ℕ, zero, suc, ◌+◌, Bool, true, false, not, ◌&&◌, List, Option, Some, None, is_some, nat_eq, if◌then◌else◌}
use Rattle.tw_machine_text.specs.declared.kinds.Kind.{Kind}
use Rattle.tw_machine_text.specs.declared.kinds.Meaning.{Meaning}
use Rattle.tw_machine_text.specs.declared.kinds.Kind.TheVariants.{Timer, TimerArray}
use Rattle.tw_machine_text.specs.declared.kinds.Member.{Member}
use Rattle.tw_machine_text.specs.declared.kinds.Timing.{Timing}
use Rattle.tw_machine_text.specs.declared.words.Builtin.{Builtin}
use Rattle.tw_machine_text.specs.declared.words.Builtin.TheVariants.{Now, Left, Which}
use Rattle.tw_machine_text.specs.declared.words.Deed.{Deed}
use Rattle.tw_machine_text.specs.declared.words.Deed.TheVariants.{Stop}
use Rattle.tw_machine_text.specs.declared.words.Operator.TheVariants.{Comma, Less, GreaterEqual, Plus, Minus}
use Rattle.tw_machine_text.specs.declared.words.SourceChange.TheVariants.{Set}
use Rattle.tw_machine_text.specs.declared.words.Verb.TheVariants.{Push}
use Rattle.tw_machine_text.specs.Kinds.{stands_for, bound_block, bound_as, uses}
use Rattle.tw_machine_text.specs.Drawn.{few_drawn, draws_none}
use Rattle.tw_machine_text.specs.Limits.{max_count, last_due}
use Rattle.tw_machine_text.specs.Tree.{Tree, Number, Name, Known, Indexed, Call, RandomBelow, Group, Negate, Not, Binary, SourceStatement, Assign, Act, Treat, Draw, Wait, Passivate, Start, Send, If, IfElse, Repeat, Block, Empty, Then, Arms, One, More}

-- ---- where what may stand

-- in a machine with timers `left` is no word, and `which` is one
abbrev pub in_time : Bool → Tree → Bool
in_time timed (Number n) = true
in_time timed (Name n) = true
in_time timed (Known Left) = not timed
in_time timed (Known Which) = timed
in_time timed (Known g) = true
in_time timed (Indexed n e) = in_time timed e
in_time timed (Call n e) = in_time timed e
in_time timed (RandomBelow e) = in_time timed e
in_time timed (Group e) = in_time timed e
in_time timed (Negate e) = in_time timed e
in_time timed (Not e) = in_time timed e
in_time timed (Binary op a b) = in_time timed a && in_time timed b

-- `wait` and `passivate` stand in a machine without timers, `start` and `send` in one with them
abbrev mutual
  pub in_time_statement : Bool → SourceStatement → Bool
  in_time_statement timed (Assign p c e) = in_time timed p && in_time timed e
  in_time_statement timed (Act v q e) = in_time timed q && in_time timed e
  in_time_statement timed (Treat d q) = in_time timed q
  in_time_statement timed Draw = true
  in_time_statement timed (Wait e) = not timed && in_time timed e
  in_time_statement timed Passivate = not timed
  in_time_statement timed (Start t e) = timed && in_time timed t && in_time timed e
  in_time_statement timed (Send e) = timed && in_time timed e
  in_time_statement timed (If arms) = in_time_arms timed arms
  in_time_statement timed (IfElse arms b) = in_time_arms timed arms && in_time_block timed b
  in_time_statement timed (Repeat n b) = in_time_block timed b

  pub in_time_block : Bool → Block → Bool
  in_time_block timed Empty = true
  in_time_block timed (Then b s m) = in_time_block timed b && in_time_statement timed s

  pub in_time_arms : Bool → Arms → Bool
  in_time_arms timed (One t b) = in_time timed t && in_time_block timed b
  in_time_arms timed (More a t b) = in_time_arms timed a && in_time timed t && in_time_block timed b

-- each name of a program stands where it may, so many procedures may be used, no more numbers are drawn than may be, and time is kept as the machine keeps it
abbrev pub may_stand : Option Timing → List Meaning → ℕ → Block → Bool
may_stand timing kinds known program = bound_block kinds program && uses kinds known program && few_drawn program && in_time_block (is_some timing) program

-- the same of a member's text, in which no number is drawn
abbrev pub may_stand_as : Option Timing → Member → List Meaning → Tree → Bool
may_stand_as timing member kinds e = bound_as member kinds e && draws_none e && in_time (is_some timing) e

-- ---- in the core

abbrev pub lesser : Tree → Tree → Tree
lesser a b = Call 0 (Binary Comma a b)

abbrev pub greater : Tree → Tree → Tree
greater a b = Call 1 (Binary Comma a b)

abbrev pub minus_one : Tree
minus_one = Negate (Number 1)

-- the name that stands for how many timers are before it
abbrev pub before_of : Kind → ℕ
before_of (Timer before) = before
before_of (TimerArray before last) = before
before_of _ = 0

-- the name that stands for the greatest index of a timer with a count
abbrev pub last_of : Kind → ℕ
last_of (TimerArray before last) = last
last_of _ = 0

-- the place of one of a timer with a count: an index past them is the first or the last
abbrev pub placed_at : (before last : ℕ) → Tree → Tree
placed_at before last index = Binary Plus (Name before) (lesser (greater index (Number 0)) (Name last))

-- the place of a timer among all
abbrev pub place_of : List Meaning → Tree → Tree
place_of kinds (Name n) = Name (before_of (stands_for kinds n))
place_of kinds (Indexed n index) = placed_at (before_of (stands_for kinds n)) (last_of (stands_for kinds n)) index
place_of kinds e = e

-- the tick at which a timer is due
abbrev pub due_of : Timing → List Meaning → Tree → Tree
due_of timing kinds timer = Indexed timing.due (place_of kinds timer)

-- `running(T)` is `(due[place] >= 0)`
abbrev pub runs : Timing → List Meaning → Tree → Tree
runs timing kinds timer = Group (Binary GreaterEqual (due_of timing kinds timer) (Number 0))

-- `rest(T)` is `max(due[place] - now, -1)`
abbrev pub rests : Timing → List Meaning → Tree → Tree
rests timing kinds timer = greater (Binary Minus (due_of timing kinds timer) (Known Now)) minus_one

-- the first that does not run, of those from an index on that are left: `choose(due[place] < 0, index, ..)`, and -1 behind the last. Past the last timer it is the last again, which runs then
abbrev pub idle_from : Timing → (before last index left : ℕ) → Tree
idle_from timing before last index zero = minus_one
idle_from timing before last index (suc left) =
    Call 2 (Binary Comma
    (Binary Comma
    (Binary Less (Indexed timing.due (Binary Plus (Name before) (lesser (Number index) (Name last)))) (Number 0))
    (Number index))
    (idle_from timing before last (index + 1) left))

-- `idle(T)`
abbrev pub idles : Timing → List Meaning → Tree → Tree
idles timing kinds (Name n) = idle_from timing (before_of (stands_for kinds n)) (last_of (stands_for kinds n)) 0 max_count
idles timing kinds e = e

-- `which` is `(next - before)` in the texts of a timer with a count, and 0 in all others
abbrev pub which_in : ℕ → Option ℕ → Tree
which_in next (Some before) = Group (Binary Minus (Name next) (Name before))
which_in next None = Number 0

abbrev pub which_of : Timing → Tree
which_of timing = which_in timing.next timing.of

abbrev pub timed_name : Timing → Builtin → Tree
timed_name timing Which = which_of timing
timed_name timing g = Known g

-- a function of arguments that are in the core
abbrev pub timed_call : Timing → List Meaning → ℕ → Tree → Tree
timed_call timing kinds n e =
    if nat_eq n 12 then runs timing kinds e
    else if nat_eq n 13 then rests timing kinds e
    else if nat_eq n 14 then idles timing kinds e
    else Call n e

abbrev pub timed_tree : Timing → List Meaning → Tree → Tree
timed_tree timing kinds (Number n) = Number n
timed_tree timing kinds (Name n) = Name n
timed_tree timing kinds (Known g) = timed_name timing g
timed_tree timing kinds (Indexed n e) = Indexed n (timed_tree timing kinds e)
timed_tree timing kinds (Call n e) = timed_call timing kinds n (timed_tree timing kinds e)
timed_tree timing kinds (RandomBelow e) = RandomBelow (timed_tree timing kinds e)
timed_tree timing kinds (Group e) = Group (timed_tree timing kinds e)
timed_tree timing kinds (Negate e) = Negate (timed_tree timing kinds e)
timed_tree timing kinds (Not e) = Not (timed_tree timing kinds e)
timed_tree timing kinds (Binary op a b) = Binary op (timed_tree timing kinds a) (timed_tree timing kinds b)

-- `start T in e` is `due[place] = now + min(max(e, least), ..)`: no timer runs for less than the machine's least number of ticks, and none past the greatest tick comes to go
abbrev pub started : Timing → Tree → Tree
started timing e = Binary Plus (Known Now) (lesser (greater e (Name timing.least)) (Number last_due))

-- `stop T` is `due[place] = -1`
abbrev pub treated : Timing → List Meaning → Deed → Tree → SourceStatement
treated timing kinds Stop timer = Assign (due_of timing kinds timer) Set minus_one
treated timing kinds d q = Treat d q

-- a statement behind others: `send p, v` is `push ports p  push values v`
abbrev pub sent : Timing → Block → SourceStatement → Bool → Block
sent timing b (Send (Binary Comma port value)) m = Then (Then b (Act Push (Name timing.ports) port) false) (Act Push (Name timing.values) value) m
sent timing b s m = Then b s m

abbrev mutual
  pub timed_statement : Timing → List Meaning → SourceStatement → SourceStatement
  timed_statement timing kinds (Assign p c e) = Assign (timed_tree timing kinds p) c (timed_tree timing kinds e)
  timed_statement timing kinds (Act v q e) = Act v (timed_tree timing kinds q) (timed_tree timing kinds e)
  timed_statement timing kinds (Treat d q) = treated timing kinds d (timed_tree timing kinds q)
  timed_statement timing kinds Draw = Draw
  timed_statement timing kinds (Wait e) = Wait (timed_tree timing kinds e)
  timed_statement timing kinds Passivate = Passivate
  timed_statement timing kinds (Start t e) = Assign (due_of timing kinds (timed_tree timing kinds t)) Set (started timing (timed_tree timing kinds e))
  timed_statement timing kinds (Send e) = Send (timed_tree timing kinds e)
  timed_statement timing kinds (If arms) = If (timed_arms timing kinds arms)
  timed_statement timing kinds (IfElse arms last) = IfElse (timed_arms timing kinds arms) (timed_block timing kinds last)
  timed_statement timing kinds (Repeat count each) = Repeat count (timed_block timing kinds each)

  pub timed_block : Timing → List Meaning → Block → Block
  timed_block timing kinds Empty = Empty
  timed_block timing kinds (Then b s m) = sent timing (timed_block timing kinds b) (timed_statement timing kinds s) m

  pub timed_arms : Timing → List Meaning → Arms → Arms
  timed_arms timing kinds (One t b) = One (timed_tree timing kinds t) (timed_block timing kinds b)
  timed_arms timing kinds (More a t b) = More (timed_arms timing kinds a) (timed_tree timing kinds t) (timed_block timing kinds b)

-- a program, in a machine with timers or without
abbrev pub timed : Option Timing → List Meaning → Block → Block
timed None kinds b = b
timed (Some timing) kinds b = timed_block timing kinds b

-- the same of an expression
abbrev pub timed_text : Option Timing → List Meaning → Tree → Tree
timed_text None kinds e = e
timed_text (Some timing) kinds e = timed_tree timing kinds e
