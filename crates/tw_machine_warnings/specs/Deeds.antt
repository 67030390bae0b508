-- What a program does somewhere: it draws, it waits, it puts something into a register or a queue, it starts a timer.
--     does d b      it has a statement that does so, in a block of it too
--     waits_twice b      of two `wait`s in one block the first is in vain
use Rattle.std.specs.Prelude.{ℕ, ◌==◌, Bool, true, false, not, ◌&&◌, ◌||◌}
use Rattle.tw_machine_text.specs.declared.words.Operator.TheVariants.{Plus}
use Rattle.tw_machine_text.specs.declared.words.SourceChange.TheVariants.{Set}
use Rattle.tw_machine_text.specs.declared.words.Verb.{Verb}
use Rattle.tw_machine_text.specs.declared.words.Verb.TheVariants.{Push, Insert, Remove, Put, Observe}
use Rattle.tw_machine_text.specs.Tree.{Tree, Name, Indexed, Binary, SourceStatement, Assign, Act, Draw, Wait, If, IfElse, Repeat, Block, Empty, Then, Arms, One, More}
use Rattle.tw_machine_warnings.specs.declared.sought.Called.{Called}
use Rattle.tw_machine_warnings.specs.declared.deeds.Doing.{Doing}
use Rattle.tw_machine_warnings.specs.declared.deeds.Doing.TheVariants as d
use Rattle.tw_machine_warnings.specs.Sought.{is_below_zero, is_called}

-- a register, a queue, or one of an array of them
abbrev pub is_of : Called → Tree → Bool
is_of c (Name n) = is_called c n
is_of c (Indexed n e) = is_called c n
is_of c _ = false

-- `remove` takes out
abbrev pub puts : Verb → Bool
puts Push = true
puts Insert = true
puts Put = true
puts Remove = false
puts Observe = false

abbrev pub is_wait : SourceStatement → Bool
is_wait (Wait e) = true
is_wait _ = false

abbrev pub is_draw : SourceStatement → Bool
is_draw Draw = true
is_draw _ = false

-- a `wait` by a number below zero
abbrev pub is_wait_back : SourceStatement → Bool
is_wait_back (Wait e) = is_below_zero e
is_wait_back _ = false

abbrev pub is_set_of : Called → SourceStatement → Bool
is_set_of c (Assign p change e) = is_of c p
is_set_of c (Act v q e) = puts v && is_of c q
is_set_of c _ = false

-- the place of a timer among all: the name that stands for how many are before it, and, with a count, its index behind that
abbrev pub is_before : ℕ → Tree → Bool
is_before before (Name n) = n == before
is_before before _ = false

abbrev pub is_place : ℕ → Tree → Bool
is_place before (Binary Plus a index) = is_before before a
is_place before e = is_before before e

abbrev pub is_due_of : ℕ → Tree → Bool
is_due_of before (Indexed n place) = is_place before place
is_due_of before _ = false

-- the tick at which a timer is due is set by `start`, and to -1 by `stop`
abbrev pub is_start_of : ℕ → SourceStatement → Bool
is_start_of before (Assign p Set e) = is_due_of before p && not (is_below_zero e)
is_start_of before _ = false

-- a statement, apart from its blocks
abbrev pub is_deed : Doing → SourceStatement → Bool
is_deed d.Draws s = is_draw s
is_deed d.Waits s = is_wait s
is_deed d.WaitsBack s = is_wait_back s
is_deed (d.Sets c) s = is_set_of c s
is_deed (d.Starts before) s = is_start_of before s

abbrev mutual
  pub does_statement : Doing → SourceStatement → Bool
  does_statement d (If arms) = does_arms d arms
  does_statement d (IfElse arms last) = does_arms d arms || does d last
  does_statement d (Repeat count each) = does d each
  does_statement d s = is_deed d s

  pub does : Doing → Block → Bool
  does d Empty = false
  does d (Then before last marked) = does d before || does_statement d last

  pub does_arms : Doing → Arms → Bool
  does_arms d (One test b) = does d b
  does_arms d (More before test b) = does_arms d before || does d b

-- ---- two waits

-- a statement of the block itself waits
abbrev pub waits_here : Block → Bool
waits_here Empty = false
waits_here (Then before last marked) = waits_here before || is_wait last

abbrev mutual
  pub twice_statement : SourceStatement → Bool
  twice_statement (If arms) = twice_arms arms
  twice_statement (IfElse arms last) = twice_arms arms || waits_twice last
  twice_statement (Repeat count each) = waits_twice each
  twice_statement _ = false

  pub waits_twice : Block → Bool
  waits_twice Empty = false
  waits_twice (Then before last marked) = (is_wait last && waits_here before) || (waits_twice before || twice_statement last)

  pub twice_arms : Arms → Bool
  twice_arms (One test b) = waits_twice b
  twice_arms (More before test b) = twice_arms before || waits_twice b
