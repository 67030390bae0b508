-- What a machine with timers does, sends and waits for, in the core of the language: its program `internal` is that of the timer that goes, and each program ends with the choice of the next one.
use Rattle.std.specs.Prelude.{ℕ, ℤ, pos, negsuc, suc, ◌+◌, ◌*◌, min, Bool, true, false, not, ◌||◌, List, [], ◌∷◌, ◌++◌, map, take, codes, unwrap_or, nat_eq, Option, Some, None, if◌then◌else◌}
use Rattle.tw_machine_text.specs.declared.kinds.Timing.{Timing}
use Rattle.tw_machine_text.specs.declared.words.Builtin.TheVariants.{Value, Now, Turn}
use Rattle.tw_machine_text.specs.declared.words.Deed.TheVariants.{Clear}
use Rattle.tw_machine_text.specs.declared.words.Operator.TheVariants.{Comma, And, Or, Equal, Less, Greater, GreaterEqual, Minus}
use Rattle.tw_machine_text.specs.declared.words.SourceChange.TheVariants.{Set}
use Rattle.tw_machine_text.specs.declared.words.Verb.TheVariants.{Push}
use Rattle.tw_machine_text.specs.Desugared.{joined}
use Rattle.tw_machine_text.specs.Letters.{own_names}
use Rattle.tw_machine_text.specs.Timers.{minus_one}
use Rattle.tw_machine_text.specs.Tree.{Tree, Number, Name, Known, Indexed, Call, Group, Binary, SourceStatement, Assign, Act, Treat, Wait, Passivate, If, IfElse, Repeat, Block, Empty, Then, Arms, One, More}
use Rattle.tw_machine_declaration.specs.declared.declaration.Constant.{Constant}
use Rattle.tw_machine_declaration.specs.declared.declaration.Constant.TheVariants as c
use Rattle.tw_machine_declaration.specs.declared.declaration.Timer.{Timer}
use Rattle.tw_machine_declaration.specs.Limits.{max_timer_names, outbox}
use Rattle.tw_machine_declaration.specs.Seen.{Timers, Name as Declared, Declares, queue, number, together, greatest, due, next, Value as Said, whole, tree, Output}

-- ---- the hidden names

-- By their numbers, from the first on: the ticks at which timers are due, the timer that goes next, the least number of ticks; of each timer how many are before it, and its greatest index; how many there are together; the ports and the values of what is to be sent.
pub record Names : Type 0 where
  pub first : ℕ
  pub timers : ℕ

-- behind so many names that a machine declares, its timers among them; it has at most 16
abbrev pub names_behind : (declared timers : ℕ) → Names
names_behind declared timers = record { first = own_names + declared; timers = min timers max_timer_names }

abbrev pub due_name : Names → ℕ
due_name n = n.first

abbrev pub next_name : Names → ℕ
next_name n = n.first + 1

abbrev pub least_name : Names → ℕ
least_name n = n.first + 2

-- how many timers are before the one at place k in the file; behind the last, how many there are
abbrev pub before_name : Names → ℕ → ℕ
before_name n k = n.first + 3 + 2 * min k n.timers

abbrev pub greatest_name : Names → ℕ → ℕ
greatest_name n k = n.first + 4 + 2 * min k n.timers

abbrev pub ports_name : Names → ℕ
ports_name n = n.first + 4 + 2 * n.timers

abbrev pub values_name : Names → ℕ
values_name n = n.first + 5 + 2 * n.timers

-- the names for the texts' reader; of is the name of how many are before the timer that a text is of
abbrev pub timing : Names → Option ℕ → Timing
timing n of = record { due = due_name n; next = next_name n; least = least_name n; ports = ports_name n; values = values_name n; of = of }

-- each with what it is the name of. No text names them: a blank stands in each
abbrev pub before_hidden : List Timer → Declared
before_hidden ts = (codes " before", together ts)

-- of each of all timers from place k on, and behind them how many there are
abbrev pub each_hidden : (all : List Timer) → ℕ → List Timer → List Declared
each_hidden all k [] = before_hidden (take k all) ∷ []
each_hidden all k (t ∷ ts) = before_hidden (take k all) ∷ (codes " greatest", greatest t) ∷ each_hidden all (k + 1) ts

abbrev pub least_said : Option Constant → Constant
least_said least = unwrap_or least (c.Number (pos 0))

abbrev pub outbox_queue : Declares
outbox_queue = queue (c.Number (pos outbox))

-- the two queues are there where something is sent
abbrev pub queues_hidden : Bool → List Declared
queues_hidden true = (codes " ports", outbox_queue) ∷ (codes " values", outbox_queue) ∷ []
queues_hidden false = []

abbrev pub hidden : Timers → Bool → List Declared
hidden ts sends = (codes " due", due ts) ∷ (codes " next", next ts) ∷ (codes " least", number (least_said ts.least)) ∷ each_hidden ts.each 0 ts.each ++ queues_hidden sends

-- ---- whether something is sent

-- `push` on a queue, by its name, stands in a program
abbrev pub is_name : ℕ → Tree → Bool
is_name n (Name m) = nat_eq n m
is_name n _ = false

abbrev mutual
  pub pushes_statement : ℕ → SourceStatement → Bool
  pushes_statement n (Act Push q e) = is_name n q
  pushes_statement n (If arms) = pushes_arms n arms
  pushes_statement n (IfElse arms last) = pushes_arms n arms || pushes n last
  pushes_statement n (Repeat count each) = pushes n each
  pushes_statement n _ = false

  pub pushes : ℕ → Block → Bool
  pushes n Empty = false
  pushes n (Then b s m) = pushes n b || pushes_statement n s

  pub pushes_arms : ℕ → Arms → Bool
  pushes_arms n (One test b) = pushes n b
  pushes_arms n (More before test b) = pushes_arms n before || pushes n b

-- ---- the end of both programs

abbrev pub zero_tree : Tree
zero_tree = Number 0

-- when the timer at a place is due
abbrev pub due_at : Names → Tree → Tree
due_at n place = Indexed (due_name n) place

abbrev pub next_tree : Names → Tree
next_tree n = Name (next_name n)

-- `due[turn] >= 0 and (next < 0 or due[turn] < due[next])`
abbrev pub goes_sooner : Names → Tree
goes_sooner n =
    Binary And (Binary GreaterEqual (due_at n (Known Turn)) zero_tree)
    (Group (Binary Or (Binary Less (next_tree n) zero_tree) (Binary Less (due_at n (Known Turn)) (due_at n (next_tree n)))))

abbrev pub only : SourceStatement → Block
only s = Then Empty s false

-- `repeat N { if .. { next = turn } }`
abbrev pub looked : Names → SourceStatement
looked n = Repeat (Name (before_name n n.timers)) (only (If (One (goes_sooner n) (only (Assign (next_tree n) Set (Known Turn))))))

-- `next = -1  repeat N {..}`: `next` is the first of the timers that are due soonest. Without timers there is none
abbrev pub choice_behind : Names → Block → Block
choice_behind n b = if nat_eq n.timers 0 then b else Then (Then b (Assign (next_tree n) Set minus_one) false) (looked n) false

-- `length(ports) > 0`: something is to be sent
abbrev pub is_to_send : Names → Tree
is_to_send n = Binary Greater (Call 3 (Name (ports_name n))) zero_tree

-- `next < 0`: no timer runs
abbrev pub none_runs : Names → Tree
none_runs n = Binary Less (next_tree n) zero_tree

abbrev pub waits : Tree → Block
waits e = only (Wait e)

-- `due[next] - now`
abbrev pub next_rest : Names → Tree
next_rest n = Binary Minus (due_at n (next_tree n)) (Known Now)

-- no timer runs, and nothing is waited for, behind other arms
abbrev pub passive_behind : Names → Option Arms → Arms
passive_behind n (Some arms) = More arms (none_runs n) (only Passivate)
passive_behind n None = One (none_runs n) (only Passivate)

-- `if length(ports) > 0 { wait 0 } else if next < 0 { passivate } else { wait due[next] - now }`, the first where something is sent, the others where there are timers
abbrev pub waiting : Names → (sends timed : Bool) → SourceStatement
waiting n true true = IfElse (passive_behind n (Some (One (is_to_send n) (waits zero_tree)))) (waits (next_rest n))
waiting n true false = IfElse (One (is_to_send n) (waits zero_tree)) (only Passivate)
waiting n false true = IfElse (passive_behind n None) (waits (next_rest n))
waiting n false false = Passivate

abbrev pub is_timed : Names → Bool
is_timed n = not (nat_eq n.timers 0)

-- a program with its end
abbrev pub ended : Names → (sends : Bool) → Block → Block
ended n sends b = Then (choice_behind n b) (waiting n sends (is_timed n)) false

-- ---- what is done when a timer is due

-- `due[next] = -1`
abbrev pub stopped : Names → Block
stopped n = only (Assign (due_at n (next_tree n)) Set minus_one)

-- `next < b`, where b timers are before the one at place k in the file
abbrev pub lies_before : Names → ℕ → Tree
lies_before n k = Binary Less (next_tree n) (Name (before_name n k))

-- the program of the timer that goes, of those from place k on, behind the arms of those before: the last as `else`
abbrev pub told_apart : Names → ℕ → Arms → Block → List Block → SourceStatement
told_apart n k arms does [] = IfElse arms does
told_apart n k arms does (more ∷ rest) = told_apart n (suc k) (More arms (lies_before n (suc k)) does) more rest

-- the timer that goes is stopped, and its program runs
abbrev pub goes : Names → List Block → Block
goes n [] = Empty
goes n (does ∷ []) = joined (stopped n) does
goes n (does ∷ more ∷ rest) = Then (stopped n) (told_apart n 1 (One (lies_before n 1) does) more rest) false

-- `clear ports  clear values`
abbrev pub emptied : Names → Block
emptied n = Then (only (Treat Clear (Name (ports_name n)))) (Treat Clear (Name (values_name n))) false

-- where something is to be sent it is gone, and no timer goes
abbrev pub sends_or_goes : Names → (sends timed : Bool) → List Block → Block
sends_or_goes n true true does = only (IfElse (One (is_to_send n) (emptied n)) (goes n does))
sends_or_goes n true false does = emptied n
sends_or_goes n false timed does = goes n does

abbrev pub internal : Names → (sends : Bool) → List Block → Block
internal n sends does = ended n sends (sends_or_goes n sends (is_timed n) does)

-- ---- what is sent

-- an output of the timer at a place in the file, which has a count or none
pub record TimerOutput : Type 0 where
  pub timer : ℕ
  pub counted : Bool
  pub output : Output

-- `next == b`; with a count c `next >= b and next < b + c`
abbrev pub both : Option Tree → Tree → Tree
both (Some a) b = Binary And a b
both None b = b

abbrev pub lies_in : Names → ℕ → (counted : Bool) → Option Tree → Tree
lies_in n k true a = Binary And (both a (Binary GreaterEqual (next_tree n) (Name (before_name n k)))) (lies_before n (suc k))
lies_in n k false a = both a (Binary Equal (next_tree n) (Name (before_name n k)))

-- `length(ports) == 0`, where something is sent
abbrev pub nothing_to_send : Names → Bool → Option Tree
nothing_to_send n true = Some (Binary Equal (Call 3 (Name (ports_name n))) zero_tree)
nothing_to_send n false = None

-- a condition, of which counts only whether it is 0
abbrev pub is_zero : ℤ → Bool
is_zero (pos n) = nat_eq n 0
is_zero (negsuc n) = false

abbrev pub test_of : Said → Tree
test_of (whole n) = Number (if is_zero n then 0 else 1)
test_of (tree e) = e

abbrev pub with_test : Option Said → Tree → Tree
with_test None a = a
with_test (Some test) a = Binary And a (Group (test_of test))

-- an output of a timer, where that timer goes and nothing is to be sent
abbrev pub sent_by : Names → (sends : Bool) → TimerOutput → Output
sent_by n sends o =
    record {
      port = o.output.port;
      sent = o.output.sent;
      when = Some (tree (with_test o.output.when (lies_in n o.timer o.counted (nothing_to_send n sends))));
      each = o.output.each;
    }

-- what is to be sent, in the order of sending
abbrev pub outbox_output : Names → Output
outbox_output n =
    record {
      port = tree (Call 8 (Binary Comma (Name (ports_name n)) (Known Turn)));
      sent = tree (Known Value);
      when = None;
      each = Some (Name (values_name n));
    }

-- where something is sent
abbrev pub outbox_outputs : Names → (sends : Bool) → List Output
outbox_outputs n true = outbox_output n ∷ []
outbox_outputs n false = []

abbrev pub outputs : Names → (sends : Bool) → List TimerOutput → List Output
outputs n sends os = outbox_outputs n sends ++ map (sent_by n sends) os
