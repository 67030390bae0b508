-- What names stand for, and which of them may stand where.
use Rattle.std.specs.Prelude.{ℕ, ℤ, pos, negsuc, Bool, true, false, is_some, not, ◌&&◌, ◌||◌, List, [], ◌∷◌, ◌++◌, map, Option, Some, None, nat_eq, nat_le, nat_lt, if◌then◌else◌, get_or}
use Rattle.tw_machine_text.specs.declared.words.Operator.TheVariants.{Comma, Colon}
use Rattle.tw_machine_text.specs.declared.kinds.Field.{Field}
use Rattle.tw_machine_text.specs.declared.kinds.Kind.{Kind}
use Rattle.tw_machine_text.specs.declared.kinds.Meaning.{Meaning}
use Rattle.tw_machine_text.specs.declared.kinds.Member.{Member}
use Rattle.tw_machine_text.specs.declared.kinds.Member.TheVariants.{Value, Each, Shown}
use Rattle.tw_machine_text.specs.declared.kinds.Kind.TheVariants.{Nothing, Register, RegisterArray, Queue, QueueArray, Table, Parameter, Constant, Observation, Procedure, Timer, TimerArray}
use Rattle.tw_machine_text.specs.declared.words.Deed.{Deed}
use Rattle.tw_machine_text.specs.declared.words.Deed.TheVariants as deed
use Rattle.tw_machine_text.specs.declared.words.Verb.{Verb}
use Rattle.tw_machine_text.specs.declared.words.Verb.TheVariants as verb
use Rattle.tw_machine_text.specs.Letters.{same_text, functions, item_number, own_names}
use Rattle.tw_machine_text.specs.Limits.{max_turns}
use Rattle.tw_machine_text.specs.Tree.{Tree, Number, Name, Known, Indexed, Call, RandomBelow, Group, Negate, Not, Binary, takes_numbers, SourceStatement, Assign, Act, Treat, Draw, Wait, Passivate, Start, Send, If, IfElse, Repeat, Block, Empty, Then, Arms, One, More}

-- what a name that nothing has stands for
abbrev pub no_meaning : Meaning
no_meaning = record { kind = Nothing; field = None }

-- what is declared by a name; where it is declared twice, by the first
abbrev pub meaning_named : List (List ℕ × Meaning) → List ℕ → Meaning
meaning_named [] name = no_meaning
meaning_named (d ∷ ds) name = if same_text d.0 name then d.1 else meaning_named ds name

-- a function's name is no field's
abbrev pub without_field : Meaning → Meaning
without_field m = record { kind = m.kind; field = None }

-- what each name stands for, by its number: first the functions' names, then those that are declared
abbrev pub kinds_of : List (List ℕ × Meaning) → List Meaning
kinds_of declared = map (λ f. without_field (meaning_named declared f)) functions ++ map (λ d. d.1) declared

-- what the machine declares by the name of this number
abbrev pub stands_for : List Meaning → ℕ → Kind
stands_for kinds n = (get_or kinds n no_meaning).kind

-- the field that this name names before a parenthesis
abbrev pub field_of : List Meaning → ℕ → Option Field
field_of kinds n = (get_or kinds n no_meaning).field

abbrev pub is_field : List Meaning → ℕ → Bool
is_field kinds n = is_some (field_of kinds n)

abbrev pub reads : Kind → Bool
reads Register = true
reads Parameter = true
reads (Constant n) = true
reads _ = false

abbrev pub indexes : Kind → Bool
indexes RegisterArray = true
indexes Table = true
indexes _ = false

abbrev pub is_register : Kind → Bool
is_register Register = true
is_register _ = false

abbrev pub is_register_array : Kind → Bool
is_register_array RegisterArray = true
is_register_array _ = false

abbrev pub is_queue : Kind → Bool
is_queue Queue = true
is_queue _ = false

abbrev pub is_queue_array : Kind → Bool
is_queue_array QueueArray = true
is_queue_array _ = false

-- whether a number may say how often something is repeated
abbrev pub is_turns : ℤ → Bool
is_turns (pos n) = nat_le n max_turns
is_turns (negsuc n) = false

-- a parameter may, and a number that the file says once where it is one of 0 to 64
abbrev pub counts_turns : Kind → Bool
counts_turns Parameter = true
counts_turns (Constant n) = is_turns n
counts_turns _ = false

abbrev pub is_table : Kind → Bool
is_table Table = true
is_table _ = false

abbrev pub is_observation : Kind → Bool
is_observation Observation = true
is_observation _ = false

-- one timer, and one of so many alike
abbrev pub is_timer : Kind → Bool
is_timer (Timer before) = true
is_timer _ = false

abbrev pub is_timer_array : Kind → Bool
is_timer_array (TimerArray before last) = true
is_timer_array _ = false

-- whether a function is one of a timer, `running` or `rest`
abbrev pub takes_timer : ℕ → Bool
takes_timer n = nat_le 12 n && nat_lt n 14

-- timers that are alike, by their name
abbrev pub is_timers_name : List Meaning → Tree → Bool
is_timers_name kinds (Name n) = is_timer_array (stands_for kinds n)
is_timers_name kinds _ = false

-- whether a function is one of a table, `length` or `sample`
abbrev pub takes_table : ℕ → Bool
takes_table n = nat_eq n 3 || nat_eq n 10

-- or one whose first argument is a queue, from `length` to `place`
abbrev pub takes_queue : ℕ → Bool
takes_queue n = nat_le 3 n && nat_lt n 10

-- a table by its name
abbrev pub is_table_name : List Meaning → Tree → Bool
is_table_name kinds (Name n) = is_table (stands_for kinds n)
is_table_name kinds _ = false

-- whether the name of a call is a function's or a field's
abbrev pub is_called : List Meaning → ℕ → Bool
is_called kinds n = nat_lt n own_names || is_field kinds n

-- whether a field is given a number among these
abbrev pub is_given : ℕ → Tree → Bool
is_given n (Binary Colon (Name m) e) = nat_eq n m
is_given n (Binary Colon (Binary Comma before (Name m)) e) = nat_eq n m || is_given n before
is_given n _ = false

-- a field that is given no number among these
abbrev pub is_new_field : List Meaning → (before named : Tree) → Bool
is_new_field kinds before (Name n) = is_field kinds n && not (is_given n before)
is_new_field kinds before _ = false

abbrev mutual
  -- an expression, or arguments of which none is a queue, a table or a timer
  pub bound : List Meaning → Tree → Bool
  bound kinds (Number n) = true
  bound kinds (Name n) = reads (stands_for kinds n)
  bound kinds (Known g) = true
  bound kinds (Indexed n e) = indexes (stands_for kinds n) && bound kinds e
  bound kinds (Call n e) = if takes_numbers n then is_called kinds n && bound kinds e else (takes_table n && is_table_name kinds e) || (takes_queue n && bound_queue kinds e) || (takes_timer n && bound_timer kinds e) || (nat_eq n 14 && is_timers_name kinds e) || (nat_eq n item_number && bound_fields kinds e)
  bound kinds (RandomBelow e) = bound kinds e
  bound kinds (Group e) = bound kinds e
  bound kinds (Negate e) = bound kinds e
  bound kinds (Not e) = bound kinds e
  bound kinds (Binary Colon a b) = false
  bound kinds (Binary op a b) = bound kinds a && bound kinds b

  -- fields, each with its number, and none twice
  pub bound_fields : List Meaning → Tree → Bool
  bound_fields kinds (Binary Colon named e) = bound_last kinds named && bound kinds e
  bound_fields kinds _ = false

  -- the last of them, behind the others with their numbers
  pub bound_last : List Meaning → Tree → Bool
  bound_last kinds (Name n) = is_field kinds n
  bound_last kinds (Binary Comma before named) = bound_fields kinds before && is_new_field kinds before named
  bound_last kinds _ = false

  -- a queue, or arguments of which the first is one
  pub bound_queue : List Meaning → Tree → Bool
  bound_queue kinds (Name n) = is_queue (stands_for kinds n)
  bound_queue kinds (Indexed n e) = is_queue_array (stands_for kinds n) && bound kinds e
  bound_queue kinds (Binary Comma a b) = bound_queue kinds a && bound kinds b
  bound_queue kinds _ = false

  -- a timer
  pub bound_timer : List Meaning → Tree → Bool
  bound_timer kinds (Name n) = is_timer (stands_for kinds n)
  bound_timer kinds (Indexed n e) = is_timer_array (stands_for kinds n) && bound kinds e
  bound_timer kinds _ = false

-- a register, or a cell of an array of them
abbrev pub bound_place : List Meaning → Tree → Bool
bound_place kinds (Name n) = is_register (stands_for kinds n)
bound_place kinds (Indexed n e) = is_register_array (stands_for kinds n) && bound kinds e
bound_place kinds _ = false

-- how many turns are made: 0 to 64, a parameter, or a number of the file
abbrev pub bound_count : List Meaning → Tree → Bool
bound_count kinds (Number n) = nat_le n max_turns
bound_count kinds (Name n) = counts_turns (stands_for kinds n)
bound_count kinds _ = false

-- an observation
abbrev pub bound_observation : List Meaning → Tree → Bool
bound_observation kinds (Name n) = is_observation (stands_for kinds n)
bound_observation kinds _ = false

-- a procedure
abbrev pub is_procedure : Kind → Bool
is_procedure (Procedure k) = true
is_procedure _ = false

-- one of the first so many
abbrev pub is_among : ℕ → Kind → Bool
is_among known (Procedure k) = nat_lt k known
is_among known _ = false

abbrev pub bound_procedure : List Meaning → Tree → Bool
bound_procedure kinds (Name n) = is_procedure (stands_for kinds n)
bound_procedure kinds _ = false

-- what is treated: a procedure, a timer, or a queue
abbrev pub bound_treated : List Meaning → Deed → Tree → Bool
bound_treated kinds deed.Do p = bound_procedure kinds p
bound_treated kinds deed.Stop t = bound_timer kinds t
bound_treated kinds d q = bound_queue kinds q

-- what a verb is said of: an observation, or a queue
abbrev pub bound_object : List Meaning → Verb → Tree → Bool
bound_object kinds verb.Observe q = bound_observation kinds q
bound_object kinds v q = bound_queue kinds q

abbrev mutual
  pub bound_statement : List Meaning → SourceStatement → Bool
  bound_statement kinds (Assign p c e) = bound_place kinds p && bound kinds e
  bound_statement kinds (Act v q e) = bound_object kinds v q && bound kinds e
  bound_statement kinds (Treat d q) = bound_treated kinds d q
  bound_statement kinds Draw = true
  bound_statement kinds (Wait e) = bound kinds e
  bound_statement kinds Passivate = true
  bound_statement kinds (Start t e) = bound_timer kinds t && bound kinds e
  bound_statement kinds (Send e) = bound kinds e
  bound_statement kinds (If arms) = bound_arms kinds arms
  bound_statement kinds (IfElse arms b) = bound_arms kinds arms && bound_block kinds b
  bound_statement kinds (Repeat n b) = bound_count kinds n && bound_block kinds b

  pub bound_block : List Meaning → Block → Bool
  bound_block kinds Empty = true
  bound_block kinds (Then b s m) = bound_block kinds b && bound_statement kinds s

  pub bound_arms : List Meaning → Arms → Bool
  bound_arms kinds (One t b) = bound kinds t && bound_block kinds b
  bound_arms kinds (More a t b) = bound_arms kinds a && bound kinds t && bound_block kinds b

-- only the first so many procedures are used: those that stand before
abbrev mutual
  pub uses_statement : List Meaning → ℕ → SourceStatement → Bool
  uses_statement kinds known (Treat deed.Do (Name n)) = is_among known (stands_for kinds n)
  uses_statement kinds known (If arms) = uses_arms kinds known arms
  uses_statement kinds known (IfElse arms b) = uses_arms kinds known arms && uses kinds known b
  uses_statement kinds known (Repeat n b) = uses kinds known b
  uses_statement kinds known _ = true

  pub uses : List Meaning → ℕ → Block → Bool
  uses kinds known Empty = true
  uses kinds known (Then b s m) = uses kinds known b && uses_statement kinds known s

  pub uses_arms : List Meaning → ℕ → Arms → Bool
  uses_arms kinds known (One t b) = uses kinds known b
  uses_arms kinds known (More a t b) = uses_arms kinds known a && uses kinds known b

-- what stands in words beside expressions: a queue, one of an array by its number, an array register, an observation
abbrev pub is_shown : List Meaning → Tree → Bool
is_shown kinds (Name n) = is_queue (stands_for kinds n) || is_register_array (stands_for kinds n) || is_observation (stands_for kinds n)
is_shown kinds (Indexed n (Number i)) = is_queue_array (stands_for kinds n)
is_shown kinds _ = false

-- what a member's text may be
abbrev pub bound_as : Member → List Meaning → Tree → Bool
bound_as Value kinds e = bound kinds e
bound_as Each kinds e = bound_queue kinds e
bound_as Shown kinds e = is_shown kinds e || bound kinds e

abbrev pub is_empty : Block → Bool
is_empty Empty = true
is_empty _ = false

abbrev pub waits : SourceStatement → Option Tree
waits (Wait e) = Some e
waits _ = None

-- the expression of a program that is one `wait`
abbrev pub waited : Block → Option Tree
waited (Then b s false) = if is_empty b then waits s else None
waited _ = None
