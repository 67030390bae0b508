-- The program that a written one comes to, in the core of the language, where no `do` and no `observe` stands, no `sample`, no `roll`, no `length` of a table, and nothing of timers.
use Rattle.std.specs.Prelude.{ℕ, ◌+◌, Bool, true, false, ◌&&◌, List, [], ◌∷◌, ◌++◌, Option, Some, None, nat_le, slice_index_or, if◌then◌else◌}
use Rattle.tw_machine_text.specs.declared.kinds.Kind.{Kind}
use Rattle.tw_machine_text.specs.declared.kinds.Meaning.{Meaning}
use Rattle.tw_machine_text.specs.declared.kinds.Kind.TheVariants.{Procedure}
use Rattle.tw_machine_text.specs.declared.kinds.Timing.{Timing}
use Rattle.tw_machine_text.specs.Kinds.{stands_for}
use Rattle.tw_machine_text.specs.Timers.{timed, timed_text}
use Rattle.tw_machine_text.specs.declared.words.Operator.TheVariants.{Times}
use Rattle.tw_machine_text.specs.declared.words.SourceChange.TheVariants.{Add}
use Rattle.tw_machine_text.specs.declared.words.Deed.TheVariants.{Do}
use Rattle.tw_machine_text.specs.declared.words.Verb.TheVariants.{Observe}
use Rattle.tw_machine_text.specs.Drawn.{core_tree, draws, draws_in, draws_last, begun}
use Rattle.tw_machine_text.specs.Tree.{Tree, Number, Name, Indexed, Group, Binary, SourceStatement, Assign, Act, Treat, Draw, Wait, Passivate, Start, Send, If, IfElse, Repeat, Block, Empty, Then, Arms, One, More, deep, nodes, deep_block, nodes_statement, nodes_block}

-- a cell of an observation grows
abbrev pub grows : ℕ → ℕ → Tree → SourceStatement
grows n cell e = Assign (Indexed n (Number cell)) Add e

abbrev pub squared : Tree → Tree
squared e = Binary Times (Group e) (Group e)

-- `observe NAME e` is `NAME[0] += 1  NAME[1] += e  NAME[2] += (e) * (e)`
abbrev pub observed : Block → ℕ → Tree → Bool → Block
observed b n e m = Then (Then (Then b (grows n 0 (Number 1)) false) (grows n 1 e) false) (grows n 2 (squared e)) m

-- a statement behind others
abbrev pub behind : Block → SourceStatement → Bool → Block
behind b (Act Observe (Name n) e) m = observed b n e m
behind b s m = Then b s m

-- a statement in which a number is drawn is followed by `draw`
abbrev pub followed : Bool → Block → SourceStatement → Bool → Block
followed true b s m = Then (behind b s false) Draw m
followed false b s m = behind b s m

-- The arms of a chain of `else if`, parted behind each test in which a number is drawn: what stands behind such a test is an `if` of its own.
abbrev pub Chain : Type 0
Chain = List Arms × Arms

-- one arm more, where the test before it draws or not
abbrev pub further : Bool → Chain → Tree → Block → Chain
further true (before, arms) t b = (before ++ arms ∷ [], One t b)
further false (before, arms) t b = (before, More arms t b)

abbrev pub choice : Arms → Option Block → SourceStatement
choice arms (Some last) = IfElse arms last
choice arms None = If arms

-- what stands behind the `else` of a test that draws begins with `draw`
abbrev pub around : List Arms → SourceStatement → SourceStatement
around [] s = s
around (arms ∷ more) s = IfElse arms (Then (begun true) (around more s) false)

abbrev pub chosen : Chain → Option Block → SourceStatement
chosen (before, arms) last = around before (choice arms last)

-- where there is no `else`, a test that draws makes one
abbrev pub no_else : Bool → Option Block
no_else true = Some (begun true)
no_else false = None

abbrev mutual
  pub desugared_statement : List Meaning → SourceStatement → SourceStatement
  desugared_statement kinds (Assign p c e) = Assign (core_tree kinds p) c (core_tree kinds e)
  desugared_statement kinds (Act v q e) = Act v (core_tree kinds q) (core_tree kinds e)
  desugared_statement kinds (Treat d q) = Treat d (core_tree kinds q)
  desugared_statement kinds Draw = Draw
  desugared_statement kinds (Wait e) = Wait (core_tree kinds e)
  desugared_statement kinds Passivate = Passivate
  desugared_statement kinds (Start t e) = Start (core_tree kinds t) (core_tree kinds e)
  desugared_statement kinds (Send e) = Send (core_tree kinds e)
  desugared_statement kinds (If arms) = chosen (desugared_arms kinds arms) (no_else (draws_last arms))
  desugared_statement kinds (IfElse arms last) = chosen (desugared_arms kinds arms) (Some (desugared_behind kinds (draws_last arms) last))
  desugared_statement kinds (Repeat count each) = Repeat count (desugared_behind kinds false each)

  -- what a program comes to, behind `draw` or nothing
  pub desugared_behind : List Meaning → Bool → Block → Block
  desugared_behind kinds drawing Empty = begun drawing
  desugared_behind kinds drawing (Then b s m) = followed (draws_in s) (desugared_behind kinds drawing b) (desugared_statement kinds s) m

  pub desugared_arms : List Meaning → Arms → Chain
  desugared_arms kinds (One t b) = ([], One (core_tree kinds t) (desugared_behind kinds (draws t) b))
  desugared_arms kinds (More a t b) = further (draws_last a) (desugared_arms kinds a) (core_tree kinds t) (desugared_behind kinds (draws t) b)

-- ---- procedures

-- the statements of a program behind others
abbrev pub joined : Block → Block → Block
joined before Empty = before
joined before (Then b s m) = Then (joined before b) s m

-- the program of a procedure, by its place among those that may be used
abbrev pub procedure_of : List Block → Kind → Block
procedure_of procedures (Procedure k) = slice_index_or procedures k Empty
procedure_of procedures _ = Empty

-- a statement behind others: `do NAME` is the program in its place
abbrev pub placed : List Meaning → List Block → Block → SourceStatement → Bool → Block
placed kinds procedures b (Treat Do (Name n)) m = joined b (procedure_of procedures (stands_for kinds n))
placed kinds procedures b s m = Then b s m

abbrev mutual
  pub expanded_statement : List Meaning → List Block → SourceStatement → SourceStatement
  expanded_statement kinds procedures (If arms) = If (expanded_arms kinds procedures arms)
  expanded_statement kinds procedures (IfElse arms last) = IfElse (expanded_arms kinds procedures arms) (expanded kinds procedures last)
  expanded_statement kinds procedures (Repeat count each) = Repeat count (expanded kinds procedures each)
  expanded_statement kinds procedures s = s

  pub expanded : List Meaning → List Block → Block → Block
  expanded kinds procedures Empty = Empty
  expanded kinds procedures (Then b s m) = placed kinds procedures (expanded kinds procedures b) (expanded_statement kinds procedures s) m

  pub expanded_arms : List Meaning → List Block → Arms → Arms
  expanded_arms kinds procedures (One t b) = One t (expanded kinds procedures b)
  expanded_arms kinds procedures (More a t b) = More (expanded_arms kinds procedures a) t (expanded kinds procedures b)

-- the whole program
abbrev pub desugared_block : Option Timing → List Meaning → List Block → Block → Block
desugared_block timing kinds procedures program = expanded kinds procedures (timed timing kinds (desugared_behind kinds false program))

-- an expression
abbrev pub desugared_text : Option Timing → List Meaning → Tree → Tree
desugared_text timing kinds e = timed_text timing kinds (core_tree kinds e)

-- how many nodes it has, counted before it is put together
abbrev mutual
  pub nodes_of_statement : List Meaning → List Block → SourceStatement → ℕ
  nodes_of_statement kinds procedures (Treat Do (Name n)) = nodes_block (procedure_of procedures (stands_for kinds n))
  nodes_of_statement kinds procedures (If arms) = nodes_of_arms kinds procedures arms
  nodes_of_statement kinds procedures (IfElse arms last) = nodes_of_arms kinds procedures arms + nodes_of kinds procedures last
  nodes_of_statement kinds procedures (Repeat count each) = 1 + (nodes count + nodes_of kinds procedures each)
  nodes_of_statement kinds procedures s = nodes_statement s

  pub nodes_of : List Meaning → List Block → Block → ℕ
  nodes_of kinds procedures Empty = 0
  nodes_of kinds procedures (Then b s m) = nodes_of kinds procedures b + nodes_of_statement kinds procedures s

  pub nodes_of_arms : List Meaning → List Block → Arms → ℕ
  nodes_of_arms kinds procedures (One t b) = 1 + (nodes t + nodes_of kinds procedures b)
  nodes_of_arms kinds procedures (More a t b) = nodes_of_arms kinds procedures a + (nodes t + nodes_of kinds procedures b)

-- no deeper than so many levels, and of no more than so many nodes
abbrev pub is_within : ℕ → ℕ → Block → Bool
is_within most many program = nat_le (deep_block program) most && nat_le (nodes_block program) many

abbrev pub limited : ℕ → ℕ → Block → Option Block
limited most many program = if is_within most many program then Some program else None

-- the same of an expression
abbrev pub is_within_tree : ℕ → ℕ → Tree → Bool
is_within_tree most many e = nat_le (deep e) most && nat_le (nodes e) many

abbrev pub limited_tree : ℕ → ℕ → Tree → Option Tree
limited_tree most many e = if is_within_tree most many e then Some e else None
