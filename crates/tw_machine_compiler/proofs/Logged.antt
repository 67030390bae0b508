-- A machine within its limits is within those of any program: two numbers are logged at the most for each computation, 524,288 for 262,144 of them.
use Rattle.std.proofs.Common.{◌≡◌, ℕ, ℤ, ◌+◌, ◌*◌, ◌≤◌, max, sum, length, Bool, true, false, List, Option, Some, None, refl, arith}
use Rattle.std.proofs.Math.Nat.{mul-le-mul}
use Rattle.std.specs.Prelude.{nat_le, nat_lt, not, ◌&&◌, sum_by, if◌then◌else◌}
use Rattle.std.proofs.lemmas.Bool.{leb-true, ltb-false, le-ltb}
use Rattle.tw_machine.specs.declared.language.Expr.{Expr}
use Rattle.tw_machine.specs.declared.language.Target.{Target}
use Rattle.tw_machine.specs.declared.language.Statement.{Statement}
use Rattle.tw_machine.specs.declared.language.Statement.TheVariants.{Skip}
use Rattle.tw_machine.specs.Undoing.{needs}
use Rattle.tw_machine.specs.Program.{ProgramText}
use Rattle.tw_machine.specs.declared.program.BadProgram.TheVariants as any
use Rattle.tw_machine.specs.Limits.{fault_of}
use Rattle.tw_machine_text.specs.declared.words.SourceChange.{SourceChange}
use Rattle.tw_machine_text.specs.declared.words.SourceChange.TheVariants.{Set, Add, Subtract, Xor}
use Rattle.tw_machine_text.specs.declared.words.Verb.{Verb}
use Rattle.tw_machine_text.specs.declared.words.Verb.TheVariants.{Push, Insert, Remove, Put, Observe}
use Rattle.tw_machine_text.specs.declared.words.Deed.{Deed}
use Rattle.tw_machine_text.specs.declared.words.Deed.TheVariants.{Pop, Clear, Do, Stop}
use Rattle.tw_machine_text.specs.declared.words.Operator.TheVariants.{Comma}
use Rattle.tw_machine_text.specs.Tree.{Tree, Number, Name, Known, Indexed, Call, RandomBelow, Group, Negate, Not, Binary, SourceStatement, Assign, Act, Treat, Draw, Wait, Passivate, Start, Send, If, IfElse, Repeat, Block, Empty, Then, Arms, One, More}
use Rattle.tw_machine_declaration.specs.Seen.{Declaration}
use Rattle.tw_machine_declaration.specs.declared.names.Standing.{Standing}
use Rattle.tw_machine_declaration.specs.Turns.{written_turns}
use Rattle.tw_machine_declaration.specs.Work.{queue_room, left, work, counted_turns, statement_work, block_work, tests_work, greatest_work}
use Rattle.tw_machine_declaration.specs.Members.{all_nodes, output_work, word_work}
use Rattle.tw_machine_compiler.specs.declared.limits.BadMachine.{BadMachine}
use Rattle.tw_machine_compiler.specs.declared.limits.BadMachine.TheVariants.{TooManyCells, TooManyQueues, TooMuchRoom, TooManyNumbers, TooManyNodes, TooManyLevels, TooManyComputations}
use Rattle.tw_machine.specs.Seen.{branch}
use Rattle.tw_machine_compiler.specs.Expressions.{expression, queue}
use Rattle.tw_machine_compiler.specs.Statements.{cell, assigned, put, acted, treated, turns, statement, block, chosen}
use Rattle.tw_machine_compiler.specs.Limits.{register_cells, has_few_cells, has_few_levels, limit}

work-some : (ss : List Standing) (e : Tree) → 1 ≤ work ss e
work-some ss (Number n) = omega arith
work-some ss (Name n) = omega arith
work-some ss (Known g) = omega arith
work-some ss (Indexed n e) = omega arith
work-some ss (Call n e) = omega arith
work-some ss (RandomBelow e) = omega arith
work-some ss (Group e) = work-some ss e
work-some ss (Negate e) = omega arith
work-some ss (Not e) = omega arith
work-some ss (Binary Comma a b) = omega (arith, work-some ss a)
work-some ss (Binary op a b) = omega arith

assigned-needs : (change : SourceChange) (t : Target) (e : Expr) → needs (assigned change t e) ≤ 2
assigned-needs Set t e = omega arith
assigned-needs Add t e = omega arith
assigned-needs Subtract t e = omega arith
assigned-needs Xor t e = omega arith

put-needs : (ss : List Standing) (q : Target) (e : Tree) → needs (put ss q e) ≤ 3
put-needs ss q (Binary Comma place e) = omega arith
put-needs ss q e = omega arith

acted-needs : (ss : List Standing) (verb : Verb) (q : Target) (e : Tree) → needs (acted ss verb q e) ≤ 4
acted-needs ss Push q e = omega arith
acted-needs ss Insert q e = omega arith
acted-needs ss Remove q e = omega arith
acted-needs ss Put q e = omega (arith, put-needs ss q e)
acted-needs ss Observe q e = omega arith

treated-needs : (deed : Deed) (q : Target) (room : ℕ) → needs (treated deed q room) ≤ 4 + left deed room
treated-needs Pop q room = omega arith
treated-needs Clear q room = omega arith
treated-needs Do q room = omega arith
treated-needs Stop q room = omega arith

tests-some : (ss : List Standing) (arms : Arms) → 1 ≤ tests_work ss arms
tests-some ss (One test b) = work-some ss test
tests-some ss (More before test b) = omega (arith, work-some ss test)

turns-counted : (n : Option ℤ) → turns n ≤ counted_turns n
turns-counted (Some n) = omega arith
turns-counted None = omega arith

repeated-needs : (t c a w : ℕ) → t ≤ c → a ≤ 2 * w → t * a ≤ 2 * (2 + c * w)
repeated-needs t c a w few each =
    let step : t * a ≤ c * (2 * w) = mul-le-mul few each in
    let same : c * (2 * w) ≡ 2 * (c * w) = omega arith in
    omega (arith, step, same)

mutual
  statement-needs : (ss : List Standing) (x : SourceStatement) → needs (statement ss x) ≤ 2 * statement_work ss x
  statement-needs ss (Assign place change e) =
      omega (arith, assigned-needs change (cell ss place) (expression ss e), work-some ss place)
  statement-needs ss (Act verb q e) =
      omega (arith, acted-needs ss verb (queue ss q) e, work-some ss q, work-some ss e)
  statement-needs ss (Treat d q) = omega (arith, treated-needs d (queue ss q) (queue_room ss q), work-some ss q)
  statement-needs ss Draw = omega arith
  statement-needs ss (Wait e) = omega arith
  statement-needs ss Passivate = omega arith
  statement-needs ss (Start t e) = omega arith
  statement-needs ss (Send e) = omega arith
  statement-needs ss (If arms) = omega (arith, chosen-needs ss arms Skip 0 (omega arith), tests-some ss arms)
  statement-needs ss (IfElse arms last) =
      omega (arith, chosen-needs ss arms (block ss last) (2 * block_work ss last) (block-needs ss last), tests-some ss arms)
  statement-needs ss (Repeat count each) =
      repeated-needs (turns (written_turns ss count)) (counted_turns (written_turns ss count)) (needs (block ss each)) (block_work ss each)
      (turns-counted (written_turns ss count)) (block-needs ss each)

  pub block-needs : (ss : List Standing) (b : Block) → needs (block ss b) ≤ 2 * block_work ss b
  block-needs ss Empty = omega arith
  block-needs ss (Then before last marked) = omega (arith, block-needs ss before, statement-needs ss last)

  -- each arm logs its block, and that it was the one
  chosen-needs : (ss : List Standing) (arms : Arms) (last : Statement) (n : ℕ) → needs last ≤ n → needs (chosen ss arms last) ≤ max (2 * greatest_work ss arms) n + tests_work ss arms
  chosen-needs ss (One test b) last n few = omega (arith, few, block-needs ss b, work-some ss test)
  chosen-needs ss (More before test b) last n few =
      let later = branch (expression ss test) (block ss b) last in
      let m = max (2 * block_work ss b) n + 1 in
      omega (arith, chosen-needs ss before later m (omega (arith, few, block-needs ss b)), work-some ss test)

-- none of the tests before the outputs' computations holds
record Passed (a b c d e f : Bool) : Type 0 where
  pub cells : a ≡ false
  pub queues : b ≡ false
  pub room : c ≡ false
  pub numbers : d ≡ false
  pub internal : e ≡ false
  pub external : f ≡ false

passed : (a b c d e f g h : Bool) (rest : Option BadMachine) → (if a then Some TooManyCells else if b then Some TooManyQueues else if c then Some TooMuchRoom else if d then Some TooManyNumbers else if e then Some TooManyNodes else if f then Some TooManyLevels else if g then Some TooManyComputations else if h then Some TooManyComputations else rest) ≡ None → Passed a b c d g h
passed true b c d e f g h rest is = absurd (cc is)
passed false true c d e f g h rest is = absurd (cc is)
passed false false true d e f g h rest is = absurd (cc is)
passed false false false true e f g h rest is = absurd (cc is)
passed false false false false true f g h rest is = absurd (cc is)
passed false false false false false true g h rest is = absurd (cc is)
passed false false false false false false true h rest is = absurd (cc is)
passed false false false false false false false true rest is = absurd (cc is)
passed false false false false false false false false rest is = record { cells = refl; queues = refl; room = refl; numbers = refl; internal = refl; external = refl }

few_logged : (m n i e : ℕ) → m ≤ 2 * i → n ≤ 2 * e → nat_lt 262144 i ≡ false → nat_lt 262144 e ≡ false → nat_lt 1048575 (max m n) ≡ false
few_logged m n i e f g h k = le-ltb 1048575 (max m n) (omega (arith, f, g, ltb-false 262144 i h, ltb-false 262144 e k))

within : (a b c d e : Bool) → a ≡ false → b ≡ false → c ≡ false → d ≡ false → e ≡ false → (if a then Some any.TooManyCells else if b then Some any.TooManyQueues else if c then Some any.TooMuchRoom else if d then Some any.TooManyNumbers else if e then Some any.TooMuchLogged else None) ≡ None
within a b c d e f g h i j = rw (f, g, h, i, j) refl

not_more : (n : ℕ) (b : Bool) → nat_le n 256 ≡ b → not (true && b) ≡ false → n ≤ 256
not_more n true e h = leb-true n 256 e
not_more n false e h = absurd (cc h)

-- a program whose registers have few cells has few cells
few_cells : (few : Bool) (n : ℕ) → not (few && nat_le n 256) ≡ false → nat_lt 256 n ≡ false
few_cells true n h = le-ltb 256 n (not_more n (nat_le n 256) refl h)
few_cells false n h = absurd (cc h)

pub within_any : (ss : List Standing) (d : Declaration) (p : ProgramText) → p.internal ≡ block ss d.internal → p.external ≡ block ss d.external → limit ss d p ≡ None → fault_of p ≡ None
within_any ss d p e f h =
    let outputs = sum_by (output_work ss) d.outputs in
    let words = sum_by (word_work ss) d.words in
    let rest : Option BadMachine = if nat_lt 262144 outputs then Some TooManyComputations else if nat_lt 262144 words then Some TooManyComputations else None in
    let q = passed (not (has_few_cells d.names p)) (nat_lt 16 (length p.rooms)) (nat_lt 4096 (sum p.rooms)) (nat_lt 65536 (length p.numbers)) (nat_lt 4096 (all_nodes d)) (not (has_few_levels d)) (nat_lt 262144 (block_work ss d.internal)) (nat_lt 262144 (block_work ss d.external)) rest h in
    let internal : needs p.internal ≤ 2 * block_work ss d.internal = rw e (block-needs ss d.internal) in
    let external : needs p.external ≤ 2 * block_work ss d.external = rw f (block-needs ss d.external) in
    let logged = few_logged (needs p.internal) (needs p.external) (block_work ss d.internal) (block_work ss d.external) internal external q.internal q.external in
    let cells = few_cells (nat_le (register_cells d.names) 64) (length p.cells) q.cells in
    within (nat_lt 256 (length p.cells)) (nat_lt 16 (length p.rooms)) (nat_lt 4096 (sum p.rooms)) (nat_lt 65536 (length p.numbers)) (nat_lt 1048575 (max (needs p.internal) (needs p.external))) cells q.queues q.room q.numbers logged
