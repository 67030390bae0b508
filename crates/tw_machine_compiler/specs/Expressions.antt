-- What an expression of a text is in the machine's language. A tree that no text spells is 0, and a queue that is none is nowhere.
use Rattle.std.specs.Prelude.{ℕ, ℤ, pos, min, List}
use Rattle.tw_machine.specs.declared.language.Measure.{Measure}
use Rattle.tw_machine.specs.declared.language.Leaf.{Leaf}
use Rattle.tw_machine.specs.declared.language.Leaf.TheVariants as leaf
use Rattle.tw_machine.specs.declared.language.Unary.TheVariants as unary
use Rattle.tw_machine.specs.declared.language.Binary.TheVariants as binary
use Rattle.tw_machine.specs.declared.language.Expr.{Expr}
use Rattle.tw_machine.specs.declared.language.Expr.TheVariants.{Plain}
use Rattle.tw_machine.specs.declared.language.Target.{Target}
use Rattle.tw_machine.specs.declared.language.Target.TheVariants as target
use Rattle.tw_machine_text.specs.declared.words.Builtin.{Builtin}
use Rattle.tw_machine_text.specs.declared.words.Builtin.TheVariants as builtin
use Rattle.tw_machine_text.specs.declared.words.Operator.{Operator}
use Rattle.tw_machine_text.specs.declared.words.Operator.TheVariants.{Comma, Colon, Or, And, Equal, NotEqual, Less, LessEqual, Greater, GreaterEqual, Plus, Minus, Times, Divide, Modulo}
use Rattle.tw_machine_text.specs.Tree.{Tree, Number, Name, Known, Indexed, Call, RandomBelow, Group, Negate, Not, Binary as Joined}
use Rattle.tw_machine_declaration.specs.declared.functions.Function.{Function}
use Rattle.tw_machine_declaration.specs.declared.functions.Function.TheVariants.{Measured, Applied}
use Rattle.tw_machine_declaration.specs.declared.functions.Joining.{Joining}
use Rattle.tw_machine_declaration.specs.declared.functions.Joining.TheVariants as j
use Rattle.tw_machine_declaration.specs.declared.names.Standing.{Standing}
use Rattle.tw_machine_declaration.specs.declared.names.Standing.TheVariants as s
use Rattle.tw_machine_declaration.specs.Names.{standing_at}
use Rattle.tw_machine_declaration.specs.Functions.{function_of}
use Rattle.tw_machine.specs.Seen.{one, two, choose}

abbrev pub zero_expr : Expr
zero_expr = Plain (leaf.Number (pos 0))

abbrev pub no_target : Target
no_target = target.Single 4294967295

abbrev pub known : Builtin → Leaf
known builtin.Random = leaf.Random
known builtin.Port = leaf.Port
known builtin.Value = leaf.Value
known builtin.Elapsed = leaf.Elapsed
known builtin.Left = leaf.Left
known builtin.Now = leaf.Now
known builtin.Turn = leaf.Turn
known builtin.Which = leaf.Number (pos 0)

-- the number of a text, which has none past 2^63 - 1
abbrev pub number : ℕ → ℤ
number n = pos (min n 9223372036854775807)

-- a name in an expression; that of a table is how many numbers it has
abbrev pub named : Standing → Expr
named (s.Number n) = Plain (leaf.Number n)
named (s.Cell k) = Plain (leaf.Register k)
named (s.Table span) = Plain (leaf.Number (pos span.count))
named _ = zero_expr

-- a name with its index
abbrev pub indexed : Standing → Expr → Expr
indexed (s.Cells span) index = one (unary.Cell span) index
indexed (s.Due span) index = one (unary.Cell span) index
indexed (s.Table span) index = one (unary.Table span) index
indexed _ index = zero_expr

-- a name of a queue
abbrev pub queue_named : Standing → Target
queue_named (s.Queue k room) = target.Single k
queue_named _ = no_target

-- a name of an array of queues, with its index
abbrev pub queue_indexed : Standing → Expr → Target
queue_indexed (s.Queues span room) index = target.Indexed span index
queue_indexed _ index = no_target

-- commas stand between arguments alone
abbrev pub operation : Operator → Expr → Expr → Expr
operation Comma a b = zero_expr
operation Colon a b = zero_expr
operation Or a b = two binary.Either a b
operation And a b = two binary.Both a b
operation Equal a b = two binary.Equal a b
operation NotEqual a b = two binary.Unequal a b
operation Less a b = two binary.Less a b
operation LessEqual a b = two binary.AtMost a b
operation Greater a b = two binary.Greater a b
operation GreaterEqual a b = two binary.AtLeast a b
operation Plus a b = two binary.Plus a b
operation Minus a b = two binary.Minus a b
operation Times a b = two binary.Times a b
operation Divide a b = two binary.Over a b
operation Modulo a b = two binary.Rest a b

-- what is read of a queue
abbrev pub measured : Measure → Target → Expr
measured m (target.Single k) = Plain (leaf.Queue m k)
measured m (target.Indexed span index) = one (unary.QueueAmong m span) index

-- the value at a place of a queue
abbrev pub at : Target → Expr → Expr
at (target.Single k) e = one (unary.At k) e
at (target.Indexed span index) e = two (binary.AtAmong span) index e

-- how many values at the front of a queue are not greater
abbrev pub place : Target → Expr → Expr
place (target.Single k) e = one (unary.Place k) e
place (target.Indexed span index) e = two (binary.PlaceAmong span) index e

-- a function of a queue alone, or what another is
abbrev pub by_function : Function → Target → (Joining → Expr) → Expr
by_function (Measured m) q applied = measured m q
by_function (Applied joining) q applied = applied joining

abbrev mutual
  pub expression : List Standing → Tree → Expr
  expression ss (Number n) = Plain (leaf.Number (number n))
  expression ss (Name n) = named (standing_at ss n)
  expression ss (Known g) = Plain (known g)
  expression ss (Indexed n index) = indexed (standing_at ss n) (expression ss index)
  expression ss (Call n arguments) = by_function (function_of n) (queue ss arguments) (λ joining. applied ss joining arguments)
  expression ss (RandomBelow e) = one unary.RandomBelow (expression ss e)
  expression ss (Group e) = expression ss e
  expression ss (Negate e) = one unary.Negative (expression ss e)
  expression ss (Not e) = one unary.Not (expression ss e)
  expression ss (Joined op a b) = operation op (expression ss a) (expression ss b)

  -- a function of arguments that commas part
  pub applied : List Standing → Joining → Tree → Expr
  applied ss j.Least (Joined Comma a b) = two binary.Least (expression ss a) (expression ss b)
  applied ss j.Greatest (Joined Comma a b) = two binary.Greatest (expression ss a) (expression ss b)
  applied ss j.Choose (Joined Comma before b) = choice ss before (expression ss b)
  applied ss j.At (Joined Comma q e) = at (queue ss q) (expression ss e)
  applied ss j.Place (Joined Comma q e) = place (queue ss q) (expression ss e)
  applied ss joining e = zero_expr

  -- `choose` of a test and a first value, where the second is this
  pub choice : List Standing → Tree → Expr → Expr
  choice ss (Joined Comma test a) b = choose (expression ss test) (expression ss a) b
  choice ss _ b = zero_expr

  -- a queue
  pub queue : List Standing → Tree → Target
  queue ss (Name n) = queue_named (standing_at ss n)
  queue ss (Indexed n index) = queue_indexed (standing_at ss n) (expression ss index)
  queue ss _ = no_target
