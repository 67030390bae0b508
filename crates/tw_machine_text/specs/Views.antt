-- Trees and frames without where they lie in memory.
use Rattle.std.specs.Prelude.{◌≡◌, ℕ, List, Option, Some, None, Result, Ok, Err, map, reverse}
use Rattle.tw_machine_text.specs.declared.tree.SourceExpr.{SourceExpr}
use Rattle.tw_machine_text.specs.declared.tree.SourceExpr.TheVariants as expr
use Rattle.tw_machine_text.specs.declared.tree.SourceStatement.{SourceStatement}
use Rattle.tw_machine_text.specs.declared.tree.SourceStatement.TheVariants as statement
use Rattle.tw_machine_text.specs.declared.tree.Block.{Block}
use Rattle.tw_machine_text.specs.declared.tree.Block.TheVariants as block
use Rattle.tw_machine_text.specs.declared.tree.Arms.{Arms}
use Rattle.tw_machine_text.specs.declared.tree.Arms.TheVariants as arms
use Rattle.tw_machine_text.specs.declared.frames.Frame.{Frame}
use Rattle.tw_machine_text.specs.declared.frames.Frame.TheVariants as frame
use Rattle.tw_machine_text.specs.declared.frames.State.{State}
use Rattle.tw_machine_text.specs.declared.frames.State.TheVariants as state
use Rattle.tw_machine_text.specs.declared.fault.Fault.{Fault}
use Rattle.tw_machine_text.specs.declared.fault.Fault.TheVariants.{OutOfMemory, Wrong}
use Rattle.tw_machine_text.specs.declared.refused.Refused.{Refused}
use Rattle.tw_machine_text.specs.declared.refused.Refused.TheVariants as r
use Rattle.tw_machine_text.specs.declared.refusal.TextRefused.{TextRefused}
use Rattle.tw_machine_text.specs.declared.refusal.TextRefused.TheVariants as e
use Rattle.tw_machine_text.specs.Tree as t
use Rattle.tw_machine_text.specs.Machine as m
use Rattle.tw_machine_text.specs.declared.desugaring.Chain.{Chain}
use Rattle.tw_machine_text.specs.Desugared as d

abbrev pub tree : SourceExpr → t.Tree
tree (expr.Number n) = t.Number n
tree (expr.Name n) = t.Name n
tree (expr.Known g) = t.Known g
tree (expr.Indexed' n p e) = t.Indexed n (tree e)
tree (expr.Call' n p e) = t.Call n (tree e)
tree (expr.RandomBelow' p e) = t.RandomBelow (tree e)
tree (expr.Group' p e) = t.Group (tree e)
tree (expr.Negate' p e) = t.Negate (tree e)
tree (expr.Not' p e) = t.Not (tree e)
tree (expr.Binary' op p a q b) = t.Binary op (tree a) (tree b)

abbrev mutual
  pub told : SourceStatement → t.SourceStatement
  told (statement.Assign p c e) = t.Assign (tree p) c (tree e)
  told (statement.Act v q e) = t.Act v (tree q) (tree e)
  told (statement.Treat d q) = t.Treat d (tree q)
  told statement.Draw = t.Draw
  told (statement.Wait e) = t.Wait (tree e)
  told statement.Passivate = t.Passivate
  told (statement.Start timer e) = t.Start (tree timer) (tree e)
  told (statement.Send e) = t.Send (tree e)
  told (statement.If' p a) = t.If (chain a)
  told (statement.IfElse' p a q b) = t.IfElse (chain a) (body b)
  told (statement.Repeat' n p b) = t.Repeat (tree n) (body b)

  pub body : Block → t.Block
  body block.Empty = t.Empty
  body (block.Then' p b q x marked) = t.Then (body b) (told x) marked

  pub chain : Arms → t.Arms
  chain (arms.One' e p b) = t.One (tree e) (body b)
  chain (arms.More' p a e q b) = t.More (chain a) (tree e) (body b)

-- the arms of an `if`, parted behind those that draw
abbrev pub parted : Chain → d.Chain
parted c = (map chain c.before.items, chain c.last)

abbrev pub framed : Frame → m.Frame
framed (frame.Operand a op) = m.Operand (tree a) op
framed frame.InNot = m.InNot
framed frame.InNegative = m.InNegative
framed frame.InGroup = m.InGroup
framed (frame.InIndex n) = m.InIndex n
framed (frame.InCall n) = m.InCall n
framed frame.InRandom = m.InRandom
framed (frame.InPlace b) = m.InPlace (body b)
framed (frame.InChange b p c) = m.InChange (body b) (tree p) c
framed (frame.InQueue b v) = m.InQueue (body b) v
framed (frame.InItem b v q) = m.InItem (body b) v (tree q)
framed (frame.InDeed b d) = m.InDeed (body b) d
framed (frame.InWait b) = m.InWait (body b)
framed (frame.InStart b) = m.InStart (body b)
framed (frame.InTicks b timer) = m.InTicks (body b) (tree timer)
framed (frame.InSend b) = m.InSend (body b)
framed (frame.InIf b) = m.InIf (body b)
framed (frame.InElseIf b a) = m.InElseIf (body b) (chain a)
framed (frame.InCount b) = m.InCount (body b)
framed (frame.InThen b e) = m.InThen (body b) (tree e)
framed (frame.InElseThen b a e) = m.InElseThen (body b) (chain a) (tree e)
framed (frame.InElse b a) = m.InElse (body b) (chain a)
framed (frame.InTurns b e) = m.InTurns (body b) (tree e)

-- the frames of a stack, the innermost first
abbrev pub held : List Frame → List m.Frame
held frames = map framed (reverse frames)

abbrev pub seen : List m.Frame → State → m.State
seen s state.Need = m.Need s
seen s (state.Have e) = m.Have s (tree e)
seen s (state.Begin b) = m.Begin s (body b)
seen s (state.After b x) = m.After s (body b) (told x)
seen s (state.AfterThen b a) = m.AfterThen s (body b) (chain a)
seen s (state.AfterElse b a) = m.AfterElse s (body b) (chain a)

-- what a function returned, seen by view, is what the definition gives, unless memory ran out
abbrev pub Fails : {Y : Type 0} → Fault → Option Y → Type 0
Fails OutOfMemory o = Unit {0}
Fails Wrong o = o ≡ None

abbrev pub Gives : {X Y : Type 0} → (X → Y) → Result X Fault → Option Y → Type 0
Gives view (Ok x) o = o ≡ Some (view x)
Gives view (Err e) o = Fails e o

abbrev pub refused : Fault → ℕ → Refused
refused OutOfMemory i = r.OutOfMemory
refused Wrong i = r.Wrong i

-- the same of what tells which word is wrong, of which no promise is made
abbrev pub Tells : {X Y : Type 0} → (X → Y) → Result X Refused → Option Y → Type 0
Tells view (Ok x) o = o ≡ Some (view x)
Tells view (Err r.OutOfMemory) o = Unit {0}
Tells view (Err (r.Wrong i)) o = o ≡ None

-- what a text says was read, or memory ran out
abbrev pub IsReadAs : {X Y : Type 0} → (X → Y) → Result X TextRefused → Y → Type 0
IsReadAs view (Ok x) y = view x ≡ y
IsReadAs view (Err e.OutOfMemory) y = Unit {0}
IsReadAs view (Err (e.Wrong place)) y = ⊥
