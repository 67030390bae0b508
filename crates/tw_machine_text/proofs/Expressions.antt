-- The words of an expression bring the machine to where it has that expression.
use Rattle.std.proofs.Common.{◌≡◌, ℕ, ◌+◌, ◌<◌, ◌≤◌, cond, List, [], ◌∷◌, Some, None, refl, ap, ◌∙◌, arith}
use Rattle.std.specs.Option.{option_and_then}
use Rattle.std.proofs.lemmas.Bool.{le-leb, lt-ltb}
use Rattle.std.proofs.Math.Dec.{leb}
use Rattle.std.proofs.lemmas.Bool.Decides.{nat_tests}
use Rattle.tw_machine_text.specs.declared.words.Operator.{Operator}
use Rattle.tw_machine_text.specs.declared.words.Operator.TheVariants.{Comma, Or, And, Minus}
use Rattle.tw_machine_text.specs.declared.words.Builtin.TheVariants.{Random}
use Rattle.tw_machine_text.specs.declared.words.Word.{Word}
use Rattle.tw_machine_text.specs.declared.words.Word.TheVariants as word
use Rattle.tw_machine_text.specs.Tree.{Tree, Number, Name, Known, Indexed, Call, RandomBelow, Group, Negate, Not, Binary, spelled, rank, left_rank, level, IsExpr, deep}
use Rattle.tw_machine_text.specs.Machine.{Frame, Operand, InNot, InNegative, InGroup, InIndex, InCall, InRandom, InPlace, InChange, InQueue, InItem, InDeed, InWait, InStart, InTicks, InSend, InIf, InElseIf, InCount, InThen, InElseThen, InElse, InTurns, State, Need, Have, demand, depth, reduce, nest, shift, close, close_index, step, run}

pub record Comes (most : ℕ) (s : List Frame) (t : Tree) : Type 0 where
  pub stack : List Frame
  pub top : Tree
  pub go : (ws : List Word) → run most (spelled t ws) (Need s) ≡ run most ws (Have stack top)
  pub same : (k : ℕ) → k ≤ level t → reduce k stack top ≡ reduce k s t

-- one word further
pub ahead : (most : ℕ) (w : Word) (ws : List Word) (st next : State) → step most w st ≡ Some next → run most (w ∷ ws) st ≡ run most ws next
ahead most w ws st next e = ap (option_and_then (run most ws)) e

pub nested : (most : ℕ) (f : Frame) (s : List Frame) → depth s < most → nest most f s ≡ Some (Need (f ∷ s))
nested most f s h = rw (lt-ltb (depth s) most h) refl

pub chosen : {A : Type 0} (a b : ℕ) (x y : A) → a ≤ b → cond (leb a b) x y ≡ x
chosen a b x y h = rw (le-leb a b h) refl

-- what an operator's ranks are like
pub record Ranks (op : Operator) : Type 0 where
  pub left : rank op ≤ left_rank op
  pub above : 3 ≤ rank op → 3 < left_rank op
  pub below : rank op < 7
  pub low : left_rank op < 7

pub ranks : (op : Operator) → Ranks op
ranks Comma = record { left = omega arith; above = λ h. absurd (omega arith); below = omega arith; low = omega arith }
ranks Or = record { left = omega arith; above = λ h. absurd (omega arith); below = omega arith; low = omega arith }
ranks And = record { left = omega arith; above = λ h. absurd (omega arith); below = omega arith; low = omega arith }
ranks _ = record { left = omega arith; above = λ h. omega arith; below = omega arith; low = omega arith }

pub still_past : (k r : ℕ) (s : List Frame) (a t u : Tree) (f : Frame) → r < k → cond (leb k r) (reduce k s u) (f ∷ s, t) ≡ (f ∷ s, t)
still_past k r s a t u f h = grind (arith, nat_tests)

-- an operator that binds as tightly as is asked ends nothing before its left operand
pub still : (op : Operator) (s : List Frame) (t : Tree) → demand s ≤ rank op → reduce (left_rank op) s t ≡ (s, t)
still op [] t h = refl
still op (Operand a o ∷ s) t h = let r = ranks op in still_past (left_rank op) (rank o) s a t (Binary o a t) (Operand a o) (omega (arith, (ranks op).left))
still op (InNot ∷ s) t h = still_past (left_rank op) 3 s t t (Not t) InNot ((ranks op).above h)
still op (InNegative ∷ s) t h = absurd (omega (arith, (ranks op).below))
still op (InGroup ∷ s) t h = refl
still op (InIndex n ∷ s) t h = refl
still op (InCall n ∷ s) t h = refl
still op (InRandom ∷ s) t h = refl
still op (InPlace b ∷ s) t h = refl
still op (InChange b p c ∷ s) t h = refl
still op (InQueue b v ∷ s) t h = refl
still op (InItem b v q ∷ s) t h = refl
still op (InDeed b d ∷ s) t h = refl
still op (InWait b ∷ s) t h = refl
still op (InStart b ∷ s) t h = refl
still op (InTicks b p ∷ s) t h = refl
still op (InSend b ∷ s) t h = refl
still op (InIf b ∷ s) t h = refl
still op (InElseIf b a ∷ s) t h = refl
still op (InCount b ∷ s) t h = refl
still op (InThen b a ∷ s) t h = refl
still op (InElseThen b a q ∷ s) t h = refl
still op (InElse b a ∷ s) t h = refl
still op (InTurns b n ∷ s) t h = refl

shifted : (most : ℕ) (op : Operator) (s : List Frame) (t : Tree) → demand s ≤ rank op → shift most op (reduce (left_rank op) s t) ≡ Some (Need (Operand t op ∷ s))
shifted most op s t h = rw (still op s t h) (chosen (demand s) (rank op) _ _ h)

alone : (most : ℕ) (s : List Frame) (t : Tree) → ((ws : List Word) → run most (spelled t ws) (Need s) ≡ run most ws (Have s t)) → Comes most s t
alone most s t go = record { stack = s; top = t; go = go; same = λ k h. refl }

pub come : (most : ℕ) (t : Tree) (s : List Frame) → IsExpr t → demand s ≤ level t → depth s + deep t ≤ most → Comes most s t
come most (Number n) s fits fit room = alone most s (Number n) (λ ws. ahead most (word.Number n) ws (Need s) (Have s (Number n)) (chosen (demand s) 8 _ _ fit))
come most (Name n) s fits fit room = alone most s (Name n) (λ ws. refl)
come most (Known g) s fits fit room = alone most s (Known g) (λ ws. ahead most (word.Known g) ws (Need s) (Have s (Known g)) (chosen (demand s) 8 _ _ fit))
come most (Indexed n e) s fits fit room =
    let inner = come most e (InIndex n ∷ s) fits.1 fits.0 (omega arith) in
    alone most s (Indexed n e) (λ ws.
    ahead most word.OpenBracket (spelled e (word.CloseBracket ∷ ws)) (Have s (Name n)) (Need (InIndex n ∷ s)) (nested most (InIndex n) s (omega arith))
    ∙ inner.go (word.CloseBracket ∷ ws)
    ∙ ap (λ r. option_and_then (run most ws) (close_index r)) (inner.same 0 (omega arith)))
come most (Call n e) s fits fit room =
    let inner = come most e (InCall n ∷ s) fits.1 (omega arith) (omega arith) in
    alone most s (Call n e) (λ ws.
    ahead most word.Open (spelled e (word.Close ∷ ws)) (Have s (Name n)) (Need (InCall n ∷ s)) (chosen (demand s) 8 _ _ fit ∙ nested most (InCall n) s (omega arith))
    ∙ inner.go (word.Close ∷ ws)
    ∙ ap (λ r. option_and_then (run most ws) (close r)) (inner.same 0 (omega arith))
    ∙ ap (λ v. option_and_then (run most ws) (cond v (Some (Have s (Call n e))) None)) fits.0)
come most (RandomBelow e) s fits fit room =
    let inner = come most e (InRandom ∷ s) fits.1 fits.0 (omega arith) in
    alone most s (RandomBelow e) (λ ws.
    ahead most (word.Known Random) (word.Open ∷ spelled e (word.Close ∷ ws)) (Need s) (Have s (Known Random)) (chosen (demand s) 8 _ _ fit)
    ∙ ahead most word.Open (spelled e (word.Close ∷ ws)) (Have s (Known Random)) (Need (InRandom ∷ s)) (chosen (demand s) 8 _ _ fit ∙ nested most InRandom s (omega arith))
    ∙ inner.go (word.Close ∷ ws)
    ∙ ap (λ r. option_and_then (run most ws) (close r)) (inner.same 0 (omega arith)))
come most (Group e) s fits fit room =
    let inner = come most e (InGroup ∷ s) fits.1 fits.0 (omega arith) in
    alone most s (Group e) (λ ws.
    ahead most word.Open (spelled e (word.Close ∷ ws)) (Need s) (Need (InGroup ∷ s)) (chosen (demand s) 8 _ _ fit ∙ nested most InGroup s (omega arith))
    ∙ inner.go (word.Close ∷ ws)
    ∙ ap (λ r. option_and_then (run most ws) (close r)) (inner.same 0 (omega arith)))
come most (Negate e) s fits fit room =
    let inner = come most e (InNegative ∷ s) fits.1 fits.0 (omega arith) in
    record {
      stack = inner.stack;
      top = inner.top;
      go = λ ws. ahead most (word.Sign Minus) (spelled e ws) (Need s) (Need (InNegative ∷ s)) (chosen (demand s) 7 _ _ fit ∙ nested most InNegative s (omega arith)) ∙ inner.go ws;
      same = λ k h. inner.same k (omega (arith, fits.0)) ∙ chosen k 7 _ _ h;
    }
come most (Not e) s fits fit room =
    let inner = come most e (InNot ∷ s) fits.1 fits.0 (omega arith) in
    record {
      stack = inner.stack;
      top = inner.top;
      go = λ ws. ahead most word.Not (spelled e ws) (Need s) (Need (InNot ∷ s)) (chosen (demand s) 3 _ _ fit ∙ nested most InNot s (omega arith)) ∙ inner.go ws;
      same = λ k h. inner.same k (omega (arith, fits.0)) ∙ chosen k 3 _ _ h;
    }
come most (Binary op a b) s fits fit room =
    let left = come most a s fits.2 (omega (arith, fits.0, (ranks op).left)) (omega arith) in
    let right = come most b (Operand a op ∷ s) fits.3 (omega (arith, fits.1)) (omega arith) in
    record {
      stack = right.stack;
      top = right.top;
      go = λ ws. left.go (word.Sign op ∷ spelled b ws)
          ∙ ahead most (word.Sign op) (spelled b ws) (Have left.stack left.top) (Need (Operand a op ∷ s)) (ap (shift most op) (left.same (left_rank op) fits.0) ∙ shifted most op s a fit)
          ∙ right.go ws;
      same = λ k h. right.same k (omega (arith, fits.1)) ∙ chosen k (rank op) _ _ h;
    }
