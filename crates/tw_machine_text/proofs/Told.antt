-- What the machine has read are the words of what it holds, and all that it holds fits.
use Rattle.std.proofs.Common.{◌≡◌, ℕ, ◌+◌, ◌<◌, ◌≤◌, Bool, true, false, cond, List, [], ◌∷◌, Option, Some, None, refl, sym, ap, subst, ◌∙◌, arith}
use Rattle.std.specs.Prelude.{nat_eq}
use Rattle.std.specs.Option.{option_and_then}
use Rattle.std.proofs.lemmas.Option.{option_and_then_some, same_Some}
use Rattle.std.proofs.lemmas.Bool.{leb-true, ltb-true, eqb-true}
use Rattle.std.proofs.Math.Dec.{leb, ltb}
use Rattle.tw_machine_text.specs.declared.words.Operator.{Operator}
use Rattle.tw_machine_text.specs.declared.words.Operator.TheVariants.{Minus}
use Rattle.tw_machine_text.specs.declared.words.Builtin.TheVariants.{Random}
use Rattle.tw_machine_text.specs.declared.words.SourceChange.{SourceChange}
use Rattle.tw_machine_text.specs.declared.words.Word.{Word}
use Rattle.tw_machine_text.specs.declared.words.Word.TheVariants as word
use Rattle.tw_machine_text.specs.Tree.{Tree, Number, Name, Known, Indexed, Call, RandomBelow, Group, Negate, Not, Binary, spelled, rank, left_rank, level, count, wanted, is_count, fits_call, IsExpr, deep, SourceStatement, Assign, Act, Treat, Draw, Wait, Passivate, Start, Send, If, IfElse, Repeat, Block, Empty, Then, Arms, One, More, mark, said, said_block, said_arms, IsStatement, IsBlock, AreArms, deep_statement, deep_block, deep_arms, Means, heads}
use Rattle.tw_machine_text.specs.Letters.{in_number}
use Rattle.tw_machine_text.specs.Machine.{Frame, Operand, InNot, InNegative, InGroup, InIndex, InCall, InRandom, InPlace, InChange, InQueue, InItem, InDeed, InWait, InStart, InTicks, InSend, InIf, InElseIf, InCount, InThen, InElseThen, InElse, InTurns, State, Need, Have, Begin, After, AfterThen, AfterElse, demand, depth, reduce, nest, operand, need, item, shift, called, indexed, close, close_index, becomes, open_block, enter, finished, ended, close_block, start, named, marked, have, after_arm, after_else, after, step, run, whole, program_of, weigh}
use Rattle.tw_machine_text.proofs.Expressions.{ranks}
use Rattle.tw_machine_text.proofs.Weights.{weigh_block}

-- the words of what has begun, and those that follow
abbrev pub told : List Frame → List Word → List Word
told [] ws = ws
told (Operand a op ∷ s) ws = told s (spelled a (word.Sign op ∷ ws))
told (InNot ∷ s) ws = told s (word.Not ∷ ws)
told (InNegative ∷ s) ws = told s (word.Sign Minus ∷ ws)
told (InGroup ∷ s) ws = told s (word.Open ∷ ws)
told (InIndex n ∷ s) ws = told s (word.Name n ∷ word.OpenBracket ∷ ws)
told (InCall n ∷ s) ws = told s (word.Name n ∷ word.Open ∷ ws)
told (InRandom ∷ s) ws = told s (word.Known Random ∷ word.Open ∷ ws)
told (InPlace b ∷ s) ws = told s (said_block b ws)
told (InChange b p c ∷ s) ws = told s (said_block b (spelled p (word.Becomes c ∷ ws)))
told (InQueue b v ∷ s) ws = told s (said_block b (word.Begins v ∷ ws))
told (InItem b v q ∷ s) ws = told s (said_block b (word.Begins v ∷ spelled q ws))
told (InDeed b d ∷ s) ws = told s (said_block b (word.Does d ∷ ws))
told (InWait b ∷ s) ws = told s (said_block b (word.Wait ∷ ws))
told (InStart b ∷ s) ws = told s (said_block b (word.Start ∷ ws))
told (InTicks b p ∷ s) ws = told s (said_block b (word.Start ∷ spelled p (word.Name in_number ∷ ws)))
told (InSend b ∷ s) ws = told s (said_block b (word.Send ∷ ws))
told (InIf b ∷ s) ws = told s (said_block b (word.If ∷ ws))
told (InElseIf b a ∷ s) ws = told s (said_block b (said_arms a (word.Else ∷ word.If ∷ ws)))
told (InCount b ∷ s) ws = told s (said_block b (word.Repeat ∷ ws))
told (InThen b t ∷ s) ws = told s (said_block b (word.If ∷ spelled t (word.OpenBrace ∷ ws)))
told (InElseThen b a t ∷ s) ws = told s (said_block b (said_arms a (word.Else ∷ word.If ∷ spelled t (word.OpenBrace ∷ ws))))
told (InElse b a ∷ s) ws = told s (said_block b (said_arms a (word.Else ∷ word.OpenBrace ∷ ws)))
told (InTurns b n ∷ s) ws = told s (said_block b (word.Repeat ∷ spelled n (word.OpenBrace ∷ ws)))

abbrev pub told_state : State → List Word → List Word
told_state (Need s) ws = told s ws
told_state (Have s t) ws = told s (spelled t ws)
told_state (Begin s b) ws = told s (said_block b ws)
told_state (After s b x) ws = told s (said_block b (said x ws))
told_state (AfterThen s b a) ws = told s (said_block b (said_arms a ws))
told_state (AfterElse s b a) ws = told s (said_block b (said_arms a (word.Else ∷ ws)))

-- a tree below what has begun
abbrev pub TreeIn : ℕ → ℕ → List Frame → Tree → Type 0
TreeIn most k s t = (k ≤ level t) × IsExpr t × (depth s + deep t ≤ most)

abbrev pub BlockIn : ℕ → List Frame → Block → Type 0
BlockIn most s b = IsBlock b × (depth s + deep_block b ≤ most)

abbrev pub ArmsIn : ℕ → List Frame → Arms → Type 0
ArmsIn most s a = AreArms a × (depth s + deep_arms a ≤ most)

abbrev pub Fits : ℕ → List Frame → Type 0
Fits most [] = Unit {0}
Fits most (Operand a op ∷ s) = TreeIn most (left_rank op) s a × (demand s ≤ rank op) × Fits most s
Fits most (InNot ∷ s) = (demand s ≤ 3) × (depth s < most) × Fits most s
Fits most (InNegative ∷ s) = (demand s ≤ 7) × (depth s < most) × Fits most s
Fits most (InGroup ∷ s) = (demand s ≤ 8) × (depth s < most) × Fits most s
Fits most (InIndex n ∷ s) = (demand s ≤ 9) × (depth s < most) × Fits most s
Fits most (InCall n ∷ s) = (demand s ≤ 8) × (depth s < most) × Fits most s
Fits most (InRandom ∷ s) = (demand s ≤ 8) × (depth s < most) × Fits most s
Fits most (InPlace b ∷ s) = BlockIn most s b × Fits most s
Fits most (InChange b p c ∷ s) = BlockIn most s b × TreeIn most 9 s p × Fits most s
Fits most (InQueue b v ∷ s) = BlockIn most s b × Fits most s
Fits most (InItem b v q ∷ s) = BlockIn most s b × TreeIn most 9 s q × Fits most s
Fits most (InDeed b d ∷ s) = BlockIn most s b × Fits most s
Fits most (InWait b ∷ s) = BlockIn most s b × Fits most s
Fits most (InStart b ∷ s) = BlockIn most s b × Fits most s
Fits most (InTicks b p ∷ s) = BlockIn most s b × TreeIn most 9 s p × Fits most s
Fits most (InSend b ∷ s) = BlockIn most s b × Fits most s
Fits most (InIf b ∷ s) = BlockIn most s b × Fits most s
Fits most (InElseIf b a ∷ s) = BlockIn most s b × ArmsIn most s a × Fits most s
Fits most (InCount b ∷ s) = BlockIn most s b × Fits most s
Fits most (InThen b t ∷ s) = BlockIn most s b × TreeIn most 1 s t × (depth s < most) × Fits most s
Fits most (InElseThen b a t ∷ s) = BlockIn most s b × ArmsIn most s a × TreeIn most 1 s t × (depth s < most) × Fits most s
Fits most (InElse b a ∷ s) = BlockIn most s b × ArmsIn most s a × (depth s < most) × Fits most s
Fits most (InTurns b n ∷ s) = BlockIn most s b × (is_count n ≡ true) × (depth s < most) × Fits most s

-- an operand that has come, and what is around it
pub record Top (most k : ℕ) (before : List Word → List Word) (s : List Frame) (t : Tree) : Type 0 where
  pub words : (ws : List Word) → told s (spelled t ws) ≡ before ws
  pub fits : Fits most s
  pub expr : IsExpr t
  pub fit : demand s ≤ level t
  pub room : depth s + deep t ≤ most
  pub tight : k ≤ level t

abbrev pub FitsState : ℕ → State → Type 0
FitsState most (Need s) = Fits most s
FitsState most (Have s t) = Top most 8 (λ ws. told s (spelled t ws)) s t
FitsState most (Begin s b) = BlockIn most s b × Fits most s
FitsState most (After s b x) = BlockIn most s b × IsStatement x × (depth s + deep_statement x ≤ most) × Fits most s
FitsState most (AfterThen s b a) = BlockIn most s b × ArmsIn most s a × Fits most s
FitsState most (AfterElse s b a) = BlockIn most s b × ArmsIn most s a × Fits most s

pub record Kept (most : ℕ) (before : List Word → List Word) (st : State) : Type 0 where
  pub words : (ws : List Word) → told_state st ws ≡ before ws
  pub fits : FitsState most st

pub record Blocked (most : ℕ) (before : List Word → List Word) (r : List Frame × Block) : Type 0 where
  pub words : (ws : List Word) → told r.0 (said_block r.1 ws) ≡ before ws
  pub inside : BlockIn most r.0 r.1
  pub fits : Fits most r.0

-- of what is chosen by a test that came out well
guarded : {A : Type 0} (P : A → Type 0) (b : Bool) (x y : A) → cond b (Some x) None ≡ Some y → (b ≡ true → P x) → P y
guarded P true x y e f = subst P (same_Some x y e) (f refl)
guarded P false x y e f = absurd (cc)

got : {A : Type 0} (P : A → Type 0) (x y : A) → Some x ≡ Some y → P x → P y
got P x y e p = subst P (same_Some x y e) p

either : {A : Type 0} (P : A → Type 0) (b : Bool) (x y : A) → (b ≡ true → P x) → P y → P (cond b x y)
either P true x y f p = f refl
either P false x y f p = p

two_ways : {A : Type 0} (P : A → Type 0) (b : Bool) (x : A) (o : Option A) (y : A) → cond b (Some x) o ≡ Some y → (b ≡ true → P x) → (o ≡ Some y → P y) → P y
two_ways P true x o y e f g = subst P (same_Some x y e) (f refl)
two_ways P false x o y e f g = g e

if_ways : {A : Type 0} (P : A → Type 0) (b : Bool) (n o : Option A) (y : A) → cond b n o ≡ Some y → (b ≡ true → n ≡ Some y → P y) → (o ≡ Some y → P y) → P y
if_ways P true n o y e f g = f refl e
if_ways P false n o y e f g = g e

pub shallow : (most : ℕ) (s : List Frame) → Fits most s → depth s ≤ most
shallow most [] h = omega arith
shallow most (Operand a op ∷ s) h = shallow most s h.2
shallow most (InNot ∷ s) h = omega (arith, h.1)
shallow most (InNegative ∷ s) h = omega (arith, h.1)
shallow most (InGroup ∷ s) h = omega (arith, h.1)
shallow most (InIndex n ∷ s) h = omega (arith, h.1)
shallow most (InCall n ∷ s) h = omega (arith, h.1)
shallow most (InRandom ∷ s) h = omega (arith, h.1)
shallow most (InPlace b ∷ s) h = shallow most s h.1
shallow most (InChange b p c ∷ s) h = shallow most s h.2
shallow most (InQueue b v ∷ s) h = shallow most s h.1
shallow most (InItem b v q ∷ s) h = shallow most s h.2
shallow most (InDeed b d ∷ s) h = shallow most s h.1
shallow most (InWait b ∷ s) h = shallow most s h.1
shallow most (InStart b ∷ s) h = shallow most s h.1
shallow most (InTicks b p ∷ s) h = shallow most s h.2
shallow most (InSend b ∷ s) h = shallow most s h.1
shallow most (InIf b ∷ s) h = shallow most s h.1
shallow most (InElseIf b a ∷ s) h = shallow most s h.2
shallow most (InCount b ∷ s) h = shallow most s h.1
shallow most (InThen b t ∷ s) h = omega (arith, h.2)
shallow most (InElseThen b a t ∷ s) h = omega (arith, h.3)
shallow most (InElse b a ∷ s) h = omega (arith, h.2)
shallow most (InTurns b n ∷ s) h = omega (arith, h.2)

pub modest : (s : List Frame) → demand s ≤ 9
modest [] = omega arith
modest (Operand a op ∷ s) = omega (arith, (ranks op).below)
modest (f ∷ s) = omega arith

reduced : (most k : ℕ) (before : List Word → List Word) (s : List Frame) (t : Tree) → Top most k before s t → Top most k before (reduce k s t).0 (reduce k s t).1
reduced most k before [] t h = h
reduced most k before (Operand a op ∷ s) t h =
    either (λ (r : List Frame × Tree). Top most k before r.0 r.1) (leb k (rank op)) (reduce k s (Binary op a t)) (Operand a op ∷ s, t)
    (λ e. reduced most k before s (Binary op a t) (record {
      words = h.words;
      fits = h.fits.2;
      expr = (h.fits.0.0, h.fit, h.fits.0.1, h.expr);
      fit = h.fits.1;
      room = omega (arith, h.room, h.fits.0.2);
      tight = leb-true k (rank op) e;
    }))
    h
reduced most k before (InNot ∷ s) t h =
    either (λ (r : List Frame × Tree). Top most k before r.0 r.1) (leb k 3) (reduce k s (Not t)) (InNot ∷ s, t)
    (λ e. reduced most k before s (Not t) (record { words = h.words; fits = h.fits.2; expr = (h.fit, h.expr); fit = h.fits.0; room = omega (arith, h.room); tight = leb-true k 3 e }))
    h
reduced most k before (InNegative ∷ s) t h =
    either (λ (r : List Frame × Tree). Top most k before r.0 r.1) (leb k 7) (reduce k s (Negate t)) (InNegative ∷ s, t)
    (λ e. reduced most k before s (Negate t) (record { words = h.words; fits = h.fits.2; expr = (h.fit, h.expr); fit = h.fits.0; room = omega (arith, h.room); tight = leb-true k 7 e }))
    h
reduced most k before (f ∷ s) t h = h

have_top : (most : ℕ) (before : List Word → List Word) (s : List Frame) (t : Tree) → ((ws : List Word) → told s (spelled t ws) ≡ before ws) → Fits most s → IsExpr t → demand s ≤ level t → depth s + deep t ≤ most → 8 ≤ level t → Kept most before (Have s t)
have_top most before s t words fits expr fit room tight = record { words = words; fits = record { words = λ ws. refl; fits = fits; expr = expr; fit = fit; room = room; tight = tight } }

operand_kept : (most : ℕ) (s : List Frame) (t : Tree) (next : State) → Fits most s → 8 ≤ level t → level t ≤ 8 → IsExpr t → deep t ≡ 0 → operand 8 s t ≡ Some next → Kept most (λ ws. told s (spelled t ws)) next
operand_kept most s t next h tight loose expr flat e =
    guarded (Kept most (λ ws. told s (spelled t ws))) (leb (demand s) 8) (Have s t) next e
    (λ k. have_top most (λ ws. told s (spelled t ws)) s t (λ ws. refl) h expr (let d : demand s ≤ 8 = leb-true (demand s) 8 k in omega arith) (omega (arith, shallow most s h, flat)) tight)

nest_kept : (most : ℕ) (f : Frame) (s : List Frame) (next : State) → (depth s < most → Fits most (f ∷ s)) → nest most f s ≡ Some next → Kept most (told (f ∷ s)) next
nest_kept most f s next h e =
    guarded (Kept most (told (f ∷ s))) (ltb (depth s) most) (Need (f ∷ s)) next e
    (λ k. record { words = λ ws. refl; fits = h (ltb-true (depth s) most k) })

-- the same behind another test
tested : {A : Type 0} (P : A → Type 0) (b : Bool) (o : Option A) (y : A) → cond b o None ≡ Some y → (b ≡ true → o ≡ Some y → P y) → P y
tested P true o y e f = f refl e
tested P false o y e f = absurd (cc)

need_kept : (most : ℕ) (w : Word) (s : List Frame) (next : State) → Fits most s → need most w s ≡ Some next → Kept most (λ ws. told s (w ∷ ws)) next
need_kept most (word.Number n) s next h e = operand_kept most s (Number n) next h (omega arith) (omega arith) tt refl e
need_kept most (word.Name n) s next h e = got (Kept most (λ ws. told s (word.Name n ∷ ws))) (Have s (Name n)) next e (have_top most (λ ws. told s (word.Name n ∷ ws)) s (Name n) (λ ws. refl) h tt (modest s) (omega (arith, shallow most s h)) (omega arith))
need_kept most (word.Known g) s next h e = operand_kept most s (Known g) next h (omega arith) (omega arith) tt refl e
need_kept most word.Open s next h e = tested (Kept most (λ ws. told s (word.Open ∷ ws))) (leb (demand s) 8) (nest most InGroup s) next e (λ k i. nest_kept most InGroup s next (λ d. (leb-true (demand s) 8 k, d, h)) i)
need_kept most (word.Sign Minus) s next h e = tested (Kept most (λ ws. told s (word.Sign Minus ∷ ws))) (leb (demand s) 7) (nest most InNegative s) next e (λ k i. nest_kept most InNegative s next (λ d. (leb-true (demand s) 7 k, d, h)) i)
need_kept most word.Not s next h e = tested (Kept most (λ ws. told s (word.Not ∷ ws))) (leb (demand s) 3) (nest most InNot s) next e (λ k i. nest_kept most InNot s next (λ d. (leb-true (demand s) 3 k, d, h)) i)
need_kept most _ s next h e = absurd (cc)

item_kept : (most k : ℕ) (before : List Word → List Word) (w : Word) (s : List Frame) (t : Tree) (next : State) → Top most k before s t → item most w (s, t) ≡ Some next → Kept most (λ ws. before (w ∷ ws)) next
item_kept most k before w (InQueue b v ∷ s) t next h e =
    let kept = need_kept most w (InItem b v t ∷ s) next (h.fits.0, (h.fit, h.expr, h.room), h.fits.1) e in
    record { words = λ ws. kept.words ws ∙ h.words (w ∷ ws); fits = kept.fits }
item_kept most k before w [] t next h e = absurd (cc)
item_kept most k before w (f ∷ s) t next h e = absurd (cc)

shift_kept : (most : ℕ) (op : Operator) (before : List Word → List Word) (s : List Frame) (t : Tree) (next : State) → Top most (left_rank op) before s t → shift most op (s, t) ≡ Some next → Kept most (λ ws. before (word.Sign op ∷ ws)) next
shift_kept most op before s t next h e =
    two_ways (Kept most (λ ws. before (word.Sign op ∷ ws))) (leb (demand s) (rank op)) (Need (Operand t op ∷ s)) (item most (word.Sign op) (s, t)) next e
    (λ k. record { words = λ ws. h.words (word.Sign op ∷ ws); fits = ((h.tight, h.expr, h.room), leb-true (demand s) (rank op) k, h.fits) })
    (λ i. item_kept most (left_rank op) before (word.Sign op) s t next h i)

called_kept : (most : ℕ) (before : List Word → List Word) (s : List Frame) (t : Tree) (next : State) → Top most 8 before s t → demand s ≤ 8 → called most s t ≡ Some next → Kept most (λ ws. before (word.Open ∷ ws)) next
called_kept most before s (Name n) next h fit e =
    let kept = nest_kept most (InCall n) s next (λ d. (fit, d, h.fits)) e in
    record { words = λ ws. kept.words ws ∙ h.words (word.Open ∷ ws); fits = kept.fits }
called_kept most before s (Known Random) next h fit e =
    let kept = nest_kept most InRandom s next (λ d. (fit, d, h.fits)) e in
    record { words = λ ws. kept.words ws ∙ h.words (word.Open ∷ ws); fits = kept.fits }
called_kept most before s _ next h fit e = absurd (cc)

indexed_kept : (most : ℕ) (before : List Word → List Word) (s : List Frame) (t : Tree) (next : State) → Top most 8 before s t → indexed most s t ≡ Some next → Kept most (λ ws. before (word.OpenBracket ∷ ws)) next
indexed_kept most before s (Name n) next h e =
    let kept = nest_kept most (InIndex n) s next (λ d. (h.fit, d, h.fits)) e in
    record { words = λ ws. kept.words ws ∙ h.words (word.OpenBracket ∷ ws); fits = kept.fits }
indexed_kept most before s _ next h e = absurd (cc)

close_kept : (most : ℕ) (before : List Word → List Word) (s : List Frame) (t : Tree) (next : State) → Top most 0 before s t → close (s, t) ≡ Some next → Kept most (λ ws. before (word.Close ∷ ws)) next
close_kept most before (InGroup ∷ s) t next h e = got (Kept most (λ ws. before (word.Close ∷ ws))) (Have s (Group t)) next e
    (have_top most (λ ws. before (word.Close ∷ ws)) s (Group t) (λ ws. h.words (word.Close ∷ ws)) h.fits.2 (h.fit, h.expr) h.fits.0 (omega (arith, h.room)) (omega arith))
close_kept most before (InCall n ∷ s) t next h e = guarded (Kept most (λ ws. before (word.Close ∷ ws))) (fits_call n t) (Have s (Call n t)) next e
    (λ k. have_top most (λ ws. before (word.Close ∷ ws)) s (Call n t) (λ ws. h.words (word.Close ∷ ws)) h.fits.2 (k, h.expr) h.fits.0 (omega (arith, h.room)) (omega arith))
close_kept most before (InRandom ∷ s) t next h e = got (Kept most (λ ws. before (word.Close ∷ ws))) (Have s (RandomBelow t)) next e
    (have_top most (λ ws. before (word.Close ∷ ws)) s (RandomBelow t) (λ ws. h.words (word.Close ∷ ws)) h.fits.2 (h.fit, h.expr) h.fits.0 (omega (arith, h.room)) (omega arith))
close_kept most before [] t next h e = absurd (cc)
close_kept most before (f ∷ s) t next h e = absurd (cc)

close_index_kept : (most : ℕ) (before : List Word → List Word) (s : List Frame) (t : Tree) (next : State) → Top most 0 before s t → close_index (s, t) ≡ Some next → Kept most (λ ws. before (word.CloseBracket ∷ ws)) next
close_index_kept most before (InIndex n ∷ s) t next h e = got (Kept most (λ ws. before (word.CloseBracket ∷ ws))) (Have s (Indexed n t)) next e
    (have_top most (λ ws. before (word.CloseBracket ∷ ws)) s (Indexed n t) (λ ws. h.words (word.CloseBracket ∷ ws)) h.fits.2 (h.fit, h.expr) h.fits.0 (omega (arith, h.room)) (omega arith))
close_index_kept most before [] t next h e = absurd (cc)
close_index_kept most before (f ∷ s) t next h e = absurd (cc)

becomes_kept : (most : ℕ) (before : List Word → List Word) (c : SourceChange) (s : List Frame) (t : Tree) (next : State) → Top most 0 before s t → becomes c (s, t) ≡ Some next → Kept most (λ ws. before (word.Becomes c ∷ ws)) next
becomes_kept most before c (InPlace b ∷ s) t next h e = got (Kept most (λ ws. before (word.Becomes c ∷ ws))) (Need (InChange b t c ∷ s)) next e
    (record { words = λ ws. h.words (word.Becomes c ∷ ws); fits = (h.fits.0, (h.fit, h.expr, h.room), h.fits.1) })
becomes_kept most before c [] t next h e = absurd (cc)
becomes_kept most before c (f ∷ s) t next h e = absurd (cc)

enter_kept : (most : ℕ) (f : Frame) (s : List Frame) (next : State) → (depth s < most → Fits most (f ∷ s) × (depth (f ∷ s) ≤ most)) → enter most f s ≡ Some next → Kept most (told (f ∷ s)) next
enter_kept most f s next h e =
    guarded (Kept most (told (f ∷ s))) (ltb (depth s) most) (Begin (f ∷ s) Empty) next e
    (λ k. let r = h (ltb-true (depth s) most k) in record { words = λ ws. refl; fits = ((tt, omega (arith, r.1)), r.0) })

open_block_kept : (most : ℕ) (before : List Word → List Word) (s : List Frame) (t : Tree) (next : State) → Top most 0 before s t → open_block most (s, t) ≡ Some next → Kept most (λ ws. before (word.OpenBrace ∷ ws)) next
open_block_kept most before (InIf b ∷ s) t next h e =
    let kept = enter_kept most (InThen b t) s next (λ d. ((h.fits.0, (h.fit, h.expr, h.room), d, h.fits.1), omega (arith, d))) e in
    record { words = λ ws. kept.words ws ∙ h.words (word.OpenBrace ∷ ws); fits = kept.fits }
open_block_kept most before (InElseIf b a ∷ s) t next h e =
    let kept = enter_kept most (InElseThen b a t) s next (λ d. ((h.fits.0, h.fits.1, (h.fit, h.expr, h.room), d, h.fits.2), omega (arith, d))) e in
    record { words = λ ws. kept.words ws ∙ h.words (word.OpenBrace ∷ ws); fits = kept.fits }
open_block_kept most before (InCount b ∷ s) t next h e =
    tested (Kept most (λ ws. before (word.OpenBrace ∷ ws))) (is_count t) (enter most (InTurns b t) s) next e (λ k i.
    let kept = enter_kept most (InTurns b t) s next (λ d. ((h.fits.0, k, d, h.fits.1), omega (arith, d))) i in
    record { words = λ ws. kept.words ws ∙ h.words (word.OpenBrace ∷ ws); fits = kept.fits })
open_block_kept most before [] t next h e = absurd (cc)
open_block_kept most before (f ∷ s) t next h e = absurd (cc)

finished_kept : (most : ℕ) (before : List Word → List Word) (m : Bool) (s : List Frame) (t : Tree) (r : List Frame × Block) → Top most 0 before s t → finished m (s, t) ≡ Some r → Blocked most (λ ws. before (mark m ws)) r
finished_kept most before m (InChange b p c ∷ s) t r h e = got (Blocked most (λ ws. before (mark m ws))) (s, Then b (Assign p c t) m) r e
    (record { words = λ ws. h.words (mark m ws); inside = ((h.fits.0.0, ((h.fits.1.0, h.fits.1.1), (h.fit, h.expr))), omega (arith, h.fits.0.1, h.fits.1.2, h.room)); fits = h.fits.2 })
finished_kept most before m (InItem b v q ∷ s) t r h e = guarded (Blocked most (λ ws. before (mark m ws))) (nat_eq (count t) (wanted v)) (s, Then b (Act v q t) m) r e
    (λ k. record { words = λ ws. h.words (mark m ws); inside = ((h.fits.0.0, ((h.fits.1.0, h.fits.1.1), k, h.expr)), omega (arith, h.fits.0.1, h.fits.1.2, h.room)); fits = h.fits.2 })
finished_kept most before m (InDeed b d ∷ s) t r h e = got (Blocked most (λ ws. before (mark m ws))) (s, Then b (Treat d t) m) r e
    (record { words = λ ws. h.words (mark m ws); inside = ((h.fits.0.0, (h.fit, h.expr)), omega (arith, h.fits.0.1, h.room)); fits = h.fits.1 })
finished_kept most before m (InWait b ∷ s) t r h e = got (Blocked most (λ ws. before (mark m ws))) (s, Then b (Wait t) m) r e
    (record { words = λ ws. h.words (mark m ws); inside = ((h.fits.0.0, (h.fit, h.expr)), omega (arith, h.fits.0.1, h.room)); fits = h.fits.1 })
finished_kept most before m (InTicks b p ∷ s) t r h e = got (Blocked most (λ ws. before (mark m ws))) (s, Then b (Start p t) m) r e
    (record { words = λ ws. h.words (mark m ws); inside = ((h.fits.0.0, ((h.fits.1.0, h.fits.1.1), (h.fit, h.expr))), omega (arith, h.fits.0.1, h.fits.1.2, h.room)); fits = h.fits.2 })
finished_kept most before m (InSend b ∷ s) t r h e = guarded (Blocked most (λ ws. before (mark m ws))) (nat_eq (count t) 2) (s, Then b (Send t) m) r e
    (λ k. record { words = λ ws. h.words (mark m ws); inside = ((h.fits.0.0, (k, h.expr)), omega (arith, h.fits.0.1, h.room)); fits = h.fits.1 })
finished_kept most before m [] t r h e = absurd (cc)
finished_kept most before m (f ∷ s) t r h e = absurd (cc)

close_block_kept : (most : ℕ) (before : List Word → List Word) (s : List Frame) (b : Block) (next : State) → Blocked most before (s, b) → close_block s b ≡ Some next → Kept most (λ ws. before (word.CloseBrace ∷ ws)) next
close_block_kept most before (InThen b t ∷ s) c next h e = got (Kept most (λ ws. before (word.CloseBrace ∷ ws))) (AfterThen s b (One t c)) next e
    (record { words = λ ws. h.words (word.CloseBrace ∷ ws); fits = (h.fits.0, (((h.fits.1.0, h.fits.1.1), h.inside.0), omega (arith, h.fits.1.2, h.inside.1)), h.fits.3) })
close_block_kept most before (InElseThen b a t ∷ s) c next h e = got (Kept most (λ ws. before (word.CloseBrace ∷ ws))) (AfterThen s b (More a t c)) next e
    (record { words = λ ws. h.words (word.CloseBrace ∷ ws); fits = (h.fits.0, ((h.fits.1.0, (h.fits.2.0, h.fits.2.1), h.inside.0), omega (arith, h.fits.1.1, h.fits.2.2, h.inside.1)), h.fits.4) })
close_block_kept most before (InElse b a ∷ s) c next h e = got (Kept most (λ ws. before (word.CloseBrace ∷ ws))) (After s b (IfElse a c)) next e
    (record { words = λ ws. h.words (word.CloseBrace ∷ ws); fits = (h.fits.0, (h.fits.1.0, h.inside.0), omega (arith, h.fits.1.1, h.inside.1), h.fits.3) })
close_block_kept most before (InTurns b n ∷ s) c next h e = got (Kept most (λ ws. before (word.CloseBrace ∷ ws))) (After s b (Repeat n c)) next e
    (record { words = λ ws. h.words (word.CloseBrace ∷ ws); fits = (h.fits.0, (h.fits.1, h.inside.0), omega (arith, h.inside.1), h.fits.3) })
close_block_kept most before [] c next h e = absurd (cc)
close_block_kept most before (f ∷ s) c next h e = absurd (cc)

start_kept : (most : ℕ) (before : List Word → List Word) (w : Word) (s : List Frame) (b : Block) (next : State) → Blocked most before (s, b) → start w (s, b) ≡ Some next → Kept most (λ ws. before (w ∷ ws)) next
start_kept most before (word.Name n) s b next h e = got (Kept most (λ ws. before (word.Name n ∷ ws))) (Have (InPlace b ∷ s) (Name n)) next e
    (have_top most (λ ws. before (word.Name n ∷ ws)) (InPlace b ∷ s) (Name n) (λ ws. h.words (word.Name n ∷ ws)) (h.inside, h.fits) tt (omega arith) (omega (arith, shallow most s h.fits)) (omega arith))
start_kept most before (word.Begins v) s b next h e = got (Kept most (λ ws. before (word.Begins v ∷ ws))) (Need (InQueue b v ∷ s)) next e (record { words = λ ws. h.words (word.Begins v ∷ ws); fits = (h.inside, h.fits) })
start_kept most before (word.Does d) s b next h e = got (Kept most (λ ws. before (word.Does d ∷ ws))) (Need (InDeed b d ∷ s)) next e (record { words = λ ws. h.words (word.Does d ∷ ws); fits = (h.inside, h.fits) })
start_kept most before word.Draw s b next h e = got (Kept most (λ ws. before (word.Draw ∷ ws))) (After s b Draw) next e (record { words = λ ws. h.words (word.Draw ∷ ws); fits = (h.inside, tt, omega (arith, shallow most s h.fits), h.fits) })
start_kept most before word.Wait s b next h e = got (Kept most (λ ws. before (word.Wait ∷ ws))) (Need (InWait b ∷ s)) next e (record { words = λ ws. h.words (word.Wait ∷ ws); fits = (h.inside, h.fits) })
start_kept most before word.Passivate s b next h e = got (Kept most (λ ws. before (word.Passivate ∷ ws))) (After s b Passivate) next e (record { words = λ ws. h.words (word.Passivate ∷ ws); fits = (h.inside, tt, omega (arith, shallow most s h.fits), h.fits) })
start_kept most before word.Start s b next h e = got (Kept most (λ ws. before (word.Start ∷ ws))) (Need (InStart b ∷ s)) next e (record { words = λ ws. h.words (word.Start ∷ ws); fits = (h.inside, h.fits) })
start_kept most before word.Send s b next h e = got (Kept most (λ ws. before (word.Send ∷ ws))) (Need (InSend b ∷ s)) next e (record { words = λ ws. h.words (word.Send ∷ ws); fits = (h.inside, h.fits) })
start_kept most before word.If s b next h e = got (Kept most (λ ws. before (word.If ∷ ws))) (Need (InIf b ∷ s)) next e (record { words = λ ws. h.words (word.If ∷ ws); fits = (h.inside, h.fits) })
start_kept most before word.Repeat s b next h e = got (Kept most (λ ws. before (word.Repeat ∷ ws))) (Need (InCount b ∷ s)) next e (record { words = λ ws. h.words (word.Repeat ∷ ws); fits = (h.inside, h.fits) })
start_kept most before word.CloseBrace s b next h e = close_block_kept most before s b next h e
start_kept most before _ s b next h e = absurd (cc)

-- what begins behind an operand that is the last of its statement
restart_kept : (most : ℕ) (before : List Word → List Word) (w : Word) (s : List Frame) (t : Tree) (next : State) → Top most 0 before s t → option_and_then (start w) (finished false (s, t)) ≡ Some next → Kept most (λ ws. before (w ∷ ws)) next
restart_kept most before w s t next h e =
    option_and_then_some (start w) (finished false (s, t)) next e
    (λ r i j. let k = finished_kept most before false s t r h i in start_kept most before w r.0 r.1 next k j)

named_kept : (most : ℕ) (before : List Word → List Word) (n : ℕ) (s : List Frame) (t : Tree) (next : State) → Top most 0 before s t → named n (s, t) ≡ Some next → Kept most (λ ws. before (word.Name n ∷ ws)) next
named_kept most before n (InQueue b v ∷ s) t next h e = got (Kept most (λ ws. before (word.Name n ∷ ws))) (Have (InItem b v t ∷ s) (Name n)) next e
    (have_top most (λ ws. before (word.Name n ∷ ws)) (InItem b v t ∷ s) (Name n) (λ ws. h.words (word.Name n ∷ ws)) (h.fits.0, (h.fit, h.expr, h.room), h.fits.1) tt (omega arith) (omega (arith, h.room)) (omega arith))
named_kept most before n (InStart b ∷ s) t next h e = guarded (Kept most (λ ws. before (word.Name n ∷ ws))) (nat_eq n in_number) (Need (InTicks b t ∷ s)) next e
    (λ k. record {
      words = λ ws. ap (λ (j : ℕ). told s (said_block b (word.Start ∷ spelled t (word.Name j ∷ ws)))) (sym (eqb-true n in_number k)) ∙ h.words (word.Name n ∷ ws);
      fits = (h.fits.0, (h.fit, h.expr, h.room), h.fits.1);
    })
named_kept most before n [] t next h e = absurd (cc)
named_kept most before n (f ∷ s) t next h e = restart_kept most before (word.Name n) (f ∷ s) t next h e

marked_kept : (most : ℕ) (before : List Word → List Word) (s : List Frame) (t : Tree) (next : State) → Top most 0 before s t → option_and_then marked (finished true (s, t)) ≡ Some next → Kept most (λ ws. before (word.Semicolon ∷ ws)) next
marked_kept most before s t next h e =
    option_and_then_some marked (finished true (s, t)) next e
    (λ r i j. let k = finished_kept most before true s t r h i in
    got (Kept most (λ ws. before (word.Semicolon ∷ ws))) (Begin r.0 r.1) next j (record { words = k.words; fits = (k.inside, k.fits) }))

loosened : (most : ℕ) (before : List Word → List Word) (k j : ℕ) (s : List Frame) (t : Tree) → j ≤ k → Top most k before s t → Top most j before s t
loosened most before k j s t le h = record { words = h.words; fits = h.fits; expr = h.expr; fit = h.fit; room = h.room; tight = omega (arith, h.tight) }

have_kept : (most : ℕ) (before : List Word → List Word) (w : Word) (s : List Frame) (t : Tree) (next : State) → Top most 8 before s t → have most w s t ≡ Some next → Kept most (λ ws. before (w ∷ ws)) next
have_kept most before (word.Sign op) s t next h e = let r = reduce (left_rank op) s t in shift_kept most op before r.0 r.1 next (reduced most (left_rank op) before s t (loosened most before 8 (left_rank op) s t (omega (arith, (ranks op).low)) h)) e
have_kept most before word.OpenBracket s t next h e = indexed_kept most before s t next h e
have_kept most before word.Open s t next h e =
    if_ways (Kept most (λ ws. before (word.Open ∷ ws))) (leb (demand s) 8) (called most s t) (item most word.Open (s, t)) next e
    (λ k i. called_kept most before s t next h (leb-true (demand s) 8 k) i)
    (λ i. item_kept most 8 before word.Open s t next h i)
have_kept most before (word.Number n) s t next h e = item_kept most 8 before (word.Number n) s t next h e
have_kept most before (word.Known g) s t next h e = item_kept most 8 before (word.Known g) s t next h e
have_kept most before word.Not s t next h e = item_kept most 8 before word.Not s t next h e
have_kept most before (word.Name n) s t next h e = let r = reduce 0 s t in named_kept most before n r.0 r.1 next (reduced most 0 before s t (loosened most before 8 0 s t (omega arith) h)) e
have_kept most before word.Close s t next h e = let r = reduce 0 s t in close_kept most before r.0 r.1 next (reduced most 0 before s t (loosened most before 8 0 s t (omega arith) h)) e
have_kept most before word.CloseBracket s t next h e = let r = reduce 0 s t in close_index_kept most before r.0 r.1 next (reduced most 0 before s t (loosened most before 8 0 s t (omega arith) h)) e
have_kept most before (word.Becomes c) s t next h e = let r = reduce 0 s t in becomes_kept most before c r.0 r.1 next (reduced most 0 before s t (loosened most before 8 0 s t (omega arith) h)) e
have_kept most before word.OpenBrace s t next h e = let r = reduce 0 s t in open_block_kept most before r.0 r.1 next (reduced most 0 before s t (loosened most before 8 0 s t (omega arith) h)) e
have_kept most before word.Semicolon s t next h e = let r = reduce 0 s t in marked_kept most before r.0 r.1 next (reduced most 0 before s t (loosened most before 8 0 s t (omega arith) h)) e
have_kept most before w s t next h e = let r = reduce 0 s t in restart_kept most before w r.0 r.1 next (reduced most 0 before s t (loosened most before 8 0 s t (omega arith) h)) e

done : (most : ℕ) (s : List Frame) (b : Block) (x : SourceStatement) (m : Bool) → BlockIn most s b → IsStatement x → depth s + deep_statement x ≤ most → Fits most s → Blocked most (λ ws. told s (said_block b (said x (mark m ws)))) (s, Then b x m)
done most s b x m inside expr room fits = record { words = λ ws. refl; inside = ((inside.0, expr), omega (arith, inside.1, room)); fits = fits }

semicolon : (most : ℕ) (before : List Word → List Word) (s : List Frame) (b : Block) (x : SourceStatement) → Blocked most before (s, Then b x true) → Kept most before (Begin s (Then b x true))
semicolon most before s b x k = record { words = k.words; fits = (k.inside, k.fits) }

after_kept : (most : ℕ) (w : Word) (s : List Frame) (b : Block) (x : SourceStatement) (next : State) → FitsState most (After s b x) → after w s b x ≡ Some next → Kept most (λ ws. told s (said_block b (said x (w ∷ ws)))) next
after_kept most word.Semicolon s b x next h e = got (Kept most (λ ws. told s (said_block b (said x (word.Semicolon ∷ ws))))) (Begin s (Then b x true)) next e (semicolon most _ s b x (done most s b x true h.0 h.1 h.2 h.3))
after_kept most w s b x next h e = start_kept most (λ ws. told s (said_block b (said x ws))) w s (Then b x false) next (done most s b x false h.0 h.1 h.2 h.3) e

after_arm_kept : (most : ℕ) (w : Word) (s : List Frame) (b : Block) (a : Arms) (next : State) → FitsState most (AfterThen s b a) → after_arm w s b a ≡ Some next → Kept most (λ ws. told s (said_block b (said_arms a (w ∷ ws)))) next
after_arm_kept most word.Else s b a next h e = got (Kept most (λ ws. told s (said_block b (said_arms a (word.Else ∷ ws))))) (AfterElse s b a) next e (record { words = λ ws. refl; fits = h })
after_arm_kept most word.Semicolon s b a next h e = got (Kept most (λ ws. told s (said_block b (said_arms a (word.Semicolon ∷ ws))))) (Begin s (Then b (If a) true)) next e (semicolon most _ s b (If a) (done most s b (If a) true h.0 h.1.0 h.1.1 h.2))
after_arm_kept most w s b a next h e = start_kept most (λ ws. told s (said_block b (said_arms a ws))) w s (Then b (If a) false) next (done most s b (If a) false h.0 h.1.0 h.1.1 h.2) e

after_else_kept : (most : ℕ) (w : Word) (s : List Frame) (b : Block) (a : Arms) (next : State) → FitsState most (AfterElse s b a) → after_else most w s b a ≡ Some next → Kept most (λ ws. told s (said_block b (said_arms a (word.Else ∷ w ∷ ws)))) next
after_else_kept most word.If s b a next h e = got (Kept most (λ ws. told s (said_block b (said_arms a (word.Else ∷ word.If ∷ ws))))) (Need (InElseIf b a ∷ s)) next e (record { words = λ ws. refl; fits = h })
after_else_kept most word.OpenBrace s b a next h e = enter_kept most (InElse b a) s next (λ d. ((h.0, h.1, d, h.2), omega (arith, d))) e
after_else_kept most _ s b a next h e = absurd (cc)

pub step_kept : (most : ℕ) (w : Word) (st next : State) → FitsState most st → step most w st ≡ Some next → Kept most (λ ws. told_state st (w ∷ ws)) next
step_kept most w (Need s) next h e = need_kept most w s next h e
step_kept most w (Have s t) next h e = have_kept most (λ ws. told s (spelled t ws)) w s t next h e
step_kept most w (Begin s b) next h e = start_kept most (λ ws. told s (said_block b ws)) w s b next (record { words = λ ws. refl; inside = h.0; fits = h.1 }) e
step_kept most w (After s b x) next h e = after_kept most w s b x next h e
step_kept most w (AfterThen s b a) next h e = after_arm_kept most w s b a next h e
step_kept most w (AfterElse s b a) next h e = after_else_kept most w s b a next h e

pub run_kept : (most : ℕ) (ws : List Word) (st last : State) → FitsState most st → run most ws st ≡ Some last → FitsState most last × ((more : List Word) → told_state last [] ≡ told_state st ws)
run_kept most [] st last h e = (subst (FitsState most) (same_Some st last e) h, λ more. sym (ap (λ z. told_state z []) (same_Some st last e)))
run_kept most (w ∷ ws) st last h e =
    option_and_then_some (run most ws) (step most w st) last e
    (λ next i j. let k = step_kept most w st next h i in let rest = run_kept most ws next last k.fits j in (rest.0, λ more. rest.1 more ∙ k.words ws))

ended_kept : (most : ℕ) (st : State) (r : List Frame × Block) → FitsState most st → ended false st ≡ Some r → Blocked most (told_state st) r
ended_kept most (Need s) r h e = absurd (cc)
ended_kept most (Have s t) r h e = let p = reduce 0 s t in finished_kept most (λ ws. told s (spelled t ws)) false p.0 p.1 r (reduced most 0 (λ ws. told s (spelled t ws)) s t (loosened most (λ ws. told s (spelled t ws)) 8 0 s t (omega arith) h)) e
ended_kept most (Begin s b) r h e = got (Blocked most (λ ws. told s (said_block b ws))) (s, b) r e (record { words = λ ws. refl; inside = h.0; fits = h.1 })
ended_kept most (After s b x) r h e = got (Blocked most (λ ws. told s (said_block b (said x ws)))) (s, Then b x false) r e (done most s b x false h.0 h.1 h.2 h.3)
ended_kept most (AfterThen s b a) r h e = got (Blocked most (λ ws. told s (said_block b (said_arms a ws)))) (s, Then b (If a) false) r e (done most s b (If a) false h.0 h.1.0 h.1.1 h.2)
ended_kept most (AfterElse s b a) r h e = absurd (cc)

pub record Spells (most : ℕ) (ws : List Word) (program : Block) : Type 0 where
  pub words : ws ≡ said_block program []
  pub fits : IsBlock program
  pub levels : deep_block program ≤ most

whole_kept : (most : ℕ) (before : List Word → List Word) (s : List Frame) (b program : Block) → Blocked most before (s, b) → whole (s, b) ≡ Some program → Spells most (before []) program
whole_kept most before [] b program h e = got (Spells most (before [])) b program e (record { words = sym (h.words []); fits = h.inside.0; levels = omega (arith, h.inside.1) })
whole_kept most before (f ∷ s) b program h e = absurd (cc)

-- what is read are the words of a program
pub spelled_of : (most : ℕ) (ws : List Word) (program : Block) → program_of most ws ≡ Some program → Spells most ws program
spelled_of most ws program e =
    option_and_then_some (λ st. option_and_then whole (ended false st)) (run most ws (Begin [] Empty)) program e
    (λ st i j. let k = run_kept most ws (Begin [] Empty) st ((tt, omega arith), tt) i in
    option_and_then_some whole (ended false st) program j
    (λ r x y. let done = ended_kept most st r k.0 x in
    let means = whole_kept most (told_state st) r.0 r.1 program done y in
    record { words = sym (k.1 []) ∙ means.words; fits = means.fits; levels = means.levels }))

pub sound : (most many : ℕ) (ws : List Word) (program : Block) → weigh false ws ≤ many → heads ws ≤ 4096 → program_of most ws ≡ Some program → Means most many ws program
sound most many ws program light short e =
    let h = spelled_of most ws program e in
    record { words = h.words; fits = h.fits; levels = h.levels; size = omega (arith, light, ap (weigh false) h.words, weigh_block program []); short = short }

-- what a program's words weigh
pub light : (most many : ℕ) (ws : List Word) (program : Block) → Means most many ws program → weigh false ws ≤ many
light most many ws program h = omega (arith, h.size, ap (weigh false) h.words, weigh_block program [])
