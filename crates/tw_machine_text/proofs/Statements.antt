-- The words of a program bring the machine to where it has that program.
use Rattle.std.proofs.Common.{◌≡◌, ℕ, ◌+◌, ◌<◌, ◌≤◌, max, Bool, true, false, cond, List, [], ◌∷◌, Some, None, refl, sym, ap, ◌∙◌, arith}
use Rattle.std.specs.Option.{option_and_then}
use Rattle.std.proofs.lemmas.Option.{same_Some}
use Rattle.std.proofs.lemmas.Bool.{lt-ltb}
use Rattle.tw_machine_text.specs.declared.words.Verb.{Verb}
use Rattle.tw_machine_text.specs.declared.words.Word.{Word}
use Rattle.tw_machine_text.specs.declared.words.Word.TheVariants as word
use Rattle.tw_machine_text.specs.Tree.{Tree, Number, Name, Indexed, Binary, spelled, rank, level, is_count, IsExpr, deep, SourceStatement, Assign, Act, Treat, Draw, Wait, Passivate, Start, Send, If, IfElse, Repeat, Block, Empty, Then, Arms, One, More, said, said_block, said_arms, IsStatement, IsBlock, AreArms, deep_statement, deep_block, deep_arms, Means}
use Rattle.tw_machine_text.specs.Letters.{in_number}
use Rattle.tw_machine_text.specs.Machine.{Frame, Operand, InNot, InNegative, InGroup, InIndex, InCall, InRandom, InPlace, InChange, InQueue, InItem, InDeed, InWait, InStart, InTicks, InSend, InIf, InElseIf, InCount, InThen, InElseThen, InElse, InTurns, State, Need, Have, Begin, After, AfterThen, AfterElse, demand, depth, reduce, becomes, open_block, enter, finished, ended, close_block, start, named, marked, have, step, run, whole, program_of}
use Rattle.tw_machine_text.proofs.Expressions.{Comes, come, ahead, ranks, still_past}

-- the words that begin a statement or end a block
abbrev starts : Word → Bool
starts (word.Name n) = true
starts (word.Begins v) = true
starts (word.Does d) = true
starts word.Draw = true
starts word.Wait = true
starts word.Passivate = true
starts word.Start = true
starts word.Send = true
starts word.If = true
starts word.Repeat = true
starts word.CloseBrace = true
starts _ = false

starts-after : (w : Word) (s : List Frame) (b : Block) (last : SourceStatement) → starts w ≡ true → Rattle.tw_machine_text.specs.Machine.after w s b last ≡ start w (s, Then b last false)
starts-after word.Semicolon s b last h = absurd (cc)
starts-after _ s b last h = refl

starts-after_arm : (w : Word) (s : List Frame) (b : Block) (a : Arms) → starts w ≡ true → Rattle.tw_machine_text.specs.Machine.after_arm w s b a ≡ start w (s, Then b (If a) false)
starts-after_arm word.Semicolon s b a h = absurd (cc)
starts-after_arm word.Else s b a h = absurd (cc)
starts-after_arm _ s b a h = refl

named-starts : (n : ℕ) (s : List Frame) (t : Tree) (r : List Frame × Block) → finished false (s, t) ≡ Some r → named n (s, t) ≡ start (word.Name n) r
named-starts n [] t r h = absurd (cc)
named-starts n (InQueue b v ∷ s) t r h = absurd (cc)
named-starts n (InStart b ∷ s) t r h = absurd (cc)
named-starts n (f ∷ s) t r h = ap (option_and_then (start (word.Name n))) h

starts-have : (most : ℕ) (w : Word) (s : List Frame) (t : Tree) (r : List Frame × Block) → starts w ≡ true → finished false (reduce 0 s t) ≡ Some r → have most w s t ≡ start w r
starts-have most (word.Name n) s t r h e = let p = reduce 0 s t in named-starts n p.0 p.1 r e
starts-have most (word.Begins v) s t r h e = ap (option_and_then (start (word.Begins v))) e
starts-have most (word.Does d) s t r h e = ap (option_and_then (start (word.Does d))) e
starts-have most word.Draw s t r h e = ap (option_and_then (start word.Draw)) e
starts-have most word.Wait s t r h e = ap (option_and_then (start word.Wait)) e
starts-have most word.Passivate s t r h e = ap (option_and_then (start word.Passivate)) e
starts-have most word.Start s t r h e = ap (option_and_then (start word.Start)) e
starts-have most word.Send s t r h e = ap (option_and_then (start word.Send)) e
starts-have most word.If s t r h e = ap (option_and_then (start word.If)) e
starts-have most word.Repeat s t r h e = ap (option_and_then (start word.Repeat)) e
starts-have most word.CloseBrace s t r h e = ap (option_and_then (start word.CloseBrace)) e
starts-have most _ s t r h e = absurd (cc)

-- what begins a statement does so wherever one may begin
pub starting : (most : ℕ) (w : Word) (st : State) (r : List Frame × Block) → starts w ≡ true → ended false st ≡ Some r → step most w st ≡ start w r
starting most w (Need s) r h e = absurd (cc)
starting most w (Have s t) r h e = starts-have most w s t r h e
starting most w (Begin s b) r h e = ap (option_and_then (start w)) e
starting most w (After s b last) r h e = starts-after w s b last h ∙ ap (option_and_then (start w)) e
starting most w (AfterThen s b a) r h e = starts-after_arm w s b a h ∙ ap (option_and_then (start w)) e
starting most w (AfterElse s b a) r h e = absurd (cc)

-- nothing binds as tightly as a name
pub whole_place : (s : List Frame) (t : Tree) → reduce 9 s t ≡ (s, t)
whole_place [] t = refl
whole_place (Operand a op ∷ s) t = still_past 9 (rank op) s a t (Binary op a t) (Operand a op) (omega (arith, (ranks op).below))
whole_place (f ∷ s) t = refl

-- what stands behind a queue begins as where an operand is to come
pub behind_queue : (most : ℕ) (e : Tree) (b : Block) (v : Verb) (s : List Frame) (q : Tree) (ws : List Word) → run most (spelled e ws) (Have (InQueue b v ∷ s) q) ≡ run most (spelled e ws) (Need (InItem b v q ∷ s))
behind_queue most (Binary op a c) b v s q ws = behind_queue most a b v s q (word.Sign op ∷ spelled c ws)
behind_queue most _ b v s q ws = refl

-- a place begins a statement as it begins an operand
begins_place : (most : ℕ) (p : Tree) (st : State) (s : List Frame) (b : Block) (ws : List Word) → 9 ≤ level p → ended false st ≡ Some (s, b) → run most (spelled p ws) st ≡ run most (spelled p ws) (Need (InPlace b ∷ s))
begins_place most (Name n) st s b ws h e = ahead most (word.Name n) ws st (Have (InPlace b ∷ s) (Name n)) (starting most (word.Name n) st (s, b) refl e)
begins_place most (Indexed n i) st s b ws h e = ahead most (word.Name n) (word.OpenBracket ∷ spelled i (word.CloseBracket ∷ ws)) st (Have (InPlace b ∷ s) (Name n)) (starting most (word.Name n) st (s, b) refl e)
begins_place most (Binary op x y) st s b ws h e = absurd (omega (arith, (ranks op).below))
begins_place most _ st s b ws h e = absurd (omega arith)

count_fits : (n : Tree) → is_count n ≡ true → (1 ≤ level n) × IsExpr n × (deep n ≡ 0)
count_fits (Number n) h = (omega arith, tt, refl)
count_fits (Name n) h = (omega arith, tt, refl)
count_fits _ h = absurd (cc)

pub record Tells (most : ℕ) (s : List Frame) (b : Block) (x : SourceStatement) (st : State) : Type 0 where
  pub next : State
  pub go : (ws : List Word) → run most (said x ws) st ≡ run most ws next
  pub plain : ended false next ≡ Some (s, Then b x false)
  pub marks : step most word.Semicolon next ≡ Some (Begin s (Then b x true))

pub record Holds (most : ℕ) (s : List Frame) (b : Block) : Type 0 where
  pub next : State
  pub go : (ws : List Word) → run most (said_block b ws) (Begin s Empty) ≡ run most ws next
  pub plain : ended false next ≡ Some (s, b)

entered : (most : ℕ) (f : Frame) (s : List Frame) → depth s < most → enter most f s ≡ Some (Begin (f ∷ s) Empty)
entered most f s h = rw (lt-ltb (depth s) most h) refl

-- an operand that ends its statement
last_operand : (most : ℕ) (f : Frame) (s : List Frame) (b : Block) (x : SourceStatement) (st : State) (t : Tree) (c : Comes most (f ∷ s) t) →
    ((ws : List Word) → run most (said x ws) st ≡ run most (spelled t ws) (Need (f ∷ s))) →
    reduce 0 (f ∷ s) t ≡ (f ∷ s, t) →
    ((m : Bool) → finished m (f ∷ s, t) ≡ Some (s, Then b x m)) →
    Tells most s b x st
last_operand most f s b x st t c before top done =
    let same = c.same 0 (omega arith) ∙ top in
    record {
      next = Have c.stack c.top;
      go = λ ws. before ws ∙ c.go ws;
      plain = ap (finished false) same ∙ done false;
      marks = ap (option_and_then marked) (ap (finished true) same ∙ done true);
    }

mutual
  pub tell : (most : ℕ) (x : SourceStatement) (st : State) (s : List Frame) (b : Block) → IsStatement x → ended false st ≡ Some (s, b) → depth s + deep_statement x ≤ most → Tells most s b x st
  tell most (Assign p c e) st s b fits can room =
      let place = come most p (InPlace b ∷ s) fits.0.1 fits.0.0 (omega arith) in
      last_operand most (InChange b p c) s b (Assign p c e) st e (come most e (InChange b p c ∷ s) fits.1.1 fits.1.0 (omega arith))
      (λ ws. begins_place most p st s b (word.Becomes c ∷ spelled e ws) fits.0.0 can
      ∙ place.go (word.Becomes c ∷ spelled e ws)
      ∙ ap (λ r. option_and_then (run most (spelled e ws)) (becomes c r)) (place.same 0 (omega arith)))
      refl (λ m. refl)
  tell most (Act v q e) st s b fits can room =
      let queue = come most q (InQueue b v ∷ s) fits.0.1 fits.0.0 (omega arith) in
      let same = sym (whole_place queue.stack queue.top) ∙ queue.same 9 fits.0.0 in
      last_operand most (InItem b v q) s b (Act v q e) st e (come most e (InItem b v q ∷ s) fits.2 (omega arith) (omega arith))
      (λ ws. ahead most (word.Begins v) (spelled q (spelled e ws)) st (Need (InQueue b v ∷ s)) (starting most (word.Begins v) st (s, b) refl can)
      ∙ queue.go (spelled e ws)
      ∙ ap (λ (r : List Frame × Tree). run most (spelled e ws) (Have r.0 r.1)) same
      ∙ behind_queue most e b v s q ws)
      refl (λ m. ap (λ z. cond z (Some (s, Then b (Act v q e) m)) None) fits.1)
  tell most (Treat d q) st s b fits can room =
      last_operand most (InDeed b d) s b (Treat d q) st q (come most q (InDeed b d ∷ s) fits.1 fits.0 (omega arith))
      (λ ws. ahead most (word.Does d) (spelled q ws) st (Need (InDeed b d ∷ s)) (starting most (word.Does d) st (s, b) refl can))
      refl (λ m. refl)
  tell most Draw st s b fits can room =
      record { next = After s b Draw; go = λ ws. ahead most word.Draw ws st (After s b Draw) (starting most word.Draw st (s, b) refl can); plain = refl; marks = refl }
  tell most (Wait e) st s b fits can room =
      last_operand most (InWait b) s b (Wait e) st e (come most e (InWait b ∷ s) fits.1 fits.0 (omega arith))
      (λ ws. ahead most word.Wait (spelled e ws) st (Need (InWait b ∷ s)) (starting most word.Wait st (s, b) refl can))
      refl (λ m. refl)
  tell most (Start p e) st s b fits can room =
      let timer = come most p (InStart b ∷ s) fits.0.1 fits.0.0 (omega arith) in
      last_operand most (InTicks b p) s b (Start p e) st e (come most e (InTicks b p ∷ s) fits.1.1 fits.1.0 (omega arith))
      (λ ws. ahead most word.Start (spelled p (word.Name in_number ∷ spelled e ws)) st (Need (InStart b ∷ s)) (starting most word.Start st (s, b) refl can)
      ∙ timer.go (word.Name in_number ∷ spelled e ws)
      ∙ ap (λ r. option_and_then (run most (spelled e ws)) (named in_number r)) (timer.same 0 (omega arith)))
      refl (λ m. refl)
  tell most (Send e) st s b fits can room =
      last_operand most (InSend b) s b (Send e) st e (come most e (InSend b ∷ s) fits.1 (omega arith) (omega arith))
      (λ ws. ahead most word.Send (spelled e ws) st (Need (InSend b ∷ s)) (starting most word.Send st (s, b) refl can))
      refl (λ m. ap (λ z. cond z (Some (s, Then b (Send e) m)) None) fits.0)
  tell most Passivate st s b fits can room =
      record { next = After s b Passivate; go = λ ws. ahead most word.Passivate ws st (After s b Passivate) (starting most word.Passivate st (s, b) refl can); plain = refl; marks = refl }
  tell most (If a) st s b fits can room =
      record { next = AfterThen s b a; go = λ ws. arm most a st s b ws fits can room; plain = refl; marks = refl }
  tell most (IfElse a c) st s b fits can room =
      let inner = hold most c (InElse b a ∷ s) fits.1 (omega arith) in
      record {
        next = After s b (IfElse a c);
        go = λ ws. arm most a st s b (word.Else ∷ word.OpenBrace ∷ said_block c (word.CloseBrace ∷ ws)) fits.0 can (omega arith)
            ∙ ahead most word.OpenBrace (said_block c (word.CloseBrace ∷ ws)) (AfterElse s b a) (Begin (InElse b a ∷ s) Empty) (entered most (InElse b a) s (omega arith))
            ∙ inner.go (word.CloseBrace ∷ ws)
            ∙ ahead most word.CloseBrace ws inner.next (After s b (IfElse a c)) (starting most word.CloseBrace inner.next (InElse b a ∷ s, c) refl inner.plain);
        plain = refl;
        marks = refl;
      }
  tell most (Repeat n c) st s b fits can room =
      let inner = hold most c (InTurns b n ∷ s) fits.1 (omega arith) in
      let fit = count_fits n fits.0 in
      let turns = come most n (InCount b ∷ s) fit.1 fit.0 (omega (arith, fit.2)) in
      record {
        next = After s b (Repeat n c);
        go = λ ws. ahead most word.Repeat (spelled n (word.OpenBrace ∷ said_block c (word.CloseBrace ∷ ws))) st (Need (InCount b ∷ s)) (starting most word.Repeat st (s, b) refl can)
            ∙ turns.go (word.OpenBrace ∷ said_block c (word.CloseBrace ∷ ws))
            ∙ ahead most word.OpenBrace (said_block c (word.CloseBrace ∷ ws)) (Have turns.stack turns.top) (Begin (InTurns b n ∷ s) Empty) (ap (open_block most) (turns.same 0 (omega arith)) ∙ ap (λ z. cond z (enter most (InTurns b n) s) None) fits.0 ∙ entered most (InTurns b n) s (omega arith))
            ∙ inner.go (word.CloseBrace ∷ ws)
            ∙ ahead most word.CloseBrace ws inner.next (After s b (Repeat n c)) (starting most word.CloseBrace inner.next (InTurns b n ∷ s, c) refl inner.plain);
        plain = refl;
        marks = refl;
      }

  pub hold : (most : ℕ) (b : Block) (s : List Frame) → IsBlock b → depth s + deep_block b ≤ most → Holds most s b
  hold most Empty s fits room = record { next = Begin s Empty; go = λ ws. refl; plain = refl }
  hold most (Then b x true) s fits room =
      let before = hold most b s fits.0 (omega arith) in
      let last = tell most x before.next s b fits.1 before.plain (omega arith) in
      record {
        next = Begin s (Then b x true);
        go = λ ws. before.go (said x (word.Semicolon ∷ ws)) ∙ last.go (word.Semicolon ∷ ws) ∙ ahead most word.Semicolon ws last.next (Begin s (Then b x true)) last.marks;
        plain = refl;
      }
  hold most (Then b x false) s fits room =
      let before = hold most b s fits.0 (omega arith) in
      let last = tell most x before.next s b fits.1 before.plain (omega arith) in
      record { next = last.next; go = λ ws. before.go (said x ws) ∙ last.go ws; plain = last.plain }

  pub arm : (most : ℕ) (a : Arms) (st : State) (s : List Frame) (b : Block) (ws : List Word) → AreArms a → ended false st ≡ Some (s, b) → depth s + deep_arms a ≤ most → run most (said_arms a ws) st ≡ run most ws (AfterThen s b a)
  arm most (One t c) st s b ws fits can room =
      let inner = hold most c (InThen b t ∷ s) fits.1 (omega arith) in
      let test = come most t (InIf b ∷ s) fits.0.1 fits.0.0 (omega arith) in
      ahead most word.If (spelled t (word.OpenBrace ∷ said_block c (word.CloseBrace ∷ ws))) st (Need (InIf b ∷ s)) (starting most word.If st (s, b) refl can)
      ∙ test.go (word.OpenBrace ∷ said_block c (word.CloseBrace ∷ ws))
      ∙ ahead most word.OpenBrace (said_block c (word.CloseBrace ∷ ws)) (Have test.stack test.top) (Begin (InThen b t ∷ s) Empty) (ap (open_block most) (test.same 0 (omega arith)) ∙ entered most (InThen b t) s (omega arith))
      ∙ inner.go (word.CloseBrace ∷ ws)
      ∙ ahead most word.CloseBrace ws inner.next (AfterThen s b (One t c)) (starting most word.CloseBrace inner.next (InThen b t ∷ s, c) refl inner.plain)
  arm most (More a t c) st s b ws fits can room =
      let inner = hold most c (InElseThen b a t ∷ s) fits.2 (omega arith) in
      let test = come most t (InElseIf b a ∷ s) fits.1.1 fits.1.0 (omega arith) in
      arm most a st s b (word.Else ∷ word.If ∷ spelled t (word.OpenBrace ∷ said_block c (word.CloseBrace ∷ ws))) fits.0 can (omega arith)
      ∙ test.go (word.OpenBrace ∷ said_block c (word.CloseBrace ∷ ws))
      ∙ ahead most word.OpenBrace (said_block c (word.CloseBrace ∷ ws)) (Have test.stack test.top) (Begin (InElseThen b a t ∷ s) Empty) (ap (open_block most) (test.same 0 (omega arith)) ∙ entered most (InElseThen b a t) s (omega arith))
      ∙ inner.go (word.CloseBrace ∷ ws)
      ∙ ahead most word.CloseBrace ws inner.next (AfterThen s b (More a t c)) (starting most word.CloseBrace inner.next (InElseThen b a t ∷ s, c) refl inner.plain)

-- the words of a program are read as that program
pub again : (most : ℕ) (program : Block) → IsBlock program → deep_block program ≤ most → program_of most (said_block program []) ≡ Some program
again most program fits room =
    let done = hold most program [] fits (omega arith) in
    ap (option_and_then (λ st. option_and_then whole (ended false st))) (done.go []) ∙ ap (option_and_then whole) done.plain

pub again_means : (most many : ℕ) (ws : List Word) (program : Block) → Means most many ws program → program_of most ws ≡ Some program
again_means most many ws program h = ap (program_of most) h.words ∙ again most program h.fits h.levels

-- words are one program at most
pub one_program : (ws : List Word) (m n j k : ℕ) (a b : Block) → Means m j ws a → Means n k ws b → a ≡ b
one_program ws m n j k a b h i =
    same_Some a b (sym (again_means (max m n) j ws a (record { words = h.words; fits = h.fits; levels = omega (arith, h.levels); size = h.size; short = h.short }))
    ∙ again_means (max m n) k ws b (record { words = i.words; fits = i.fits; levels = omega (arith, i.levels); size = i.size; short = i.short }))
