-- What is read of a text.
use Rattle.std.proofs.Common.{◌≡◌, ℕ, length, Bool, true, false, cond, List, [], ◌∷◌, ◌+◌, ◌<◌, ◌≤◌, Some, None, Option, Result, Ok, Err, refl, sym, ◌∙◌, subst, ap, arith}
use Rattle.std.specs.Prelude.{IfOk}
use Rattle.std.proofs.lemmas.Option.{same_Some}
use Rattle.tw_machine_text.specs.declared.words.Word.{Word}
use Rattle.tw_machine_text.specs.declared.words.Word.TheVariants as word
use Rattle.tw_machine_text.specs.declared.kinds.Meaning.{Meaning}
use Rattle.tw_machine_text.specs.declared.kinds.Member.{Member}
use Rattle.tw_machine_text.specs.Kinds.{waited}
use Rattle.tw_machine_text.specs.declared.kinds.Timing.{Timing}
use Rattle.tw_machine_text.specs.Timers.{may_stand, may_stand_as}
use Rattle.tw_machine_text.specs.Desugared.{desugared_block, desugared_text, is_within, is_within_tree, limited, limited_tree}
use Rattle.tw_machine_text.specs.Tree.{Tree, Block, Empty, Then, Wait, Means, spelled, IsAlone, deep, nodes, heads}
use Rattle.tw_machine_text.specs.Text.{HasWords, Reads, ReadsTree, words_of, Lexed}
use Rattle.tw_machine_text.specs.declared.refused.Refused.{Refused}
use Rattle.tw_machine_text.specs.declared.tree.Block as rust
use Rattle.tw_machine_text.specs.declared.tree.SourceExpr as rust_expr
use Rattle.tw_machine_text.specs.Views.{body, tree, Tells}
use Rattle.tw_machine_text.proofs.Scanned.{words_sound, words_again}
use Rattle.tw_machine_text.proofs.Statements.{one_program}

-- a text has one list of words at most
pub one_words : (names : List (List ℕ)) (text : List ℕ) (v w : List Word) → HasWords names false v text → HasWords names false w text → v ≡ w
one_words names text v w h k = same_Some v w (sym (words_again names v text h) ∙ words_again names w text k)

pub one_text : (names : List (List ℕ)) (timing : Option Timing) (kinds : List Meaning) (procedures : List Block) (text : List ℕ) (m n i j : ℕ) (a b : Block) → Reads m i names timing kinds procedures text a → Reads n j names timing kinds procedures text b → a ≡ b
one_text names timing kinds procedures text m n i j a b h k =
    sym h.comes
    ∙ ap (desugared_block timing kinds procedures) (one_program k.words 65 65 8192 8192 h.written k.written
    (subst (λ (ws : List Word). Means 65 8192 ws h.written) (one_words names text h.words k.words h.has k.has) h.means)
    k.means)
    ∙ k.comes

-- a text that is read has the words that the machine finds
means_words : (names : List (List ℕ)) (timing : Option Timing) (kinds : List Meaning) (procedures : List Block) (text : List ℕ) (most many : ℕ) (ws : List Word) (program : Block) → words_of names text ≡ Some ws → (h : Reads most many names timing kinds procedures text program) → Means 65 8192 ws h.written
means_words names timing kinds procedures text most many ws program e h =
    subst (λ (vs : List Word). Means 65 8192 vs h.written) (one_words names text h.words ws h.has (words_sound names text ws e)) h.means

within_if : (b : Bool) (most many : ℕ) (p program : Block) → is_within most many p ≡ b → cond b (Some p) None ≡ Some program → (p ≡ program) × (is_within most many program ≡ true)
within_if true most many p program e h = (same_Some p program h, subst (λ (q : Block). is_within most many q ≡ true) (same_Some p program h) e)
within_if false most many p program e h = absurd (cc)

-- what is desugared is within the limits
pub within : (most many : ℕ) (p program : Block) → limited most many p ≡ Some program → (p ≡ program) × (is_within most many program ≡ true)
within most many p program h = within_if (is_within most many p) most many p program refl h

-- what is read of a written program is what the text says
pub read_words : (names : List (List ℕ)) (timing : Option Timing) (kinds : List Meaning) (procedures : List Block) (text : List ℕ) (most many : ℕ) (ws : List Word) (written : Block) (r : Result rust.Block Refused) → words_of names text ≡ Some ws → Means 65 8192 ws written → may_stand timing kinds (length procedures) written ≡ true → Tells body r (limited most many (desugared_block timing kinds procedures written)) → IfOk r (λ program. Reads most many names timing kinds procedures text (body program))
read_words names timing kinds procedures text most many ws written (Ok program) e h b l =
    let p = within most many (desugared_block timing kinds procedures written) (body program) l in
    record { words = ws; has = words_sound names text ws e; written = written; means = h; stands = b; comes = p.0; limits = p.1 }
read_words names timing kinds procedures text most many ws written (Err fault) e h b l = tt

-- and all that the text says is read
pub read_only : (names : List (List ℕ)) (timing : Option Timing) (kinds : List Meaning) (procedures : List Block) (text : List ℕ) (most many : ℕ) (program written : Block) (r : Result rust.Block Refused) → (h : Reads most many names timing kinds procedures text program) → h.written ≡ written → Tells body r (limited most many (desugared_block timing kinds procedures written)) → Tells body r (Some program)
read_only names timing kinds procedures text most many program written r h e l =
    subst (Tells body r) (ap (λ (w : Block). limited most many (desugared_block timing kinds procedures w)) (sym e) ∙ ap (limited most many) h.comes ∙ ap (λ z. cond z (Some program) None) h.limits) l

pub none_some_words : {A : Type 0} {x : A} {o : Option A} → o ≡ None → o ≡ Some x → ⊥
none_some_words e f = cc

pub no_words : (names : List (List ℕ)) (timing : Option Timing) (kinds : List Meaning) (procedures : List Block) (text : List ℕ) (most many : ℕ) (program : Block) → words_of names text ≡ None → Reads most many names timing kinds procedures text program → ⊥
no_words names timing kinds procedures text most many program e h = none_some_words e (words_again names h.words text h.has)

-- a text that is read has all its words
pub complete_words : (names : List (List ℕ)) (timing : Option Timing) (kinds : List Meaning) (procedures : List Block) (text : List ℕ) (most many : ℕ) (complete : Bool) (ws : List Word) (program : Block) → Lexed complete ws (words_of names text) → (h : Reads most many names timing kinds procedures text program) → (complete ≡ true) × Means 65 8192 ws h.written
complete_words names timing kinds procedures text most many true ws program e h = (refl, means_words names timing kinds procedures text most many ws program e h)
complete_words names timing kinds procedures text most many false ws program e h = absurd (no_words names timing kinds procedures text most many program e h)

pub all_words : (names : List (List ℕ)) (text : List ℕ) (complete : Bool) (ws : List Word) → complete ≡ true → Lexed complete ws (words_of names text) → words_of names text ≡ Some ws
all_words names text true ws t e = e
all_words names text false ws t e = absurd (cc)

-- a text that is a program has all its words, these are what is written, and each name of it stands where it may
pub record Stands (complete : Bool) (timing : Option Timing) (kinds : List Meaning) (known : ℕ) (written found : Block) : Type 0 where
  pub whole : complete ≡ true
  pub same : written ≡ found
  pub stands : may_stand timing kinds known found ≡ true

pub stands : (names : List (List ℕ)) (timing : Option Timing) (kinds : List Meaning) (procedures : List Block) (text : List ℕ) (most many : ℕ) (complete : Bool) (ws : List Word) (program found : Block) → Lexed complete ws (words_of names text) → (h : Reads most many names timing kinds procedures text program) → (Means 65 8192 ws h.written → ◌≡◌ {A = Option Block} (Some h.written) (Some found)) → Stands complete timing kinds (length procedures) h.written found
stands names timing kinds procedures text most many complete ws program found e h only =
    let k = complete_words names timing kinds procedures text most many complete ws program e h in
    let same = same_Some h.written found (only k.1) in
    record { whole = k.0; same = same; stands = subst (λ (b : Block). may_stand timing kinds (length procedures) b ≡ true) same h.stands }

pub not_both : (b : Bool) → b ≡ true → b ≡ false → ⊥
not_both b t f = cc

is_waited : (b : Block) (e : Tree) → waited b ≡ Some e → b ≡ Then Empty (Wait e) false
is_waited (Then Empty (Wait f) false) e h = ap (λ (x : Tree). Then Empty (Wait x) false) (same_Some f e h)
is_waited (Then Empty s false) e h = absurd (cc)
is_waited (Then (Then b x m) s false) e h = absurd (cc)
is_waited (Then b s true) e h = absurd (cc)
is_waited Empty e h = absurd (cc)

same_tail : (w : Word) (v u : List Word) → ◌≡◌ {A = List Word} (w ∷ v) (w ∷ u) → v ≡ u
same_tail w v u h = cc

-- an expression is read as the program that waits for it
waits_means : (most many : ℕ) (ws : List Word) (e : Tree) → ws ≡ spelled e [] → IsAlone e → deep e ≤ most → nodes e ≤ many → heads ws < 4096 → Means most (many + 1) (word.Wait ∷ ws) (Then Empty (Wait e) false)
waits_means most many ws e words alone levels size short = record { words = ap (λ (z : List Word). word.Wait ∷ z) words; fits = (tt, alone); levels = omega (arith, levels); size = omega (arith, size); short = omega (arith, short) }

-- a text that is an expression has all its words, and these are what is written
pub tree_means : (names : List (List ℕ)) (timing : Option Timing) (kinds : List Meaning) (text : List ℕ) (most many : ℕ) (member : Member) (complete : Bool) (ws : List Word) (e : Tree) → Lexed complete ws (words_of names text) → (h : ReadsTree most many member names timing kinds text e) → (complete ≡ true) × Means 65 8193 (word.Wait ∷ ws) (Then Empty (Wait h.written) false)
tree_means names timing kinds text most many member true ws e l h =
    let same = one_words names text ws h.words (words_sound names text ws l) h.has in
    (refl, waits_means 65 8192 ws h.written (same ∙ h.spells) h.alone h.levels h.size (subst (λ (vs : List Word). heads vs < 4096) (sym same) h.short))
tree_means names timing kinds text most many member false ws e l h = absurd (none_some_words l (words_again names h.words text h.has))

within_tree_if : (b : Bool) (most many : ℕ) (p e : Tree) → is_within_tree most many p ≡ b → cond b (Some p) None ≡ Some e → (p ≡ e) × (is_within_tree most many e ≡ true)
within_tree_if true most many p e t h = (same_Some p e h, subst (λ (q : Tree). is_within_tree most many q ≡ true) (same_Some p e h) t)
within_tree_if false most many p e t h = absurd (cc)

pub within_tree : (most many : ℕ) (p e : Tree) → limited_tree most many p ≡ Some e → (p ≡ e) × (is_within_tree most many e ≡ true)
within_tree most many p e h = within_tree_if (is_within_tree most many p) most many p e refl h

-- what is read as the program that waits for it, and is within the limits, is an expression
pub read_tree : (names : List (List ℕ)) (timing : Option Timing) (kinds : List Meaning) (text : List ℕ) (most many : ℕ) (member : Member) (complete : Bool) (ws : List Word) (b : Block) (written e : Tree) → complete ≡ true → Lexed complete ws (words_of names text) → Means 65 8193 (word.Wait ∷ ws) b → waited b ≡ Some written → may_stand_as timing member kinds written ≡ true → limited_tree most many (desugared_text timing kinds written) ≡ Some e → ReadsTree most many member names timing kinds text e
read_tree names timing kinds text most many member complete ws b written e t l h i stands limits =
    let m = subst (λ (p : Block). Means 65 8193 (word.Wait ∷ ws) p) (is_waited b written i) h in
    let p = within_tree most many (desugared_text timing kinds written) e limits in
    record {
      words = ws;
      has = words_sound names text ws (all_words names text complete ws t l);
      written = written;
      spells = same_tail word.Wait ws (spelled written []) m.words;
      alone = m.fits.1;
      levels = omega (arith, m.levels);
      size = omega (arith, m.size);
      short = omega (arith, m.short);
      stands = stands;
      comes = p.0;
      limits = p.1;
    }

-- the same of what the reader answers
pub read_answer : (names : List (List ℕ)) (timing : Option Timing) (kinds : List Meaning) (text : List ℕ) (most many : ℕ) (member : Member) (complete : Bool) (ws : List Word) (b : Block) (written : Tree) (r : Result rust_expr.SourceExpr Refused) → complete ≡ true → Lexed complete ws (words_of names text) → Means 65 8193 (word.Wait ∷ ws) b → waited b ≡ Some written → may_stand_as timing member kinds written ≡ true → Tells tree r (limited_tree most many (desugared_text timing kinds written)) → IfOk r (λ e. ReadsTree most many member names timing kinds text (tree e))
read_answer names timing kinds text most many member complete ws b written (Ok e) t l h i stands limits = read_tree names timing kinds text most many member complete ws b written (tree e) t l h i stands limits
read_answer names timing kinds text most many member complete ws b written (Err fault) t l h i stands limits = tt

pub one_tree : (names : List (List ℕ)) (timing : Option Timing) (kinds : List Meaning) (text : List ℕ) (m n i j : ℕ) (s t : Member) (a b : Tree) → ReadsTree m i s names timing kinds text a → ReadsTree n j t names timing kinds text b → a ≡ b
one_tree names timing kinds text m n i j s t a b h k =
    sym h.comes
    ∙ ap (desugared_text timing kinds) (same_Some h.written k.written (ap waited (one_program (word.Wait ∷ h.words) 65 65 8193 8193 (Then Empty (Wait h.written) false) (Then Empty (Wait k.written) false)
    (waits_means 65 8192 h.words h.written h.spells h.alone h.levels h.size h.short)
    (waits_means 65 8192 h.words k.written (one_words names text h.words k.words h.has k.has ∙ k.spells) k.alone k.levels k.size h.short))))
    ∙ k.comes

-- what is waited for is what was found
pub found_tree : (b : Block) (e : Tree) (o : Option Tree) → ◌≡◌ {A = Option Block} (Some (Then Empty (Wait e) false)) (Some b) → o ≡ waited b → ◌≡◌ {A = Option Tree} (Some e) o
found_tree b e o h w = ap waited (same_Some (Then Empty (Wait e) false) b h) ∙ sym w

-- and all that the text is is read
pub tree_only : (names : List (List ℕ)) (timing : Option Timing) (kinds : List Meaning) (text : List ℕ) (most many : ℕ) (member : Member) (e found : Tree) (r : Result rust_expr.SourceExpr Refused) → (h : ReadsTree most many member names timing kinds text e) → ◌≡◌ {A = Option Tree} (Some h.written) (Some found) → Tells tree r (limited_tree most many (desugared_text timing kinds found)) → Tells tree r (Some e)
tree_only names timing kinds text most many member e found r h same l =
    subst (Tells tree r) (ap (λ (w : Tree). limited_tree most many (desugared_text timing kinds w)) (sym (same_Some h.written found same)) ∙ ap (limited_tree most many) h.comes ∙ ap (λ z. cond z (Some e) None) h.limits) l

pub stands_tree : (timing : Option Timing) (member : Member) (kinds : List Meaning) (a b : Tree) → ◌≡◌ {A = Option Tree} (Some a) (Some b) → may_stand_as timing member kinds a ≡ true → may_stand_as timing member kinds b ≡ true
stands_tree timing member kinds a b e h = subst (λ (t : Tree). may_stand_as timing member kinds t ≡ true) (same_Some a b e) h
