-- Lines that are read one after another.
use Rattle.std.proofs.Common.{◌≡◌, ◌<◌, ◌≤◌, ⊎_elim, ◌++◌, ◌∷◌, [], ◌∙◌, ◌+◌, ℕ, zero, suc, List, length, map, take, get_or, sym, ap, arith, true, false, refl, Bor, true≢false, add-one, take_all, subst, eq-or-lt_of_le, inl, inr}
use Rattle.std.specs.Prelude.{Result, Ok, Err, Some, IfSome, slice_get, unwrap_or, ◌==◌, ◌-◌, if◌then◌else◌}
use Rattle.std.specs.List.{slice_split, AllByRecursion as Each}
use Rattle.std.specs.Result.{IfErr, IsErrAnd}
use Rattle.std.specs.Str.{IsUtf8}
use Rattle.std.proofs.lemmas.Option.{none-some, slice_get_within}
use Rattle.tw_theory.proofs.Elements.{each_from_get}
use Rattle.tw_script.specs.Scripts.{AreSaid, nothing, skipped, said, IsFirst, IsFirstNoText, IsNotText, IsRefusedFor, IsWrong, Says, SaysNothing, ends_in_nothing, is_skipped, lines_of, lines_of_pieces, max_lines, newline}
use Rattle.tw_script.specs.declared.refused.ScriptRefused.{ScriptRefused}
use Rattle.tw_script.specs.declared.refused.ScriptRefused.TheVariants.{OutOfMemory, TooMany, BadLine}
use Rattle.tw_script.specs.declared.command.Command.{Command}

abbrev pub shown : List (Bor (List ℕ)) → List (List ℕ)
shown lines = map (λ l. l.now) lines

some_is : {A : Type 0} {x y : A} → Some y ≡ Some x → y ≡ x
some_is {A} {x} {y} e = ap (λ o. unwrap_or o x) e

-- ---- the lines up to i

slice_take : {A : Type 0} (xs : List A) (i k : ℕ) → k < i → slice_get (take i xs) k ≡ slice_get xs k
slice_take [] zero k l = refl
slice_take [] (suc i) k l = refl
slice_take (x ∷ xs) zero k l = absurd (omega (arith, l))
slice_take (x ∷ xs) (suc i) zero l = refl
slice_take (x ∷ xs) (suc i) (suc k) l = slice_take xs i k (omega (arith, l))

take_more : {A : Type 0} (xs : List A) (i : ℕ) (x : A) → slice_get xs i ≡ Some x → take (suc i) xs ≡ take i xs ++ x ∷ []
take_more [] i x h = absurd (none-some x h)
take_more (y ∷ xs) zero x h = ap (λ z. z ∷ []) (some_is h)
take_more (y ∷ xs) (suc i) x h = ap (λ l. y ∷ l) (take_more xs i x h)

-- ---- texts

pub record AreTexts (lines texts : List (List ℕ)) (i : ℕ) : Type 0 where
  pub texts_are : texts ≡ take i lines
  pub utf8 : (k : ℕ) (line : List ℕ) → k < i → slice_get lines k ≡ Some line → IsUtf8 line

pub texts_more : (lines texts : List (List ℕ)) (i : ℕ) (line : List ℕ) → AreTexts lines texts i → slice_get lines i ≡ Some line → IsUtf8 line → AreTexts lines (texts ++ line ∷ []) (i + 1)
texts_more lines texts i line h at is_text = record {
  texts_are = ap (λ ts. ts ++ line ∷ []) h.texts_are ∙ sym (take_more lines i line at) ∙ ap (λ n. take n lines) (sym (add-one i));
  utf8 = λ k other l there. ⊎_elim (λ is. subst IsUtf8 (some_is (sym at ∙ ap (slice_get lines) (sym is) ∙ there)) is_text) (λ below. h.utf8 k other below there) (eq-or-lt_of_le (omega (arith, l)));
}

pub all_texts : (lines texts : List (List ℕ)) (i : ℕ) → AreTexts lines texts i → length lines ≤ i → (texts ≡ lines) × Each IsUtf8 lines
all_texts lines texts i h l = (
  h.texts_are ∙ take_all i lines l,
  each_from_get IsUtf8 lines (λ k line at. h.utf8 k line (omega (arith, slice_get_within lines k line at, l)) at),
)

-- ---- commands

pub said_more : (names : List (List ℕ)) (lines : List (List ℕ)) (commands : List Command) (line : List ℕ) (command : Command) → AreSaid names lines commands → is_skipped line ≡ false → Says names command line
    → AreSaid names (lines ++ line ∷ []) (commands ++ command ∷ [])
said_more names lines commands line command nothing counts says = said line command [] [] counts says nothing
said_more names lines commands line command (skipped first rest cs h t) counts says = skipped first (rest ++ line ∷ []) (cs ++ command ∷ []) h (said_more names rest cs line command t counts says)
said_more names lines commands line command (said first one rest cs h s t) counts says = said first one (rest ++ line ∷ []) (cs ++ command ∷ []) h s (said_more names rest cs line command t counts says)

pub skipped_more : (names : List (List ℕ)) (lines : List (List ℕ)) (commands : List Command) (line : List ℕ) → AreSaid names lines commands → is_skipped line ≡ true → AreSaid names (lines ++ line ∷ []) commands
skipped_more names lines commands line nothing skips = skipped line [] [] skips nothing
skipped_more names lines commands line (skipped first rest cs h t) skips = skipped first (rest ++ line ∷ []) cs h (skipped_more names rest cs line t skips)
skipped_more names lines commands line (said first one rest cs h s t) skips = said first one (rest ++ line ∷ []) cs h s (skipped_more names rest cs line t skips)

pub said_at : (names : List (List ℕ)) (lines : List (List ℕ)) (i : ℕ) (line : List ℕ) (commands : List Command) (command : Command) → AreSaid names (take i lines) commands → slice_get lines i ≡ Some line
    → is_skipped line ≡ false → Says names command line → AreSaid names (take (i + 1) lines) (commands ++ command ∷ [])
said_at names lines i line commands command h at counts says =
    subst (λ ls. AreSaid names ls (commands ++ command ∷ [])) (sym (ap (λ n. take n lines) (add-one i) ∙ take_more lines i line at)) (said_more names (take i lines) commands line command h counts says)

pub skipped_at : (names : List (List ℕ)) (lines : List (List ℕ)) (i : ℕ) (line : List ℕ) (commands : List Command) → AreSaid names (take i lines) commands → slice_get lines i ≡ Some line
    → is_skipped line ≡ true → AreSaid names (take (i + 1) lines) commands
skipped_at names lines i line commands h at skips =
    subst (λ ls. AreSaid names ls commands) (sym (ap (λ n. take n lines) (add-one i) ∙ take_more lines i line at)) (skipped_more names (take i lines) commands line h skips)

-- no line that says something, or is skipped, is wrong
pub none_wrong : (names : List (List ℕ)) (lines : List (List ℕ)) (commands : List Command) → AreSaid names lines commands → (k : ℕ) (line : List ℕ) → slice_get lines k ≡ Some line → IsWrong names line → ⊥
none_wrong names lines commands nothing k line at w = none-some line at
none_wrong names lines commands (skipped first rest cs h t) zero line at w = true≢false (sym h ∙ ap is_skipped (some_is at) ∙ w.counts)
none_wrong names lines commands (skipped first rest cs h t) (suc k) line at w = none_wrong names rest cs t k line at w
none_wrong names lines commands (said first one rest cs h s t) zero line at w = w.says_nothing one (subst (Says names one) (some_is at) s)
none_wrong names lines commands (said first one rest cs h s t) (suc k) line at w = none_wrong names rest cs t k line at w

pub first_wrong : (names : List (List ℕ)) (lines : List (List ℕ)) (i : ℕ) (line : List ℕ) (commands : List Command) → AreSaid names (take i lines) commands → slice_get lines i ≡ Some line → IsWrong names line → IsFirst (IsWrong names) lines (i + 1)
first_wrong names lines i line commands h at w = record {
  place = i;
  number_is = refl;
  bad = subst (λ o. IfSome o (IsWrong names)) (sym at) w;
  within = slice_get_within lines i line at;
  earlier = λ k other l there. none_wrong names (take i lines) commands h k other (slice_take lines i k l ∙ there);
}

pub first_no_text : (lines texts : List (List ℕ)) (i : ℕ) (line : List ℕ) → AreTexts lines texts i → slice_get lines i ≡ Some line → (IsUtf8 line → ⊥) → IsFirstNoText lines (i + 1)
first_no_text lines texts i line h at bad = record {
  place = i;
  number_is = refl;
  bad = subst (λ o. IfSome o (λ l. ¬ (IsUtf8 l))) (sym at) bad;
  within = slice_get_within lines i line at;
  earlier = λ k other l there is_bad. is_bad (h.utf8 k other l there);
}

-- ---- what lines are refused for, the text is refused for

pub refused_no_text : (names lines : List (List ℕ)) (bytes : List ℕ) (why : ScriptRefused) → lines ≡ lines_of bytes → length (lines_of bytes) ≤ max_lines → IsNotText lines why → IsRefusedFor names bytes why
refused_no_text names lines bytes OutOfMemory e few h = tt
refused_no_text names lines bytes TooMany e few h = absurd h
refused_no_text names lines bytes (BadLine n) e few h = (few, inl (subst (λ ls. IsFirstNoText ls n) e h))

pub refused_wrong : (names lines : List (List ℕ)) (bytes : List ℕ) (why : ScriptRefused) → lines ≡ lines_of bytes → length (lines_of bytes) ≤ max_lines → Each IsUtf8 (lines_of bytes) → SaysNothing names lines why → IsRefusedFor names bytes why
refused_wrong names lines bytes OutOfMemory e few text h = tt
refused_wrong names lines bytes TooMany e few text h = absurd h
refused_wrong names lines bytes (BadLine n) e few text h = (few, inr (text, subst (λ ls. IsFirst (IsWrong names) ls n) e h))

pub refused_on : {A : Type 0} (P : ScriptRefused → Type 0) (r : Result A ScriptRefused) (why : ScriptRefused) → IsErrAnd r (λ e. e ≡ why) → P why → IfErr r P
refused_on P (Ok x) why e h = tt
refused_on P (Err y) why e h = subst P (sym e) h

-- ---- as the code has them

pub shown_at : (lines : List (Bor (List ℕ))) (i : ℕ) (d : Bor (List ℕ)) → i < length lines → slice_get (shown lines) i ≡ Some (get_or lines i d).now
shown_at [] i d l = absurd (omega (arith, l))
shown_at (line ∷ lines) zero d l = refl
shown_at (line ∷ lines) (suc i) d l = shown_at lines i d (omega (arith, l))

pub length-shown : (lines : List (Bor (List ℕ))) → length (shown lines) ≡ length lines
length-shown [] = refl
length-shown (line ∷ lines) = ap suc (length-shown lines)

pub shown_more : (lines : List (Bor (List ℕ))) (line : Bor (List ℕ)) → shown (lines ++ line ∷ []) ≡ shown lines ++ line.now ∷ []
shown_more [] line = refl
shown_more (first ∷ lines) line = ap (λ l. first.now ∷ l) (shown_more lines line)

shown_take : (lines : List (Bor (List ℕ))) (n : ℕ) → shown (take n lines) ≡ take n (shown lines)
shown_take [] zero = refl
shown_take [] (suc n) = refl
shown_take (line ∷ lines) zero = refl
shown_take (line ∷ lines) (suc n) = ap (λ l. line.now ∷ l) (shown_take lines n)

-- the pieces between newlines, without the last where that is empty
pub lines_by : (pieces : List (Bor (List ℕ))) (bytes : List ℕ) → shown pieces ≡ slice_split (λ b. b == newline) bytes
    → (ends_in_nothing (shown pieces) ≡ true → shown (take (length pieces - 1) pieces) ≡ lines_of bytes) × (ends_in_nothing (shown pieces) ≡ false → shown pieces ≡ lines_of bytes)
lines_by pieces bytes is = (
  λ ends. shown_take pieces (length pieces - 1) ∙ ap (λ n. take (n - 1) (shown pieces)) (sym (length-shown pieces))
      ∙ sym (ap (λ b. if b then take (length (shown pieces) - 1) (shown pieces) else shown pieces) ends) ∙ ap lines_of_pieces is,
  λ ends. sym (ap (λ b. if b then take (length (shown pieces) - 1) (shown pieces) else shown pieces) ends) ∙ ap lines_of_pieces is,
)
