-- A text is the script of at most one list of commands, and is refused for at most one reason; never both.
use Rattle.std.proofs.Common.{◌≡◌, ◌≢◌, ◌<◌, ⊎_elim, ◌++◌, ◌∷◌, [], ◌∙◌, ◌+◌, ◌*◌, ℕ, List, codes, decimal, drop, get_or, length, refl, sym, ap, ap₂, arith, true≢false, subst, inl, inr}
use Rattle.std.proofs.lemmas.Bool.{cases_order}
use Rattle.std.proofs.lemmas.Fmt.{decimal_injective}
use Rattle.std.proofs.lemmas.Option.{slice_get-get_or}
use Rattle.std.specs.List.{AllByRecursion as Each}
use Rattle.std.specs.Prelude.{IfSome, slice_get}
use Rattle.std.specs.Str.{IsUtf8}
use Rattle.tw_actions.specs.declared.action.Action.TheVariants.{Step, Post, Deliver, Back, Raise, Harvest}
use Rattle.tw_script.proofs.Cuts.{cut_once}
use Rattle.tw_script.proofs.Named.{names_free}
use Rattle.tw_script.proofs.Reading.{none_wrong}
use Rattle.tw_script.proofs.Saying.{two_operands}
use Rattle.tw_script.proofs.Stamped.{one_stamp}
use Rattle.tw_theory.proofs.Elements.{each-get}
use Rattle.tw_script.specs.OneScript.{AreNames, MeansOne}
use Rattle.tw_script.specs.Scripts.{AreSaid, nothing, skipped, said, IsBadLine, IsFirst, IsFirstNoText, IsRefusedFor, IsScript, IsWrong, Says, line_of, lines_of, name_of}
use Rattle.tw_script.specs.declared.command.Command.{Command}
use Rattle.tw_script.specs.declared.command.Command.TheVariants.{Act, Mark, Rewind, Show, Describe}
use Rattle.tw_script.specs.declared.refused.ScriptRefused.{ScriptRefused}
use Rattle.tw_script.specs.declared.refused.ScriptRefused.TheVariants.{OutOfMemory, TooMany, BadLine}
use Rattle.tw_vtime.specs.Stamps.{stamp_text}

-- ---- one command

-- the first, second and fifth letter of a line tell which command it is
abbrev letters : List ℕ → ℕ
letters line = get_or line 0 0 + 1000 * get_or line 1 0 + 1000000 * get_or line 4 0

module _ (names : List (List ℕ)) (are : AreNames names) where
  one_name : (p q : ℕ) → p < length names → q < length names → name_of names p ≡ name_of names q → p ≡ q
  one_name p q l m e =
      ⊎_elim (λ same. same)
      (λ apart. ⊎_elim (λ less. absurd (are.distinct p q [] less m e)) (λ more. absurd (are.distinct q p [] more l (sym e))) apart)
      (cases_order p q)

  -- a verb and a name
  one_operand : (n p q : ℕ) (verb : List ℕ) → drop n (verb ++ name_of names p) ≡ name_of names p → drop n (verb ++ name_of names q) ≡ name_of names q
      → p < length names → q < length names → verb ++ name_of names p ≡ verb ++ name_of names q → p ≡ q
  one_operand n p q verb at_p at_q l m e = one_name p q l m (sym at_p ∙ ap (drop n) e ∙ at_q)

  -- a verb, a name and another word
  two_words : (n p q : ℕ) (verb first second : List ℕ)
      → drop n (verb ++ (name_of names p ++ 32 ∷ first)) ≡ name_of names p ++ 32 ∷ first → drop n (verb ++ (name_of names q ++ 32 ∷ second)) ≡ name_of names q ++ 32 ∷ second
      → p < length names → q < length names → verb ++ name_of names p ++ codes " " ++ first ≡ verb ++ name_of names q ++ codes " " ++ second → (p ≡ q) × (first ≡ second)
  two_words n p q verb first second at_p at_q l m e =
      let rest = sym at_p ∙ ap (drop n) (two_operands verb (name_of names p) first ∙ e ∙ sym (two_operands verb (name_of names q) second)) ∙ at_q in
      let parts = cut_once 32 (name_of names p) first (name_of names q) second (names_free names are.flat p l) (names_free names are.flat q m) rest in
      (one_name p q l m parts.0, parts.1)

  same_line : (line : List ℕ) (a b : Command) → Says names a line → Says names b line → line_of names a ≡ line_of names b
  same_line line a b s t = sym s.is_line ∙ t.is_line

  otherwise : (line : List ℕ) (a b : Command) → Says names a line → Says names b line → (letters (line_of names a) ≡ letters (line_of names b) → ⊥) → a ≡ b
  otherwise line a b s t apart = absurd (apart (ap letters (same_line line a b s t)))

  one_command : (line : List ℕ) (a b : Command) → Says names a line → Says names b line → a ≡ b
  one_command line (Act (Step p)) (Act (Step q)) s t =
      ap (λ n. Act (Step n)) (one_operand 5 p q (codes "step ") refl refl s.fits t.fits (same_line line (Act (Step p)) (Act (Step q)) s t))
  one_command line (Act (Post p)) (Act (Post q)) s t =
      ap (λ n. Act (Post n)) (one_operand 5 p q (codes "post ") refl refl s.fits t.fits (same_line line (Act (Post p)) (Act (Post q)) s t))
  one_command line (Act (Harvest p)) (Act (Harvest q)) s t =
      ap (λ n. Act (Harvest n)) (one_operand 8 p q (codes "harvest ") refl refl s.fits t.fits (same_line line (Act (Harvest p)) (Act (Harvest q)) s t))
  one_command line (Describe p) (Describe q) s t =
      ap Describe (one_operand 5 p q (codes "show ") refl refl s.fits t.fits (same_line line (Describe p) (Describe q) s t))
  one_command line (Act (Deliver p i)) (Act (Deliver q j)) s t =
      let parts = two_words 8 p q (codes "deliver ") (decimal i) (decimal j) refl refl s.fits.0 t.fits.0 (same_line line (Act (Deliver p i)) (Act (Deliver q j)) s t) in
      ap₂ (λ n k. Act (Deliver n k)) parts.0 (let l = s.fits.1 in let m = t.fits.1 in decimal_injective i j (omega (arith, l)) (omega (arith, m)) parts.1)
  one_command line (Act (Back p u)) (Act (Back q v)) s t =
      let parts = two_words 5 p q (codes "back ") (stamp_text u) (stamp_text v) refl refl s.fits.0 t.fits.0 (same_line line (Act (Back p u)) (Act (Back q v)) s t) in
      ap₂ (λ n k. Act (Back n k)) parts.0 (one_stamp u v s.fits.1 t.fits.1 parts.1)
  one_command line (Act Raise) (Act Raise) s t = refl
  one_command line Mark Mark s t = refl
  one_command line Rewind Rewind s t = refl
  one_command line Show Show s t = refl
  -- all others begin otherwise; that they do is seen once an action is known
  one_command line Mark (Act (Step q)) s t = otherwise line Mark (Act (Step q)) s t (λ e. omega (arith, e))
  one_command line Rewind (Act (Step q)) s t = otherwise line Rewind (Act (Step q)) s t (λ e. omega (arith, e))
  one_command line Show (Act (Step q)) s t = otherwise line Show (Act (Step q)) s t (λ e. omega (arith, e))
  one_command line (Describe p) (Act (Step q)) s t = otherwise line (Describe p) (Act (Step q)) s t (λ e. omega (arith, e))
  one_command line a b s t = otherwise line a b s t (λ e. omega (arith, e))

  -- ---- one list of them

  one_list : (lines : List (List ℕ)) (some others : List Command) → AreSaid names lines some → AreSaid names lines others → some ≡ others
  one_list _ _ _ nothing nothing = refl
  one_list _ _ others (skipped line lines commands h t) (skipped _ _ _ g u) = one_list lines commands others t u
  one_list _ _ _ (skipped line lines commands h t) (said _ b _ cs g s u) = absurd (true≢false (sym h ∙ g))
  one_list _ _ _ (said line a lines commands h s t) (skipped _ _ _ g u) = absurd (true≢false (sym g ∙ h))
  one_list _ _ _ (said line a lines commands h s t) (said _ b _ cs g r u) = ap₂ (λ x xs. x ∷ xs) (one_command line a b s r) (one_list lines commands cs t u)

-- ---- one reason

bad_there : (Bad : List ℕ → Type 0) (lines : List (List ℕ)) (place : ℕ) → place < length lines → IfSome (slice_get lines place) Bad → Bad (get_or lines place [])
bad_there Bad lines place l bad = subst (λ o. IfSome o Bad) (slice_get-get_or lines place [] l) bad

one_first : (Bad : List ℕ → Type 0) (lines : List (List ℕ)) (a b : ℕ) → IsFirst Bad lines a → IsFirst Bad lines b → a ≡ b
one_first Bad lines a b x y =
    ⊎_elim (λ same. x.number_is ∙ ap (λ n. n + 1) same ∙ sym y.number_is)
    (λ apart. ⊎_elim
    (λ less. absurd (y.earlier x.place (get_or lines x.place []) less (slice_get-get_or lines x.place [] x.within) (bad_there Bad lines x.place x.within x.bad)))
    (λ more. absurd (x.earlier y.place (get_or lines y.place []) more (slice_get-get_or lines y.place [] y.within) (bad_there Bad lines y.place y.within y.bad)))
    apart)
    (cases_order x.place y.place)

-- where all lines are texts, none is the first that is no text
all_texts : (lines : List (List ℕ)) (number : ℕ) → Each IsUtf8 lines → IsFirstNoText lines number → ⊥
all_texts lines number texts x =
    bad_there (λ line. ¬ (IsUtf8 line)) lines x.place x.within x.bad (each-get IsUtf8 lines x.place (get_or lines x.place []) (slice_get-get_or lines x.place [] x.within) texts)

one_bad_line : (names lines : List (List ℕ)) (a b : ℕ) → IsBadLine names lines a → IsBadLine names lines b → a ≡ b
one_bad_line names lines a b (inl x) (inl y) = one_first (λ line. ¬ (IsUtf8 line)) lines a b x y
one_bad_line names lines a b (inl x) (inr y) = absurd (all_texts lines a y.0 x)
one_bad_line names lines a b (inr x) (inl y) = absurd (all_texts lines b x.0 y)
one_bad_line names lines a b (inr x) (inr y) = one_first (IsWrong names) lines a b x.1 y.1

one_refusal : (names : List (List ℕ)) (bytes : List ℕ) (why other : ScriptRefused) → IsRefusedFor names bytes why → IsRefusedFor names bytes other → why ≢ OutOfMemory → other ≢ OutOfMemory → why ≡ other
one_refusal names bytes OutOfMemory other h g n m = absurd (n refl)
one_refusal names bytes TooMany OutOfMemory h g n m = absurd (m refl)
one_refusal names bytes (BadLine a) OutOfMemory h g n m = absurd (m refl)
one_refusal names bytes TooMany TooMany h g n m = refl
one_refusal names bytes TooMany (BadLine b) h g n m = let few = g.0 in absurd (omega (arith, h, few))
one_refusal names bytes (BadLine a) TooMany h g n m = let few = h.0 in absurd (omega (arith, g, few))
one_refusal names bytes (BadLine a) (BadLine b) h g n m = ap BadLine (one_bad_line names (lines_of bytes) a b h.1 g.1)

no_bad_line : (names : List (List ℕ)) (bytes : List ℕ) (commands : List Command) (number : ℕ) → IsScript names bytes commands → IsBadLine names (lines_of bytes) number → ⊥
no_bad_line names bytes commands number is (inl x) = all_texts (lines_of bytes) number is.text x
no_bad_line names bytes commands number is (inr x) =
    let first = x.1 in
    none_wrong names (lines_of bytes) commands is.said first.place (get_or (lines_of bytes) first.place []) (slice_get-get_or (lines_of bytes) first.place [] first.within)
    (bad_there (IsWrong names) (lines_of bytes) first.place first.within first.bad)

no_refusal : (names : List (List ℕ)) (bytes : List ℕ) (commands : List Command) (why : ScriptRefused) → IsScript names bytes commands → IsRefusedFor names bytes why → why ≡ OutOfMemory
no_refusal names bytes commands OutOfMemory is h = refl
no_refusal names bytes commands TooMany is h = let few = is.few in absurd (omega (arith, h, few))
no_refusal names bytes commands (BadLine n) is h = absurd (no_bad_line names bytes commands n is h.1)

pub means_one : (names : List (List ℕ)) → AreNames names → MeansOne names
means_one names are = record {
  command = one_command names are;
  script = λ bytes some others h g. one_list names are (lines_of bytes) some others h.said g.said;
  refusal = one_refusal names;
  apart = no_refusal names;
}
