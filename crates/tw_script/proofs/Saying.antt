-- Which commands a line can be the line of, by its first word and what follows it.
use Rattle.std.proofs.Common.{◌≡◌, ◌<◌, ◌≤◌, ◌++◌, ◌∷◌, [], ◌∙◌, ℕ, List, arith, codes, decimal, get_or, length, sym, ap, ap₂, true, true≢false, refl, append_assoc, not, eqb}
use Rattle.std.specs.Prelude.{Some, slice_get}
use Rattle.std.specs.List.{list_all, Contains}
use Rattle.std.proofs.lemmas.Bool.{eq-eqb}
use Rattle.std.proofs.lemmas.List.Sums.{AllPass-from_list_all}
use Rattle.std.proofs.lemmas.Option.{get_or_from_slice_get, slice_get-get_or, slice_get_within}
use Rattle.tw_actions.specs.declared.action.Action.TheVariants.{Step, Post, Deliver, Back, Raise, Harvest}
use Rattle.tw_script.proofs.Cuts.{cut_once, no_cut}
use Rattle.tw_script.specs.Scripts.{Says, line_of, name_of}
use Rattle.tw_script.specs.Words.{IsFree}
use Rattle.tw_script.specs.declared.command.Command.{Command}
use Rattle.tw_script.specs.declared.command.Command.TheVariants.{Act, Mark, Rewind, Show, Describe}
use Rattle.tw_vtime.specs.Stamps.{IsStamp, stamp_text}

free_by : (c : ℕ) (word : List ℕ) → list_all (λ b. not (eqb b c)) word ≡ true → IsFree c word
free_by c word h i l e = true≢false (sym (AllPass-from_list_all (λ b. not (eqb b c)) word h i 0 l) ∙ ap (λ b. not (eqb b c)) e ∙ ap not (eq-eqb c c refl))

-- a line of one word, that is none of these four
pub no_word : (names : List (List ℕ)) (word : List ℕ) → IsFree 32 word
    → (word ≡ codes "raise" → ⊥) → (word ≡ codes "mark" → ⊥) → (word ≡ codes "rewind" → ⊥) → (word ≡ codes "show" → ⊥)
    → (command : Command) → Says names command word → ⊥
no_word names word f raise mark rewind show (Act (Step p)) s = no_cut 32 (codes "step") _ word s.is_line f
no_word names word f raise mark rewind show (Act (Post p)) s = no_cut 32 (codes "post") _ word s.is_line f
no_word names word f raise mark rewind show (Act (Deliver q i)) s = no_cut 32 (codes "deliver") _ word s.is_line f
no_word names word f raise mark rewind show (Act (Back p at)) s = no_cut 32 (codes "back") _ word s.is_line f
no_word names word f raise mark rewind show (Act Raise) s = raise s.is_line
no_word names word f raise mark rewind show (Act (Harvest p)) s = no_cut 32 (codes "harvest") _ word s.is_line f
no_word names word f raise mark rewind show Mark s = mark s.is_line
no_word names word f raise mark rewind show Rewind s = rewind s.is_line
no_word names word f raise mark rewind show Show s = show s.is_line
no_word names word f raise mark rewind show (Describe p) s = no_cut 32 (codes "show") _ word s.is_line f

first_is : (us vs verb operands : List ℕ) → list_all (λ b. not (eqb b 32)) us ≡ true → IsFree 32 verb → verb ++ 32 ∷ operands ≡ us ++ 32 ∷ vs → (verb ≡ us) × (operands ≡ vs)
first_is us vs verb operands h f e = cut_once 32 verb operands us vs f (free_by 32 us h) e

alone : (us verb operands : List ℕ) → list_all (λ b. not (eqb b 32)) us ≡ true → verb ++ 32 ∷ operands ≡ us → ⊥
alone us verb operands h e = no_cut 32 verb operands us (sym e) (free_by 32 us h)

-- a line of more words, whose first is none of these six
pub no_verb : (names : List (List ℕ)) (verb operands : List ℕ) → IsFree 32 verb
    → (verb ≡ codes "step" → ⊥) → (verb ≡ codes "post" → ⊥) → (verb ≡ codes "harvest" → ⊥) → (verb ≡ codes "show" → ⊥) → (verb ≡ codes "deliver" → ⊥) → (verb ≡ codes "back" → ⊥)
    → (command : Command) → Says names command (verb ++ 32 ∷ operands) → ⊥
no_verb names verb operands f step post harvest show deliver back (Act (Step p)) s = step (first_is (codes "step") _ verb operands refl f s.is_line).0
no_verb names verb operands f step post harvest show deliver back (Act (Post p)) s = post (first_is (codes "post") _ verb operands refl f s.is_line).0
no_verb names verb operands f step post harvest show deliver back (Act (Deliver q i)) s = deliver (first_is (codes "deliver") _ verb operands refl f s.is_line).0
no_verb names verb operands f step post harvest show deliver back (Act (Back p at)) s = back (first_is (codes "back") _ verb operands refl f s.is_line).0
no_verb names verb operands f step post harvest show deliver back (Act Raise) s = alone (codes "raise") verb operands refl s.is_line
no_verb names verb operands f step post harvest show deliver back (Act (Harvest p)) s = harvest (first_is (codes "harvest") _ verb operands refl f s.is_line).0
no_verb names verb operands f step post harvest show deliver back Mark s = alone (codes "mark") verb operands refl s.is_line
no_verb names verb operands f step post harvest show deliver back Rewind s = alone (codes "rewind") verb operands refl s.is_line
no_verb names verb operands f step post harvest show deliver back Show s = alone (codes "show") verb operands refl s.is_line
no_verb names verb operands f step post harvest show deliver back (Describe p) s = show (first_is (codes "show") _ verb operands refl f s.is_line).0

pub is_named : (names : List (List ℕ)) (q : ℕ) (name : List ℕ) → q < length names → name ≡ name_of names q → Contains names name
is_named names q name l e = (q, l, get_or_from_slice_get names q (name_of names q) name (slice_get-get_or names q [] l) ∙ sym e)

-- nor of a name that no component has, unless its first word is one of these two
pub no_component : (names : List (List ℕ)) (verb operands : List ℕ) → IsFree 32 verb → (verb ≡ codes "deliver" → ⊥) → (verb ≡ codes "back" → ⊥)
    → (Contains names operands → ⊥) → (command : Command) → Says names command (verb ++ 32 ∷ operands) → ⊥
no_component names verb operands f deliver back missing (Act (Step p)) s = missing (is_named names p operands s.fits (first_is (codes "step") _ verb operands refl f s.is_line).1)
no_component names verb operands f deliver back missing (Act (Post p)) s = missing (is_named names p operands s.fits (first_is (codes "post") _ verb operands refl f s.is_line).1)
no_component names verb operands f deliver back missing (Act (Deliver q i)) s = deliver (first_is (codes "deliver") _ verb operands refl f s.is_line).0
no_component names verb operands f deliver back missing (Act (Back p at)) s = back (first_is (codes "back") _ verb operands refl f s.is_line).0
no_component names verb operands f deliver back missing (Act Raise) s = alone (codes "raise") verb operands refl s.is_line
no_component names verb operands f deliver back missing (Act (Harvest p)) s = missing (is_named names p operands s.fits (first_is (codes "harvest") _ verb operands refl f s.is_line).1)
no_component names verb operands f deliver back missing Mark s = alone (codes "mark") verb operands refl s.is_line
no_component names verb operands f deliver back missing Rewind s = alone (codes "rewind") verb operands refl s.is_line
no_component names verb operands f deliver back missing Show s = alone (codes "show") verb operands refl s.is_line
no_component names verb operands f deliver back missing (Describe p) s = missing (is_named names p operands s.fits (first_is (codes "show") _ verb operands refl f s.is_line).1)

-- the first of two operands, and the second
pub operands_are : (names : List (List ℕ)) (q : ℕ) (first second last : List ℕ) → IsFree 32 first → IsFree 32 (name_of names q) → first ++ 32 ∷ second ≡ name_of names q ++ 32 ∷ last → (first ≡ name_of names q) × (second ≡ last)
operands_are names q first second last f g e = cut_once 32 first second (name_of names q) last f g e

pub named : (names : List (List ℕ)) (q : ℕ) (name : List ℕ) → slice_get names q ≡ Some name → (q < length names) × (name ≡ name_of names q)
named names q name h = (slice_get_within names q name h, sym (get_or_from_slice_get names q name [] h))

-- the line of a verb and the name of a component
pub one_said : (names : List (List ℕ)) (p : ℕ) (us verb operands : List ℕ) → verb ≡ us → slice_get names p ≡ Some operands → (p < length names) × (verb ++ 32 ∷ operands ≡ us ++ 32 ∷ name_of names p)
one_said names p us verb operands e h = ((named names p operands h).0, ap₂ (λ v o. v ++ 32 ∷ o) e (named names p operands h).1)

pub two_operands : (verb first second : List ℕ) → verb ++ (first ++ 32 ∷ second) ≡ verb ++ first ++ codes " " ++ second
two_operands verb first second =
    ap (λ l. verb ++ l) (sym (append_assoc first (codes " ") second)) ∙ sym (append_assoc verb (first ++ codes " ") second) ∙ ap (λ l. l ++ second) (sym (append_assoc verb first (codes " ")))

pub delivery_said : (names : List (List ℕ)) (q i : ℕ) (operands receiver place : List ℕ) → operands ≡ receiver ++ 32 ∷ place → slice_get names q ≡ Some receiver → place ≡ decimal i → i ≤ 18446744073709551615
    → Says names (Act (Deliver q i)) (codes "deliver " ++ operands)
delivery_said names q i operands receiver place e h number small = record {
  fits = ((named names q receiver h).0, small);
  is_line = ap (λ l. codes "deliver " ++ l) (e ∙ (λ k. (named names q receiver h).1 k ++ 32 ∷ number k)) ∙ two_operands (codes "deliver ") (name_of names q) (decimal i);
}

pub rollback_said : (names : List (List ℕ)) (p s : ℕ) (operands component at : List ℕ) → operands ≡ component ++ 32 ∷ at → slice_get names p ≡ Some component → at ≡ stamp_text s → IsStamp s
    → Says names (Act (Back p s)) (codes "back " ++ operands)
rollback_said names p s operands component at e h text is = record {
  fits = ((named names p component h).0, is);
  is_line = ap (λ l. codes "back " ++ l) (e ∙ (λ k. (named names p component h).1 k ++ 32 ∷ text k)) ∙ two_operands (codes "back ") (name_of names p) (stamp_text s);
}

first_letters : (us verb operands line : List ℕ) → verb ≡ us → verb ++ 32 ∷ operands ≡ line → get_or (us ++ 32 ∷ operands) 0 0 ≡ get_or line 0 0
first_letters us verb operands line h e = ap (λ v. get_or (v ++ 32 ∷ operands) 0 0) (sym h) ∙ ap (λ l. get_or l 0 0) e

-- a line that begins with this verb says no command where its operands are no receiver and place
pub no_delivery : (names : List (List ℕ)) (verb operands : List ℕ) → IsFree 32 verb → verb ≡ codes "deliver"
    → ((q i : ℕ) → q < length names → i ≤ 18446744073709551615 → operands ≡ name_of names q ++ 32 ∷ decimal i → ⊥) → (command : Command) → Says names command (verb ++ 32 ∷ operands) → ⊥
no_delivery names verb operands f is none (Act (Deliver q i)) s =
    none q i s.fits.0 s.fits.1 ((first_is (codes "deliver") _ verb operands refl f s.is_line).1 ∙ append_assoc (name_of names q) (codes " ") (decimal i))
no_delivery names verb operands f is none command s = omega (arith, first_letters (codes "deliver") verb operands (line_of names command) is s.is_line)

-- nor with this one where they are no component and stamp
pub no_rollback : (names : List (List ℕ)) (verb operands : List ℕ) → IsFree 32 verb → verb ≡ codes "back"
    → ((p s : ℕ) → p < length names → IsStamp s → operands ≡ name_of names p ++ 32 ∷ stamp_text s → ⊥) → (command : Command) → Says names command (verb ++ 32 ∷ operands) → ⊥
no_rollback names verb operands f is none (Act (Back p at)) s =
    none p at s.fits.0 s.fits.1 ((first_is (codes "back") _ verb operands refl f s.is_line).1 ∙ append_assoc (name_of names p) (codes " ") (stamp_text at))
no_rollback names verb operands f is none command s = omega (arith, first_letters (codes "back") verb operands (line_of names command) is s.is_line)
