-- The numbers of names that are all different.
use Rattle.std.proofs.Common.{◌≡◌, ◌≢◌, ◌∙◌, ℕ, List, Bool, true, false, length, get_or, sym, refl, subst, arith}
use Rattle.std.proofs.lemmas.List.Elements.{Contains-get_or}
use Rattle.std.proofs.lemmas.List.Sums.{position_or_len_is}
use Rattle.std.proofs.lemmas.Option.{get_or_from_slice_get, slice_get_within}
use Rattle.std.proofs.lemmas.Slice.Eq.{bytes_eq-Decides}
use Rattle.std.specs.Prelude.{Some, slice_get}
use Rattle.std.specs.List.{AllPairs, Contains}
use Rattle.std.specs.Str.{bytes_eq}
use Rattle.tw_file_network.specs.Numbers.{number_of}

-- texts that are not the same do not compare as the same
other_text : (a b : List ℕ) → (a ≡ b → ⊥) → bytes_eq a b ≡ false
other_text a b apart = by (bytes_eq a b) refl
  where
    by : (same : Bool) → bytes_eq a b ≡ same → bytes_eq a b ≡ false
    by true is = absurd (apart ((bytes_eq-Decides a b).0 is))
    by false is = is

-- a name that stands at a place has that place as its number
pub number_at : (names : List (List ℕ)) (name : List ℕ) (place : ℕ) → AllPairs (λ a b. a ≢ b) names → slice_get names place ≡ Some name → number_of names name ≡ place
number_at names name place distinct at =
    let within = slice_get_within names place name at in
    let here = get_or_from_slice_get names place name name at in
    position_or_len_is (bytes_eq name) names place name (omega (arith, within))
    (λ k lt. other_text name (get_or names k name) (λ same. distinct k place name lt within (sym same ∙ sym here)))
    (λ _. (bytes_eq-Decides name (get_or names place name)).1 (sym here))

-- a name that does not stand there has the number after all others
pub no_number : (names : List (List ℕ)) (name : List ℕ) → (Contains names name → ⊥) → number_of names name ≡ length names
no_number names name absent =
    position_or_len_is (bytes_eq name) names (length names) name (omega arith)
    (λ k lt. other_text name (get_or names k name) (λ same. absent (subst (Contains names) (sym same) (Contains-get_or names k name lt))))
    (λ past. absurd (omega (arith, past)))
