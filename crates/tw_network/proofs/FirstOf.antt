-- The first fault of a list, found thing by thing.
use Rattle.std.proofs.Common.{◌≡◌, ℕ, ◌+◌, ◌<◌, ◌≤◌, List, [], ◌∷◌, ◌++◌, length, take, drop, drop-cons, get_or, suc, sym, ap, ◌∙◌, arith, Option, None, Some}
use Rattle.std.specs.Option.{option_or}
use Rattle.std.proofs.lemmas.List.{at_drop_all, take_more}
use Rattle.tw_network.specs.Faults.{first_of}
use Rattle.tw_network.specs.declared.refused.NetworkRefused.{NetworkRefused}

module _ {A : Type 0} (fault : List A → A → Option NetworkRefused) (xs : List A) (i : ℕ) where
  module _ (d : A) (lt : i < length xs) (seen : List A) (is : seen ≡ take i xs) where
    -- it is that of the thing that comes next, or else of those after it
    at_next : first_of fault (take i xs) (drop i xs) ≡ option_or (fault seen (get_or xs i d)) (first_of fault (take (i + 1) xs) (drop (i + 1) xs))
    at_next =
        let next : suc i ≡ i + 1 = omega arith in
        ap (first_of fault (take i xs)) (drop-cons xs i d lt)
        ∙ (λ j. option_or (fault (sym is j) (get_or xs i d)) (first_of fault (sym (take_more xs i d lt) j) (drop (next j) xs)))

    -- where the next thing has none, it is that of those after it
    pub next_none : first_of fault [] xs ≡ first_of fault (take i xs) (drop i xs) → fault seen (get_or xs i d) ≡ None → first_of fault [] xs ≡ first_of fault (take (i + 1) xs) (drop (i + 1) xs)
    next_none so_far none = so_far ∙ at_next ∙ ap (λ o. option_or o (first_of fault (take (i + 1) xs) (drop (i + 1) xs))) none

    pub next_some : (f : NetworkRefused) → first_of fault [] xs ≡ first_of fault (take i xs) (drop i xs) → fault seen (get_or xs i d) ≡ Some f → first_of fault [] xs ≡ Some f
    next_some f so_far some = so_far ∙ at_next ∙ ap (λ o. option_or o (first_of fault (take (i + 1) xs) (drop (i + 1) xs))) some

    pub next_seen : seen ++ get_or xs i d ∷ [] ≡ take (i + 1) xs
    next_seen = ap (λ s. s ++ get_or xs i d ∷ []) is ∙ sym (take_more xs i d lt)

  -- where no thing is left, there is none
  pub all_none : length xs ≤ i → first_of fault [] xs ≡ first_of fault (take i xs) (drop i xs) → first_of fault [] xs ≡ None
  all_none le so_far = so_far ∙ at_drop_all (λ (ys : List A). first_of fault (take i xs) ys) xs i le
