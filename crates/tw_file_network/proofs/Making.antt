-- Making a list one by one, until the first fault.
use Rattle.std.proofs.Common.{◌≡◌, ◌++◌, ◌∷◌, [], ◌+◌, ◌<◌, ℕ, suc, List, map, refl, length, drop, get_or, append_assoc, add-one, drop-cons}
use Rattle.std.specs.Prelude.{Result, Ok, Err}
use Rattle.tw_file_network.specs.Components.{after, all_made}

-- what the items from i on make, after what was made before
abbrev pub rest_made : {A B C E : Type 0} → (B → Result C E) → (A → B) → List A → List C → ℕ → Result (List C) E
rest_made make seen xs done i = after (λ rest. Ok (done ++ rest)) (all_made make (map seen (drop i xs)))

module _ {A B C E : Type 0} (make : B → Result C E) (seen : A → B) where
  -- one thing more at the end
  regroup : (done : List C) (c : C) (r : Result (List C) E)
      → after (λ rest. Ok (done ++ rest)) (after (λ rest. Ok (c ∷ rest)) r) ≡ after (λ rest. Ok ((done ++ c ∷ []) ++ rest)) r
  regroup done c (Err e) = refl
  regroup done c (Ok xs) = rw append_assoc refl

  -- one item more
  pub made_more : (xs : List A) (done : List C) (i : ℕ) (x : A) (c : C)
      → i < length xs → make (seen (get_or xs i x)) ≡ Ok c → rest_made make seen xs done i ≡ rest_made make seen xs (done ++ c ∷ []) (i + 1)
  made_more xs done i x c h is = rw (add-one, drop-cons xs i x, is) (regroup done c (all_made make (map seen (drop (suc i) xs))))
