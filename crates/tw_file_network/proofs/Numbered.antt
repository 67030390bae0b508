-- What is made of what a list shows, one by one.
use Rattle.std.proofs.Common.{◌≡◌, ◌∙◌, ◌+◌, ◌<◌, ◌≤◌, ◌++◌, ◌∷◌, [], ℕ, List, ap, sym, length, map, take, get_or}
use Rattle.std.proofs.lemmas.List.{map-append, take_all, take_more}

module _ {A B C : Type 0} (view : A → B) (made : B → C) (xs : List A) (i : ℕ) (done : List C) (so_far : done ≡ map made (map view (take i xs))) where
  pub made_one_more : (x : A) (y : C) → i < length xs → y ≡ made (view (get_or xs i x)) → done ++ y ∷ [] ≡ map made (map view (take (i + 1) xs))
  made_one_more x y lt one =
      (λ j. so_far j ++ one j ∷ [])
      ∙ sym (ap (map made) (map-append view (take i xs) (get_or xs i x ∷ [])) ∙ map-append made (map view (take i xs)) (view (get_or xs i x) ∷ []))
      ∙ ap (λ l. map made (map view l)) (sym (take_more xs i x lt))

  pub all_made : length xs ≤ i → done ≡ map made (map view xs)
  all_made le = so_far ∙ ap (λ l. map made (map view l)) (take_all i xs le)
