-- Texts with a separator between each two, written one after another.
use Rattle.std.proofs.Common.{◌≡◌, ◌∙◌, ◌++◌, ◌+◌, ◌<◌, ◌≤◌, ◌∷◌, ℕ, List, sym, ap, append_assoc, append-nil, drop, get_or, length}
use Rattle.std.specs.Prelude.{flat_map}
use Rattle.std.specs.List.{join_by}
use Rattle.std.proofs.lemmas.List.{drop_more, drop_all}

module _ {X : Type 0} (text : X → List ℕ) (between : List ℕ) where
  -- the first is written, and the others are still to come
  pub first_written : (before now : List ℕ) (all : List X) (x : X) (xs : List X) → all ≡ x ∷ xs → now ≡ before ++ text x
      → now ++ flat_map (λ y. between ++ text y) xs ≡ before ++ join_by text between all
  first_written before now all x xs are is =
      ap (λ l. l ++ flat_map (λ y. between ++ text y) xs) is ∙ append_assoc before (text x) (flat_map (λ y. between ++ text y) xs)
      ∙ ap (λ l. before ++ join_by text between l) (sym are)

  -- one more is written
  pub one_written : (now then after whole : List ℕ) (xs : List X) (i : ℕ) (d : X) → i < length xs → then ≡ now ++ between → after ≡ then ++ text (get_or xs i d)
      → now ++ flat_map (λ y. between ++ text y) (drop i xs) ≡ whole → after ++ flat_map (λ y. between ++ text y) (drop (i + 1) xs) ≡ whole
  one_written now then after whole xs i d within is_then is_after so_far =
      let x = get_or xs i d in
      let rest = flat_map (λ y. between ++ text y) (drop (i + 1) xs) in
      ap (λ l. l ++ rest) (is_after ∙ ap (λ l. l ++ text x) is_then ∙ append_assoc now between (text x))
      ∙ append_assoc now (between ++ text x) rest
      ∙ ap (λ l. now ++ flat_map (λ y. between ++ text y) l) (sym (drop_more xs i d within)) ∙ so_far

  -- all are written
  pub all_written : (now whole : List ℕ) (xs : List X) (i : ℕ) → length xs ≤ i → now ++ flat_map (λ y. between ++ text y) (drop i xs) ≡ whole → now ≡ whole
  all_written now whole xs i past so_far =
      sym (append-nil now) ∙ ap (λ l. now ++ flat_map (λ y. between ++ text y) l) (sym (drop_all i xs past)) ∙ so_far

  -- of what is written from its end, one more stands before
  pub one_before : (now then after rest : List ℕ) (xs : List X) (i : ℕ) (d : X) → i < length xs → then ≡ text (get_or xs i d) ++ now → after ≡ between ++ then
      → now ≡ flat_map (λ y. between ++ text y) (drop (i + 1) xs) ++ rest → after ≡ flat_map (λ y. between ++ text y) (drop i xs) ++ rest
  one_before now then after rest xs i d within is_then is_after so_far =
      let x = get_or xs i d in
      let more = flat_map (λ y. between ++ text y) (drop (i + 1) xs) in
      is_after ∙ ap (λ l. between ++ l) (is_then ∙ ap (λ l. text x ++ l) so_far) ∙ sym (append_assoc between (text x) (more ++ rest))
      ∙ sym (append_assoc (between ++ text x) more rest)
      ∙ ap (λ l. flat_map (λ y. between ++ text y) l ++ rest) (sym (drop_more xs i d within))

  -- at last the first stands before the others
  pub first_before : (now whole rest : List ℕ) (all : List X) (x : X) (xs : List X) (i : ℕ) → all ≡ x ∷ xs → i ≡ 0 → whole ≡ text x ++ now
      → now ≡ flat_map (λ y. between ++ text y) (drop i xs) ++ rest → whole ≡ join_by text between all ++ rest
  first_before now whole rest all x xs i are none is so_far =
      is ∙ ap (λ l. text x ++ l) (so_far ∙ ap (λ n. flat_map (λ y. between ++ text y) (drop n xs) ++ rest) none)
      ∙ sym (append_assoc (text x) (flat_map (λ y. between ++ text y) xs) rest) ∙ ap (λ l. join_by text between l ++ rest) (sym are)
