-- Numbers by name, counted from the last to the first.
use Rattle.std.proofs.Common.{◌≡◌, ◌∙◌, ◌<◌, ◌≤◌, ◌+◌, ◌-◌, ℕ, suc, List, ◌∷◌, map, Bool, true, false, not, cond, length, drop, get_or, sym, ap, refl, arith, drop-cons, true≢false}
use Rattle.std.proofs.lemmas.Map.Text.{hash_map_updates_str}
use Rattle.std.proofs.lemmas.Slice.Eq.{bytes_eq-Decides}
use Rattle.std.specs.Prelude.{Option, Some, unwrap_or}
use Rattle.std.specs.Str.{bytes_eq}
use Rattle.std.specs.HashMap.{HashMap, get_by, UpdatesBy}
use Rattle.tw_file_network.specs.Numbers.{number_of}
use denote.Ref.{Bor}

-- bytes are compared alike both ways
same_text : (a b : List ℕ) → bytes_eq a b ≡ bytes_eq b a
same_text a b = by (bytes_eq a b) refl (bytes_eq b a) refl
  where
    by : (s : Bool) → bytes_eq a b ≡ s → (t : Bool) → bytes_eq b a ≡ t → bytes_eq a b ≡ bytes_eq b a
    by true x true y = x ∙ sym y
    by false x false y = x ∙ sym y
    by true x false y = absurd (true≢false (sym ((bytes_eq-Decides b a).1 (sym ((bytes_eq-Decides a b).0 x))) ∙ y))
    by false x true y = absurd (true≢false (sym ((bytes_eq-Decides a b).1 (sym ((bytes_eq-Decides b a).0 y))) ∙ x))

-- the number of a name among one more name and the rest
one_more : (i : ℕ) (name first : List ℕ) (rest : List (List ℕ))
    → i + number_of (first ∷ rest) name ≡ cond (bytes_eq first name) i (suc i + number_of rest name)
one_more i name first rest =
    rw (same_text first name) (elim (bytes_eq name first) as (λ b. i + cond (not b) (1 + number_of rest name) 0 ≡ cond b i (suc i + number_of rest name)) [ true ↦ omega arith | false ↦ omega arith ])

-- a number that is there takes the place of the other
chosen : (b : Bool) (i n : ℕ) (o : Option ℕ) → unwrap_or (cond b (Some i) o) n ≡ cond b i (unwrap_or o n)
chosen true i n o = refl
chosen false i n o = refl

-- the names that are lent
abbrev texts : List (Bor (List ℕ)) → List (List ℕ)
texts names = map (λ n. n.now) names

module _ {S : Type 0} (names : List (Bor (List ℕ))) (old new : HashMap (Bor (List ℕ)) ℕ S) (name : List ℕ) where
  -- the name at i is counted after those from i + 1 on
  at_last : (i : ℕ) (c : Bor (List ℕ)) → i < length names
      → UpdatesBy (λ x y. bytes_eq x.now y.now) (λ k. bytes_eq (get_or names i c).now k.now) old new (Some i)
      → unwrap_or (get_by (λ k. bytes_eq name k.now) old) (length names) ≡ suc i + number_of (texts (drop (suc i) names)) name
      → unwrap_or (get_by (λ k. bytes_eq name k.now) new) (length names) ≡ i + number_of (texts (drop i names)) name
  at_last i c within updates before =
      let first = (get_or names i c).now in
      ap (λ o. unwrap_or o (length names)) (hash_map_updates_str first old new (Some i) updates name)
      ∙ chosen (bytes_eq first name) i (length names) (get_by (λ k. bytes_eq name k.now) old)
      ∙ ap (λ n. cond (bytes_eq first name) i n) before
      ∙ sym (one_more i name first (texts (drop (suc i) names)))
      ∙ ap (λ cs. i + number_of (texts cs) name) (sym (drop-cons names i c within))

  -- the name before those that are counted is counted
  pub counted_more : (j : ℕ) (c : Bor (List ℕ)) → 0 < j → j ≤ length names
      → UpdatesBy (λ x y. bytes_eq x.now y.now) (λ k. bytes_eq (get_or names (j - 1) c).now k.now) old new (Some (j - 1))
      → unwrap_or (get_by (λ k. bytes_eq name k.now) old) (length names) ≡ j + number_of (texts (drop j names)) name
      → unwrap_or (get_by (λ k. bytes_eq name k.now) new) (length names) ≡ j - 1 + number_of (texts (drop (j - 1) names)) name
  counted_more j c some within updates before =
      let next : j ≡ suc (j - 1) = omega (arith, some) in
      at_last (j - 1) c (omega (arith, some, within)) updates
      (before ∙ ap (λ n. n + number_of (texts (drop n names)) name) next)
