-- The times of a tournament, as they lie behind its winners.
use Rattle.std.proofs.Common.{◌≡◌, ◌⊎◌, ◌≤◌, ◌<◌, ◌+◌, ◌-◌, ℕ, zero, suc, ◌∷◌, ◌++◌, [], append-nil, set, min, List, Some, slice_get, length, get_or, take, drop, refl, sym, ap, ◌∙◌, inl, inr, arith}
use Rattle.std.proofs.lemmas.Bool.{cases_lt}
use Rattle.std.proofs.lemmas.List.{places, drop-set-add, take_at, take-take, drop-take, take-append-drop}
use Rattle.tw_tournament.specs.Times.{numbers_at, IsFirst}
use Rattle.tw_tournament.proofs.Numbers.{numbers_append, numbers_none}
use Rattle.std.proofs.lemmas.Option.{slice_get_within, slice_get-get_or, get_or_from_slice_get}
use Rattle.tw_tournament.specs.Winners.{at, IsPlayed, IsWon}
use Rattle.tw_tournament.proofs.Winning.{power_some, all_after, first_of_all, is_of_row}
use Rattle.tw_vtime.specs.Stamps.{never}

pub time_at : (ws : List ℕ) (row count c s : ℕ) → slice_get (take count (drop row ws)) c ≡ Some s → (c < count) × (row + c < length ws) × (at ws (row + c) ≡ s)
time_at ws row count c s is =
    let ts = take count (drop row ws) in
    let near : c < length ts = slice_get_within ts c s is in
    let read : get_or ts c never ≡ s = get_or_from_slice_get ts c s never is in
    let long : length ts ≡ min count (length ws - row) = grind (arith, places) in
    let same : at ws (row + c) ≡ get_or ts c never = grind (arith, places) in
    (omega arith, omega arith, same ∙ read)

pub at_time : (ws : List ℕ) (row count c : ℕ) → c < count → row + c < length ws → slice_get (take count (drop row ws)) c ≡ Some (at ws (row + c))
at_time ws row count c near within =
    let ts = take count (drop row ws) in
    let long : length ts ≡ min count (length ws - row) = grind (arith, places) in
    let same : get_or ts c never ≡ at ws (row + c) = grind (arith, places) in
    slice_get-get_or ts c never (omega arith) ∙ ap Some same

module _ (ws : List ℕ) (row count : ℕ) (played : IsPlayed ws row count) where
  some_row : 1 ≤ row
  some_row = let some = power_some played.length_is_power.0 in let is = played.length_is_power.1 in omega arith

  pub has_top : 1 < length ws
  has_top = let some = some_row in let size = played.size in omega arith

  -- the winner of all is not after any time
  pub top_first : (c s : ℕ) → slice_get (take count (drop row ws)) c ≡ Some s → at ws 1 ≤ s
  top_first c s is =
      let there = time_at ws row count c s is in
      let size = played.size in
      let first = first_of_all ws row played.won played.length_is_power (row + c) (omega arith) (omega (arith, there.1)) in
      let same = there.2 in omega arith

  by_place : (q : ℕ) → row ≤ q → q < row + row → at ws 1 ≡ at ws q → (q < row + count) ⊎ (row + count ≤ q)
      → (at ws 1 ≡ never) ⊎ ((c : ℕ) × (slice_get (take count (drop row ws)) c ≡ Some (at ws 1)))
  by_place q leaf within is (inl near) =
      let size = played.size in
      let same : row + (q - row) ≡ q = omega arith in
      inr (q - row, at_time ws row count (q - row) (omega arith) (omega arith) ∙ ap Some (ap (at ws) same ∙ sym is))
  by_place q leaf within is (inr past) = inl (is ∙ played.ends q past within)

  -- it is one of the times, or the end
  pub top_there : (at ws 1 ≡ never) ⊎ ((c : ℕ) × (slice_get (take count (drop row ws)) c ≡ Some (at ws 1)))
  top_there =
      let some = some_row in
      let found = is_of_row ws row played.won (row + row) 1 (omega arith) (omega arith) (omega arith) in
      by_place found.0 found.1 found.2 found.3 (cases_lt found.0 (row + count))

  leaf_after : (t : ℕ) → ((c s : ℕ) → slice_get (take count (drop row ws)) c ≡ Some s → t ≤ s) → t < never → (q : ℕ) → row ≤ q → q < row + row
      → (q < row + count) ⊎ (row + count ≤ q) → t ≤ at ws q
  leaf_after t first before q leaf within (inl near) =
      let size = played.size in
      let same : row + (q - row) ≡ q = omega arith in
      let level = ap (at ws) same in
      let after = first (q - row) (at ws (row + (q - row))) (at_time ws row count (q - row) (omega arith) (omega arith)) in
      omega arith
  leaf_after t first before q leaf within (inr past) = let end = played.ends q past within in omega arith

  -- where no time is before this one, no winner is
  pub none_before : (t : ℕ) → ((c s : ℕ) → slice_get (take count (drop row ws)) c ≡ Some s → t ≤ s) → t < never → (p : ℕ) → 1 ≤ p → p < row + row → t ≤ at ws p
  none_before t first before p some within =
      all_after ws row played.won t (λ q leaf near. leaf_after t first before q leaf near (cases_lt q (row + count))) (row + row) p (omega arith) some within

  -- behind the times there is none at a time before the end
  pub all_numbers : (t : ℕ) → t < never → numbers_at t 0 (take row (drop (row + 0) ws)) ≡ numbers_at t 0 (take count (drop row ws))
  all_numbers t before =
      let xs = drop row ws in
      let m = row - count in
      let size = played.size in
      let enough = played.enough in
      let start : row + 0 ≡ row = omega arith in
      let parts : count + m ≡ row = omega arith in
      let shorter : count ≤ count + m = omega arith in
      let rest = take m (drop count xs) in
      let split : take row xs ≡ take count xs ++ rest =
      ap (λ n. take n xs) (sym parts) ∙ sym (take-append-drop count (take (count + m) xs))
      ∙ ap (λ l. l ++ drop count (take (count + m) xs)) (take-take count (count + m) xs shorter)
      ∙ ap (λ l. take count xs ++ l) (drop-take count m xs) in
      let none : numbers_at t (0 + length (take count xs)) rest ≡ [] =
      numbers_none t (0 + length (take count xs)) rest
      (λ i near same.
      let there : get_or rest i t ≡ at ws (row + count + i) = grind (arith, places) in
      let bound : row + count + i < row + row = grind (arith, places) in
      let end = played.ends (row + count + i) (omega arith) bound in
      omega arith) in
      ap (λ n. numbers_at t 0 (take row (drop n ws))) start
      ∙ ap (numbers_at t 0) split
      ∙ numbers_append t 0 (take count xs) rest
      ∙ ap (λ l. numbers_at t 0 (take count xs) ++ l) none
      ∙ append-nil (numbers_at t 0 (take count xs))

  by_order : (t n d s : ℕ) → t ≤ s → (d < n → t < s) → (d < n) ⊎ (n ≤ d) → (t < s) ⊎ ((t ≡ s) × (n ≤ d))
  by_order t n d s from earlier (inl before) = inl (earlier before)
  by_order t n d s from earlier (inr behind) = elim (cases_lt t s) [
    | inl less ↦ inl less
    | inr more ↦ inr (omega arith, behind)
  ]

  -- the least place of the row that is at the time of the winner of all is that of a time, where it is before the end
  pub is_first : (t n : ℕ) → at ws 1 ≡ t → t < never → n < row → at ws (row + n) ≡ t → ((i : ℕ) → i < n → t < at ws (row + i)) → IsFirst (take count (drop row ws)) t n
  is_first t n top before within there earlier =
      let size = played.size in
      let near : n < count = elim (cases_lt n count) [
        | inl less ↦ less
        | inr past ↦ let end = played.ends (row + n) (omega arith) (omega arith) in absurd (omega arith)
      ] in
      record {
        at = at_time ws row count n near (omega arith) ∙ ap Some there;
        before_end = before;
        least = λ d s is.
            let its = time_at ws row count d s is in
            let same = its.2 in
            by_order t n d s (let first = top_first d s is in omega arith) (λ less. let later = earlier d less in omega arith) (cases_lt d n);
      }

-- ## A time that has changed

pub whole : (ws new : List ℕ) (len : ℕ) → len ≡ length ws → length new ≡ length ws → take len (new ++ drop (length new) ws) ≡ new
whole ws new len is same = take_at new (drop (length new) ws) len (same ∙ sym is)

pub played_on : (ws new : List ℕ) (row count number time : ℕ) → IsPlayed ws row count → number < count → length new ≡ length ws → IsWon new row
    → drop row new ≡ drop row (set ws (row + number) time) → IsPlayed new row count
played_on ws new row count number time played near same won dropped = record {
  size = same ∙ played.size;
  length_is_power = played.length_is_power;
  enough = played.enough;
  bound = played.bound;
  won = won;
  ends = λ p past within.
      let size = played.size in
      let before : at new p ≡ get_or (drop row new) (p - row) never = grind (arith, places) in
      let after : get_or (drop row (set ws (row + number) time)) (p - row) never ≡ at ws p = grind (arith, places) in
      before ∙ ap (λ l. get_or l (p - row) never) dropped ∙ after ∙ played.ends p past within;
}

take_of_set : (n i a : ℕ) (xs : List ℕ) → i < n → take n (set xs i a) ≡ set (take n xs) i a
take_of_set zero i a xs near = absurd (omega arith)
take_of_set (suc n) i a [] near = refl
take_of_set (suc n) zero a (x ∷ xs) near = refl
take_of_set (suc n) (suc i) a (x ∷ xs) near = ap (λ l. x ∷ l) (take_of_set n i a xs (omega arith))

pub times_set : (ws new : List ℕ) (row count number time : ℕ) → number < count → drop row new ≡ drop row (set ws (row + number) time)
    → take count (drop row new) ≡ set (take count (drop row ws)) number time
times_set ws new row count number time near dropped =
    ap (take count) (dropped ∙ drop-set-add row ws number time) ∙ take_of_set count number time (drop row ws) near
