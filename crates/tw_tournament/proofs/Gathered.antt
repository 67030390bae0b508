-- The numbers of a time, below a place.
use Rattle.std.proofs.Common.{◌≡◌, ◌≢◌, ◌≤◌, ◌<◌, ◌+◌, ◌/◌, ◌++◌, ◌∷◌, [], ℕ, zero, suc, List, length, get_or, take, drop, sym, ap, ◌∙◌, arith, rules}
use Rattle.std.proofs.lemmas.List.{places, drop_more, take-take, drop-take, drop-drop, take-append-drop}
use Rattle.tw_tournament.specs.Times.{numbers_at}
use Rattle.tw_tournament.specs.Winners.{at, power, leftmost, IsWon, PlayFor}
use Rattle.tw_tournament.proofs.Numbers.{numbers_append, numbers_none}
use Rattle.tw_tournament.proofs.Winning.{power_some, leftmost_above, leftmost_next, not_after}
use Rattle.tw_vtime.specs.Stamps.{never}

-- what is read at a place
pub read_at : (ws : List ℕ) (p x : ℕ) → p < length ws → x ≡ get_or ws p x → x ≡ at ws p
read_at ws p x near is = let same : get_or ws p x ≡ at ws p = grind (arith, places) in is ∙ same

pub place_within : (row place first width : ℕ) → PlayFor place width (row + first) → first + width ≤ row → place < row + row
place_within row place first width (k, wide, is) within =
    let above = leftmost_above place k in let some = power_some k in omega arith

-- of a place with others below it, its two sides
pub record IsSplit (p w n : ℕ) : Type 0 where
  pub left : PlayFor (p + p) (w / 2) n
  pub right : PlayFor (p + p + 1) (w / 2) (n + w / 2)
  pub halves : w / 2 + w / 2 ≡ w
  pub less : w / 2 < w
  pub above : p + p ≤ n

pub split : (p w n : ℕ) → PlayFor p w n → w ≢ 1 → IsSplit p w n
split p w n (zero, wide, is) not = absurd (not wide)
split p w n (suc k, wide, is) not =
    let half : w / 2 ≡ power k = omega arith in
    let some = power_some k in
    let next = leftmost_next (p + p) k in
    let above = leftmost_above (p + p) k in
    record {
      left = (k, half, is);
      right = (k, half, omega arith);
      halves = omega arith;
      less = omega arith;
      above = omega arith;
    }

-- a place that a single one plays for is its own
pub one_wide : (p w n : ℕ) → PlayFor p w n → w ≤ 1 → n ≡ p
one_wide p w n (zero, wide, is) narrow = is
one_wide p w n (suc k, wide, is) narrow = let some = power_some k in absurd (omega arith)

module _ (ws : List ℕ) (row : ℕ) (won : IsWon ws row) (size : length ws ≡ row + row) where
  -- where the winner is another, so are all
  pub none_below : (t place first width : ℕ) → 1 ≤ place → PlayFor place width (row + first) → first + width ≤ row → t ≤ at ws place → at ws place ≢ t
      → numbers_at t first (take width (drop (row + first) ws)) ≡ []
  none_below t place first width some (k, wide, is) within least other =
      numbers_none t first (take width (drop (row + first) ws))
      (λ i near same.
      let under = not_after ws row won k place some (omega arith) i (grind (arith, places)) in
      let there : get_or (take width (drop (row + first) ws)) i t ≡ at ws (row + first + i) = grind (arith, places) in
      let level : at ws (leftmost place k + i) ≡ at ws (row + first + i) = ap (λ n. at ws (n + i)) (sym is) in
      other (omega arith))

  -- of two that met, one of which is at the time of the winner and the right one is not
  pub left_there : (place t : ℕ) → 1 ≤ place → place < row → at ws place ≡ t → at ws (place + place + 1) ≢ t → at ws (place + place) ≡ t
  left_there place t some below is other = let met = won place some below in omega (arith, met, is, other)

  -- and where the left one is not, the right one is
  pub right_there : (place t : ℕ) → 1 ≤ place → place < row → at ws place ≡ t → at ws (place + place) ≢ t → at ws (place + place + 1) ≡ t
  right_there place t some below is other = let met = won place some below in omega (arith, met, is, other)

  -- where the winner is later, so are all
  pub later_below : (t place first width : ℕ) → 1 ≤ place → PlayFor place width (row + first) → first + width ≤ row → t < at ws place
      → (i : ℕ) → i < width → t < at ws (row + (first + i))
  later_below t place first width some (k, wide, is) within later i near =
      let under = not_after ws row won k place some (omega arith) i (omega arith) in
      let level : at ws (leftmost place k + i) ≡ at ws (row + (first + i)) = ap (at ws) (omega arith) in
      omega arith

  -- a single one that is at the time
  pub one_there : (t place first width : ℕ) → PlayFor place width (row + first) → first + width ≤ row → width ≡ 1 → at ws place ≡ t
      → numbers_at t first (take width (drop (row + first) ws)) ≡ first ∷ []
  one_there t place first width (suc k, wide, is) within single there = let some = power_some k in absurd (omega arith)
  one_there t place first width (zero, wide, is) within single there =
      ap (λ w. numbers_at t first (take w (drop (row + first) ws))) single
      ∙ ap (λ xs. numbers_at t first (take 1 xs)) (drop_more ws (row + first) never (omega arith))
      ∙ ap (λ x. numbers_at t first (x ∷ [])) (ap (at ws) is ∙ there)
      ∙ (search rules)

  -- those of both sides
  pub both_sides : (t place first width : ℕ) → IsSplit place width (row + first) → first + width ≤ row
      → numbers_at t first (take (width / 2) (drop (row + first) ws)) ++ numbers_at t (first + width / 2) (take (width / 2) (drop (row + (first + width / 2)) ws))
      ≡ numbers_at t first (take width (drop (row + first) ws))
  both_sides t place first width sides within =
      let h = width / 2 in
      let xs = drop (row + first) ws in
      let halves : h + h ≡ width = sides.halves in
      let shorter : h ≤ h + h = omega arith in
      let here : first + length (take h xs) ≡ first + h = grind (arith, places) in
      let place_is : row + first + h ≡ row + (first + h) = omega arith in
      let second : take h (drop (row + (first + h)) ws) ≡ drop h (take (h + h) xs) =
      ap (λ n. take h (drop n ws)) (sym place_is) ∙ sym (ap (take h) (drop-drop h (row + first) ws)) ∙ sym (drop-take h h xs) in
      let all : take h xs ++ drop h (take (h + h) xs) ≡ take width xs =
      ap (λ l. l ++ drop h (take (h + h) xs)) (sym (take-take h (h + h) xs shorter)) ∙ take-append-drop h (take (h + h) xs) ∙ ap (λ w. take w xs) halves in
      ap (λ l. numbers_at t first (take h xs) ++ numbers_at t (first + h) l) second
      ∙ ap (λ n. numbers_at t first (take h xs) ++ numbers_at t n (drop h (take (h + h) xs))) (sym here)
      ∙ sym (numbers_append t first (take h xs) (drop h (take (h + h) xs)))
      ∙ ap (numbers_at t first) all
