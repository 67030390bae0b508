-- How the winners of a tournament stand to its times.
use Rattle.std.proofs.Common.{◌≡◌, ◌⊎◌, ◌≤◌, ◌<◌, ◌+◌, ◌-◌, ℕ, zero, suc, min, List, refl, ap, ◌∙◌, inl, inr, arith}
use Rattle.std.proofs.lemmas.Bool.{cases_lt}
use Rattle.tw_tournament.specs.Winners.{at, power, leftmost, IsPower, IsWon}

-- ## Powers of two, and places

pub power_some : (k : ℕ) → 1 ≤ power k
power_some zero = omega arith
power_some (suc k) = let some = power_some k in omega arith

pub double_power : (n : ℕ) → IsPower n → IsPower (n + n)
double_power n (k, is) = (suc k, let same = is in omega arith)

pub leftmost_above : (p k : ℕ) → p ≤ leftmost p k
leftmost_above p zero = omega arith
leftmost_above p (suc k) = let above = leftmost_above (p + p) k in omega arith

pub leftmost_next : (p k : ℕ) → leftmost (p + 1) k ≡ leftmost p k + power k
leftmost_next p zero = refl
leftmost_next p (suc k) =
    let same : p + 1 + (p + 1) ≡ p + p + 1 + 1 = omega arith in
    let first = leftmost_next (p + p + 1) k in
    let second = leftmost_next (p + p) k in
    ap (λ q. leftmost q k) same ∙ first ∙ ap (λ n. n + power k) second ∙ (omega arith)

leftmost_zero : (k : ℕ) → leftmost 0 k ≡ 0
leftmost_zero zero = refl
leftmost_zero (suc k) = leftmost_zero k

pub leftmost_one : (k : ℕ) → leftmost 1 k ≡ power k
leftmost_one k = let next = leftmost_next 0 k in let none = leftmost_zero k in omega arith

-- ## The lesser of two

lesser_cases : (a b c : ℕ) → c ≡ min a b → ((c ≡ a) × (a ≤ b)) ⊎ ((c ≡ b) × (b ≤ a))
lesser_cases a b c is = go (cases_lt b a)
  where
    go : (b < a) ⊎ (a ≤ b) → ((c ≡ a) × (a ≤ b)) ⊎ ((c ≡ b) × (b ≤ a))
    go (inl less) = inr (omega arith, omega arith)
    go (inr more) = inl (omega arith, more)

-- ## Winners

module _ (winners : List ℕ) (row : ℕ) (won : IsWon winners row) where
  abbrev pub AreAfter : ℕ → ℕ → Type 0
  AreAfter k p = (i : ℕ) → i < power k → at winners p ≤ at winners (leftmost p k + i)

  -- of a place's two, each of its side
  by_side : (k p i : ℕ) → 1 ≤ p → p < row → i < power (suc k) → AreAfter k (p + p) → AreAfter k (p + p + 1) → (i < power k) ⊎ (power k ≤ i)
      → at winners p ≤ at winners (leftmost (p + p) k + i)
  by_side k p i some above less left right (inl on_left) =
      let under = left i on_left in let is = won p some above in omega arith
  by_side k p i some above less left right (inr on_right) =
      let under = right (i - power k) (omega arith) in
      let next = leftmost_next (p + p) k in
      let same : leftmost (p + p + 1) k + (i - power k) ≡ leftmost (p + p) k + i = omega arith in
      let level = ap (at winners) same in
      let is = won p some above in omega arith

  -- a winner is not after those who played for its place
  pub not_after : (k p : ℕ) → 1 ≤ p → leftmost p k + power k ≤ row + row → AreAfter k p
  not_after zero p some within i less = let same : p ≡ p + i = omega arith in let level = ap (at winners) same in omega arith
  not_after (suc k) p some within i less =
      let lowest = leftmost_above (p + p) k in
      let wide = power_some k in
      let next = leftmost_next (p + p) k in
      by_side k p i some (omega arith) less
      (not_after k (p + p) (omega arith) (omega arith))
      (not_after k (p + p + 1) (omega arith) (omega arith))
      (cases_lt i (power k))

  all_here : (t p : ℕ) → ((q : ℕ) → row ≤ q → q < row + row → t ≤ at winners q) → 1 ≤ p → p < row + row
      → (p < row → t ≤ at winners (p + p)) → (p < row → t ≤ at winners (p + p + 1)) → (p < row) ⊎ (row ≤ p) → t ≤ at winners p
  all_here t p times some within left right (inl above) =
      let l = left above in let r = right above in let is = won p some above in omega arith
  all_here t p times some within left right (inr leaf) = times p leaf within

  -- where no time is before this one, no winner is
  pub all_after : (t : ℕ) → ((q : ℕ) → row ≤ q → q < row + row → t ≤ at winners q) → (n p : ℕ) → row + row ≤ p + n → 1 ≤ p → p < row + row → t ≤ at winners p
  all_after t times zero p enough some within = absurd (omega arith)
  all_after t times (suc n) p enough some within =
      all_here t p times some within
      (λ above. all_after t times n (p + p) (omega arith) (omega arith) (omega arith))
      (λ above. all_after t times n (p + p + 1) (omega arith) (omega arith) (omega arith))
      (cases_lt p row)

  abbrev pub IsOfRow : ℕ → Type 0
  IsOfRow p = (q : ℕ) × (row ≤ q) × (q < row + row) × (at winners p ≡ at winners q)

  by_winner : (p a b : ℕ) → IsOfRow a → IsOfRow b
      → ((at winners p ≡ at winners a) × (at winners a ≤ at winners b)) ⊎ ((at winners p ≡ at winners b) × (at winners b ≤ at winners a)) → IsOfRow p
  by_winner p a b left right (inl won_by) = (left.0, left.1, left.2, won_by.0 ∙ left.3)
  by_winner p a b left right (inr won_by) = (right.0, right.1, right.2, won_by.0 ∙ right.3)

  by_place : (p : ℕ) → 1 ≤ p → p < row + row → (p < row → IsOfRow (p + p)) → (p < row → IsOfRow (p + p + 1)) → (p < row) ⊎ (row ≤ p) → IsOfRow p
  by_place p some within left right (inl above) =
      by_winner p (p + p) (p + p + 1) (left above) (right above)
      (lesser_cases (at winners (p + p)) (at winners (p + p + 1)) (at winners p) (won p some above))
  by_place p some within left right (inr leaf) = (p, leaf, within, refl)

  -- the winner at a place is one of the times
  pub is_of_row : (n p : ℕ) → row + row ≤ p + n → 1 ≤ p → p < row + row → IsOfRow p
  is_of_row zero p enough some within = absurd (omega arith)
  is_of_row (suc n) p enough some within =
      by_place p some within
      (λ above. is_of_row n (p + p) (omega arith) (omega arith) (omega arith))
      (λ above. is_of_row n (p + p + 1) (omega arith) (omega arith) (omega arith))
      (cases_lt p row)

  -- the winner of all is not after any time
  pub first_of_all : IsPower row → (q : ℕ) → row ≤ q → q < row + row → at winners 1 ≤ at winners q
  first_of_all (k, is) q leaf within =
      let one = leftmost_one k in
      let under = not_after k 1 (omega arith) (omega arith) (q - row) (omega arith) in
      let same : leftmost 1 k + (q - row) ≡ q = omega arith in
      let level = ap (at winners) same in omega arith
