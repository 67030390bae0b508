-- A sweep over some components in rising order: between two of them it passes over the others.
use Rattle.std.proofs.Common.{◌≡◌, ℕ, zero, suc, ◌+◌, ◌-◌, ◌<◌, ◌≤◌, List, length, slice_index, sym, ap, ◌∙◌, subst, add-one, ⊎_elim, arith}
use Rattle.std.specs.List.{All, Contains}
use Rattle.std.specs.List.Sorted.{IsStrictlyIncreasing}
use Rattle.std.proofs.lemmas.Bool.{cases_eq, cases_lt}
use Rattle.std.proofs.lemmas.List.{get_or_read}
use Rattle.std.proofs.lemmas.List.Kept.{AllPairs-from_increasing}

-- the component from which on the sweep goes on, after the first k of cs
abbrev pub onward : List ℕ → ℕ → ℕ
onward cs zero = 0
onward cs (suc k) = suc (slice_index cs k)

below_is : (i j : ℕ) → i ≤ j → (n : ℕ) × (i + n ≡ j)
below_is i j l = (j - i, omega (arith, l))

-- what a step more keeps, all steps keep
pub along : (Q : ℕ → Type 0) (i j : ℕ) → i ≤ j → ((c : ℕ) → i ≤ c → c < j → Q c → Q (c + 1)) → Q i → Q j
along Q i j le step q = let rest = below_is i j le in go rest.0 i (omega arith) rest.1 q
  where
    go : (n k : ℕ) → i ≤ k → k + n ≡ j → Q k → Q j
    go zero k l e q = let same : k ≡ j = omega (arith, e) in subst Q same q
    go (suc n) k l e q = go n (k + 1) (omega (arith, l)) (omega (arith, e)) (step k l (omega (arith, e)) q)

pub onward_more : (cs : List ℕ) (k : ℕ) → onward cs (k + 1) ≡ slice_index cs k + 1
onward_more cs k = ap (onward cs) (add-one k) ∙ sym (add-one (slice_index cs k))

-- the sweep stays within n components
pub onward_within : (cs : List ℕ) (n k : ℕ) → All (λ c. c < n) cs → k ≤ length cs → onward cs k ≤ n
onward_within cs n zero h l = omega arith
onward_within cs n (suc k) h l = h k 0 (omega (arith, l))

module _ (cs : List ℕ) (up : IsStrictlyIncreasing cs) where
  rising_places : (i j : ℕ) → i ≤ j → j < length cs → slice_index cs i ≤ slice_index cs j
  rising_places i j le l = ⊎_elim
      (λ e. let same : slice_index cs i ≡ slice_index cs j = (λ k. slice_index cs (e k)) in omega (arith, same))
      (λ n. let less : slice_index cs i < slice_index cs j = AllPairs-from_increasing cs up i j 0 (omega (arith, le, n)) l in omega (arith, less))
      (cases_eq i j)

  -- those before are passed
  passed : (k j : ℕ) → j < k → j < length cs → k ≤ length cs → slice_index cs j < onward cs k
  passed zero j m l n = absurd (omega (arith, m))
  passed (suc k) j m l n = let le = rising_places j k (omega (arith, m)) (omega (arith, n)) in omega (arith, le)

  pub onward_next : (k : ℕ) → k < length cs → onward cs k ≤ slice_index cs k
  onward_next zero l = omega arith
  onward_next (suc k) l = let h = up k (omega (arith, l)) in let e : slice_index cs (k + 1) ≡ slice_index cs (suc k) = ap (slice_index cs) (add-one k) in omega (arith, h, e)

  -- none of cs stands between
  pub none_between : (k c : ℕ) → k < length cs → onward cs k ≤ c → c < slice_index cs k → Contains cs c → ⊥
  none_between k c l from before h =
      let at : c ≡ slice_index cs h.0 = get_or_read cs h.0 c h.1 (sym h.2) 0 in
      ⊎_elim
      (λ m. let less = passed k h.0 m h.1 (omega (arith, l)) in omega (arith, less, at, from))
      (λ m. let le = rising_places k h.0 m h.1 in omega (arith, le, at, before))
      (cases_lt h.0 k)

  -- none of cs stands after the last
  pub none_after : (k c : ℕ) → length cs ≤ k → k ≤ length cs → onward cs k ≤ c → Contains cs c → ⊥
  none_after k c l m from h =
      let at : c ≡ slice_index cs h.0 = get_or_read cs h.0 c h.1 (sym h.2) 0 in
      let i = h.1 in
      let less = passed k h.0 (omega (arith, l, i)) h.1 m in omega (arith, less, at, from)
