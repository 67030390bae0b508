-- Who is awake when a message more has come, and in which order.
use Rattle.std.proofs.Common.{◌≡◌, ℕ, ◌<◌, List, [], ◌++◌, length, sym, subst, ⊎_elim, nat_eq, nat_cmp, slice_set, slice_index_or}
use Rattle.std.specs.List.{All, Contains, dedup}
use Rattle.std.specs.List.Retain.{IsFiltered, DiffersFromLast}
use Rattle.std.specs.List.Sorted.{IsPermutation, IsSorted, IsStrictlyIncreasing}
use Rattle.std.proofs.lemmas.List.{length-set}
use Rattle.std.proofs.lemmas.List.Elements.{All-append, All-contains, Contains-get_or, Contains-append_left, Contains-append_right}
use Rattle.std.proofs.lemmas.List.Filters.{dedup_is}
use Rattle.std.proofs.lemmas.List.Kept.{Contains-dedup_nat, Contains-from_dedup}
use Rattle.std.proofs.lemmas.List.Sorted.{All-permutation, Contains-permutation}
use Rattle.std.proofs.lemmas.Map.Keys.{IsStrictlyIncreasing-dedup}
use Rattle.tw_msgs.specs.Bags.{Bag}
use Rattle.tw_rounds.specs.Waking.{WakesAll}
use Rattle.tw_theory.proofs.Elements.{get_of_set}

-- a bag is filled, whose component is awake
pub filled_awake : (bags : List Bag) (awake now_awake : List ℕ) (i : ℕ) (y : Bag) → WakesAll bags awake → ((c : ℕ) → Contains awake c → Contains now_awake c) → All (λ c. c < length bags) now_awake → Contains now_awake i → WakesAll (slice_set bags i y) now_awake
filled_awake bags awake now_awake i y h kept within here = record {
  each = subst (λ n. All (λ c. c < n) now_awake) (sym (length-set bags i y)) within;
  all = λ c r. ⊎_elim
      (λ e. subst (Contains now_awake) (sym e.0) here)
      (λ e. kept c (h.all c (r.0, e.1, r.2)))
      (get_of_set bags i c y r.0 r.1);
}

-- ---- those awake, with some more, in order and each once

module _ (awake more both sorted once : List ℕ) (joined : both ≡ awake ++ more) (permuted : IsPermutation both sorted) (is_sorted : IsSorted nat_cmp sorted) (filtered : IsFiltered (DiffersFromLast nat_eq) [] sorted once) where
  once_is : once ≡ dedup nat_eq sorted
  once_is = dedup_is nat_eq sorted once filtered

  pub once_rising : IsStrictlyIncreasing once
  once_rising = subst IsStrictlyIncreasing (sym once_is) (IsStrictlyIncreasing-dedup sorted is_sorted)

  pub once_all : (c : ℕ) → Contains (awake ++ more) c → Contains once c
  once_all c h = subst (λ xs. Contains xs c) (sym once_is) (Contains-dedup_nat sorted c (Contains-permutation both sorted c permuted (subst (λ xs. Contains xs c) (sym joined) h)))

  pub once_more : All (Contains once) more
  once_more k d l = once_all (slice_index_or more k d) (Contains-append_right awake more (slice_index_or more k d) (Contains-get_or more k d l))

  pub once_awake : (bags : List Bag) → WakesAll bags awake → All (λ c. c < length bags) more → WakesAll bags once
  once_awake bags h within = record {
    each = λ k d l.
        let x = slice_index_or once k d in
        let here : Contains sorted x = Contains-from_dedup nat_eq sorted x (subst (λ xs. Contains xs x) once_is (Contains-get_or once k d l)) in
        All-contains (λ c. c < length bags) sorted x
        (All-permutation (λ c. c < length bags) both sorted permuted (subst (All (λ c. c < length bags)) (sym joined) (All-append (λ c. c < length bags) awake more h.each within))) here;
    all = λ c r. once_all c (Contains-append_left awake more c (h.all c r));
  }
