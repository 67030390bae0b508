-- Lists of messages: what is in them, what is left without a message, and totals over them.
use Rattle.std.proofs.Common.{◌≡◌, ℕ, ◌+◌, ◌⊎◌, Bool, true, false, List, [], ◌∷◌, ◌++◌, ◌||◌, cond, refl, sym, ap, ◌∙◌, arith, inl, inr, ⊎_elim, true≢false}
use Rattle.std.proofs.lemmas.Bool.{cond_both, or_cases, or_left, or_right}
use Rattle.tw_msgs.specs.declared.message.Message.{Message}
use Rattle.tw_msgs.specs.Messages.{same_message, at_or_before, place, sorted_messages, has, without, IsBeforeFirst, Sorted}
use Rattle.tw_msgs.specs.Counting.{total}
use Rattle.tw_msgs.proofs.Messages.{same_message_is, at_or_before-trans, place-IsPermutation, sorted_messages-IsPermutation}
use Rattle.tw_msgs.proofs.Totals.{total-permutation}

-- ---- totals

pub total-place : (weight : Message → ℕ) (m : Message) (ms : List Message) → total weight (place m ms) ≡ weight m + total weight ms
total-place weight m ms = total-permutation weight (m ∷ ms) (place m ms) (place-IsPermutation m ms)

pub total-sorted_messages : (weight : Message → ℕ) (ms : List Message) → total weight (sorted_messages ms) ≡ total weight ms
total-sorted_messages weight ms = total-permutation weight ms (sorted_messages ms) (sorted_messages-IsPermutation ms)

pub total-without : (weight : Message → ℕ) (m : Message) (ms : List Message) → has m ms ≡ true → total weight (without m ms) + weight m ≡ total weight ms
total-without weight m [] e = absurd (true≢false (sym e))
total-without weight m (n ∷ ns) e = go (same_message m n) refl (λ h. total-without weight m ns h)
  where
    go : (b : Bool) → same_message m n ≡ b → (has m ns ≡ true → total weight (without m ns) + weight m ≡ total weight ns) → total weight (cond b ns (n ∷ without m ns)) + weight m ≡ weight n + total weight ns
    go true is ih = omega (arith, ap weight (same_message_is m n is))
    go false is ih = omega (arith, ih (ap (λ b. b || has m ns) (sym is) ∙ e))

-- ---- what is in a list

pub has-append : (m : Message) (xs ys : List Message) → has m (xs ++ ys) ≡ (has m xs || has m ys)
has-append m [] ys = refl
has-append m (x ∷ xs) ys = ap (λ b. same_message m x || b) (has-append m xs ys) ∙ joined (same_message m x) (has m xs) (has m ys)
  where
    joined : (a b c : Bool) → (a || (b || c)) ≡ ((a || b) || c)
    joined true b c = refl
    joined false b c = refl

pub has_of_without : (m n : Message) (ms : List Message) → has m (without n ms) ≡ true → has m ms ≡ true
has_of_without m n [] e = e
has_of_without m n (x ∷ ms) e =
    cond_both (same_message n x) ms (x ∷ without n ms) (λ l. has m l ≡ true → has m (x ∷ ms) ≡ true)
    (λ is h. or_right _ _ h)
    (λ is h. ⊎_elim (λ k. or_left _ _ k) (λ k. or_right _ _ (has_of_without m n ms k)) (or_cases _ _ h))
    e

pub has_of_place : (m n : Message) (ms : List Message) → has m (place n ms) ≡ true → (same_message m n ≡ true) ⊎ (has m ms ≡ true)
has_of_place m n [] e = or_cases _ _ e
has_of_place m n (x ∷ ms) e = go (at_or_before n x) e (has_of_place m n ms)
  where
    go : (b : Bool) → has m (cond b (n ∷ x ∷ ms) (x ∷ place n ms)) ≡ true → (has m (place n ms) ≡ true → (same_message m n ≡ true) ⊎ (has m ms ≡ true)) → (same_message m n ≡ true) ⊎ ((same_message m x || has m ms) ≡ true)
    go true h ih = or_cases _ _ h
    go false h ih = ⊎_elim (λ k. inr (or_left _ _ k)) (λ k. ⊎_elim (λ p. inl p) (λ p. inr (or_right _ _ p)) (ih k)) (or_cases _ _ h)

pub without_absent : (m : Message) (ms : List Message) → has m ms ≡ false → without m ms ≡ ms
without_absent m [] e = refl
without_absent m (n ∷ ns) e = go (same_message m n) e (without_absent m ns)
  where
    go : (b : Bool) → (b || has m ns) ≡ false → (has m ns ≡ false → without m ns ≡ ns) → cond b ns (n ∷ without m ns) ≡ n ∷ ns
    go true h ih = absurd (true≢false h)
    go false h ih = ap (λ l. n ∷ l) (ih h)

-- ---- order

skip_first : (m n : Message) (ns : List Message) → at_or_before m n ≡ true → IsBeforeFirst n ns → IsBeforeFirst m ns
skip_first m n [] a b = tt
skip_first m n (k ∷ ns) a b = at_or_before-trans m n k a b

first_without : (n m : Message) (ms : List Message) → Sorted ms → IsBeforeFirst n ms → IsBeforeFirst n (without m ms)
first_without n m [] h b = tt
first_without n m (k ∷ ms) h b = cond_both (same_message m k) ms (k ∷ without m ms) (IsBeforeFirst n) (λ e. skip_first n k ms b h.0) (λ e. b)

pub without-Sorted : (m : Message) (ms : List Message) → Sorted ms → Sorted (without m ms)
without-Sorted m [] h = tt
without-Sorted m (n ∷ ns) h =
    cond_both (same_message m n) ns (n ∷ without m ns) Sorted (λ e. h.1) (λ e. (first_without n m ns h.1 h.0, without-Sorted m ns h.1))
