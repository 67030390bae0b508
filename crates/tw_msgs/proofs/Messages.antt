-- Messages that are equal, and messages in order.
use Rattle.std.proofs.Common.{◌≡◌, ◌≤◌, ◌↔◌, Bool, true, false, List, [], ◌∷◌, ◌&&◌, ◌==◌, refl, sym, ap, ◌∙◌, subst, if◌then◌else◌, eqb-true, eq-eqb, ltb-true, ltb-false, ⊎_elim, arith}
use Rattle.std.specs.Cmp.{then_total, on_total, nat_cmp_total, int_cmp_total}
use Rattle.std.specs.Ordering.{is_le, int_eq}
use Rattle.std.specs.declared.cmp.Ordering.TheVariants.{Less}
use Rattle.std.specs.List.Sorted.{IsPermutation, IsSorted}
use Rattle.std.proofs.lemmas.Bool.{and_parts, and_from, or_cases, or_parts}
use Rattle.std.specs.Bool.{Decides}
use Rattle.std.proofs.lemmas.Bool.Decides.{Decides-int_eq, Decides-eqb, Decides-and, Decides-like, same_from_decides}
use Rattle.tw_msgs.specs.declared.message.Message.{Message}
use Rattle.tw_msgs.specs.Messages.{same_message, at_or_before, place, sorted_messages, message_cmp, ComesBefore, IsBeforeFirst, Sorted}
use Rattle.tw_msgs.proofs.Orders.{lex_le, lex_int_le, nat_le-is, lex_exact, lex_int_exact, nat_cmp-exact, lex_less, lex_int_less, less_is}
use Rattle.tw_msgs.proofs.Sorting as sorting

-- ---- equal messages

pub same_message_is : (m n : Message) → same_message m n ≡ true → m ≡ n
same_message_is m n e =
    let a = and_parts _ _ e in
    let b = and_parts _ _ a.0 in
    let c = and_parts _ _ b.0 in
    let to = eqb-true m.to n.to c.0 in
    let port = eqb-true m.port n.port c.1 in
    let stamp = eqb-true m.stamp n.stamp b.1 in
    let value = (Decides-int_eq m.value n.value).0 a.1 in
    λ i. record { to = to i; port = port i; stamp = stamp i; value = value i }

pub same_message-refl : (m : Message) → same_message m m ≡ true
same_message-refl m =
    and_from _ _ (and_from _ _ (and_from _ _ (eq-eqb m.to m.to refl) (eq-eqb m.port m.port refl)) (eq-eqb m.stamp m.stamp refl)) ((Decides-int_eq m.value m.value).1 refl)

pub same_message_from : (m n : Message) → m ≡ n → same_message m n ≡ true
same_message_from m n e = subst (λ k. same_message m k ≡ true) e (same_message-refl m)

pub same_message-Decides : (m n : Message) → Decides (same_message m n) (m ≡ n)
same_message-Decides m n = (same_message_is m n, same_message_from m n)

-- the fields in the order of their declaration, as the derived `==` compares them
abbrev pub same_fields : Message → Message → Bool
same_fields m n = (m.stamp == n.stamp) && ((m.port == n.port) && (int_eq m.value n.value && (m.to == n.to)))

pub same_fields-Decides : (m n : Message) → Decides (same_fields m n) (m ≡ n)
same_fields-Decides m n =
    Decides-like (same_fields m n)
    (λ p. λ i. record { stamp = p.0 i; port = p.1.0 i; value = p.1.1.0 i; to = p.1.1.1 i })
    (λ e. (ap (λ k. k.stamp) e, (ap (λ k. k.port) e, (ap (λ k. k.value) e, ap (λ k. k.to) e))))
    (Decides-and _ _ (Decides-eqb m.stamp n.stamp)
    (Decides-and _ _ (Decides-eqb m.port n.port) (Decides-and _ _ (Decides-int_eq m.value n.value) (Decides-eqb m.to n.to))))

-- what `==` answers of two messages, as the definitions test it
pub same_fields-is : (m n : Message) → same_fields m n ≡ same_message n m
same_fields-is m n =
    same_from_decides (same_fields m n) (same_message n m) (same_fields-Decides m n)
    (Decides-like (same_message n m) sym sym (same_message-Decides n m))

-- ---- the order

pub messages_rank : sorting.Ranks message_cmp
messages_rank = record {
  total =
      then_total (on_total (λ m. m.stamp) nat_cmp_total)
      (then_total (on_total (λ m. m.port) nat_cmp_total) (then_total (on_total (λ m. m.value) int_cmp_total) (on_total (λ m. m.to) nat_cmp_total)));
  exact = λ m n e.
      let s = lex_exact m.stamp n.stamp _ e in
      let p = lex_exact m.port n.port _ s.1 in
      let v = lex_int_exact m.value n.value _ p.1 in
      let t = nat_cmp-exact m.to n.to v.1 in
      λ i. record { to = t i; port = p.0 i; stamp = s.0 i; value = v.0 i };
}

-- the test is what the order says
pub at_or_before-is : (m n : Message) → at_or_before m n ≡ is_le (message_cmp m n)
at_or_before-is m n =
    lex_le m.stamp n.stamp _ _ (lex_le m.port n.port _ _ (lex_int_le m.value n.value _ _ (nat_le-is m.to n.to)))

pub comes_before-is : (m n : Message) → (message_cmp m n ≡ Less) ↔ ComesBefore m n
comes_before-is m n =
    lex_less m.stamp n.stamp _ (lex_less m.port n.port _ (lex_int_less m.value n.value _ (less_is m.to n.to)))

pub at_or_before-refl : (m : Message) → at_or_before m m ≡ true
at_or_before-refl m = at_or_before-is m m ∙ sorting.le-refl messages_rank m

-- of two messages one stands at or before the other
pub at_or_before-other : (m n : Message) → at_or_before m n ≡ false → at_or_before n m ≡ true
at_or_before-other m n e = at_or_before-is n m ∙ sorting.other_way messages_rank m n (sym (at_or_before-is m n) ∙ e)

pub at_or_before-trans : (m n k : Message) → at_or_before m n ≡ true → at_or_before n k ≡ true → at_or_before m k ≡ true
at_or_before-trans m n k e f =
    at_or_before-is m k ∙ sorting.le-trans messages_rank m n k (sym (at_or_before-is m n) ∙ e) (sym (at_or_before-is n k) ∙ f)

pub at_or_before-antisymm : (m n : Message) → at_or_before m n ≡ true → at_or_before n m ≡ true → m ≡ n
at_or_before-antisymm m n e f = sorting.le-antisymm messages_rank m n (sym (at_or_before-is m n) ∙ e) (sym (at_or_before-is n m) ∙ f)

-- ---- lists in order

place-is : (m : Message) (ns : List Message) → place m ns ≡ sorting.insert_by message_cmp m ns
place-is m [] = refl
place-is m (n ∷ ns) = λ i. if at_or_before-is m n i then m ∷ n ∷ ns else n ∷ place-is m ns i

sorted_messages-is : (ms : List Message) → sorted_messages ms ≡ sorting.sort_by message_cmp ms
sorted_messages-is [] = refl
sorted_messages-is (m ∷ ms) = place-is m (sorted_messages ms) ∙ ap (sorting.insert_by message_cmp m) (sorted_messages-is ms)

leads : (m : Message) (ns : List Message) → IsBeforeFirst m ns → sorting.LeadsBy message_cmp m ns
leads m [] h = tt
leads m (n ∷ ns) h = sym (at_or_before-is m n) ∙ h

rises : (ms : List Message) → Sorted ms → sorting.RisesBy message_cmp ms
rises [] h = tt
rises (m ∷ ms) h = (leads m ms h.0, rises ms h.1)

is_before_first : (m : Message) (ns : List Message) → sorting.LeadsBy message_cmp m ns → IsBeforeFirst m ns
is_before_first m [] h = tt
is_before_first m (n ∷ ns) h = at_or_before-is m n ∙ h

sorted : (ms : List Message) → sorting.RisesBy message_cmp ms → Sorted ms
sorted [] h = tt
sorted (m ∷ ms) h = (is_before_first m ms h.0, sorted ms h.1)

pub Sorted-from_IsSorted : (ms : List Message) → IsSorted message_cmp ms → Sorted ms
Sorted-from_IsSorted ms h = sorted ms (sorting.RisesBy-from_IsSorted messages_rank ms h)

pub IsSorted-from_Sorted : (ms : List Message) → Sorted ms → IsSorted message_cmp ms
IsSorted-from_Sorted ms h = sorting.IsSorted-from_RisesBy messages_rank ms (rises ms h)

-- what is in order rises in stamps
pub stamps_rise : (m n : Message) → at_or_before m n ≡ true → m.stamp ≤ n.stamp
stamps_rise m n e = ⊎_elim (λ l. let k = ltb-true m.stamp n.stamp l in omega arith) (λ h. let k = eqb-true m.stamp n.stamp (and_parts _ _ h).0 in omega arith) (or_cases _ _ e)

pub stamps_fall : (m n : Message) → at_or_before m n ≡ false → n.stamp ≤ m.stamp
stamps_fall m n e = ltb-false m.stamp n.stamp (or_parts _ _ e).0

pub place-first : (m : Message) (ms : List Message) → IsBeforeFirst m ms → place m ms ≡ m ∷ ms
place-first m ms h = place-is m ms ∙ sorting.insert_leads messages_rank m ms (leads m ms h)

pub place-Sorted : (m : Message) (ms : List Message) → Sorted ms → Sorted (place m ms)
place-Sorted m ms h = subst Sorted (sym (place-is m ms)) (sorted _ (sorting.insert_rises messages_rank m ms (rises ms h)))

pub place-comm : (m n : Message) (ms : List Message) → place m (place n ms) ≡ place n (place m ms)
place-comm m n ms =
    twice m n ∙ sorting.insert-comm messages_rank m n ms ∙ sym (twice n m)
  where
    twice : (a b : Message) → place a (place b ms) ≡ sorting.insert_by message_cmp a (sorting.insert_by message_cmp b ms)
    twice a b = place-is a (place b ms) ∙ ap (sorting.insert_by message_cmp a) (place-is b ms)

pub place-IsPermutation : (m : Message) (ms : List Message) → IsPermutation (m ∷ ms) (place m ms)
place-IsPermutation m ms = subst (IsPermutation (m ∷ ms)) (sym (place-is m ms)) (sorting.insert-IsPermutation messages_rank m ms)

pub sorted_messages-Sorted : (ms : List Message) → Sorted (sorted_messages ms)
sorted_messages-Sorted [] = tt
sorted_messages-Sorted (m ∷ ms) = place-Sorted m (sorted_messages ms) (sorted_messages-Sorted ms)

pub sorted_messages-IsPermutation : (ms : List Message) → IsPermutation ms (sorted_messages ms)
sorted_messages-IsPermutation ms = subst (IsPermutation ms) (sym (sorted_messages-is ms)) (sorting.sort-IsPermutation messages_rank ms)

-- the sorted list is the one permutation in order
pub sorted_messages-only : (ms ns : List Message) → IsPermutation ms ns → Sorted ns → ns ≡ sorted_messages ms
sorted_messages-only ms ns same up = sorting.only_sorted messages_rank ms ns same (rises ns up) ∙ sym (sorted_messages-is ms)

pub sorted_messages-permutation : (ms ns : List Message) → IsPermutation ms ns → sorted_messages ms ≡ sorted_messages ns
sorted_messages-permutation ms ns same = sorted_messages-is ms ∙ sorting.sort-permutation messages_rank ms ns same ∙ sym (sorted_messages-is ns)

-- a list in order is its own sorted list
pub sorted_messages-of_Sorted : (ms : List Message) → Sorted ms → sorted_messages ms ≡ ms
sorted_messages-of_Sorted ms h = sorted_messages-is ms ∙ sorting.sort_of_rising messages_rank ms (rises ms h)
