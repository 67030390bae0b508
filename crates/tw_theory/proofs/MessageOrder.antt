-- Messages in the order of their stamps.
use Rattle.std.proofs.Common.{◌≡◌, ℕ, ◌<◌, ◌≤◌, List, [], ◌∷◌, ◌++◌, true, false, arith, ⊎_elim}
use Rattle.std.proofs.lemmas.Bool.{and_parts, or_cases, or_parts, eqb-true, ltb-true, ltb-false, cond_both, or_left, lt-ltb}
use Rattle.std.specs.List.{AllByRecursion as Each}
use Rattle.tw_msgs.specs.Messages.{same_message, at_or_before, place, without, sorted_messages, IsBeforeFirst, Sorted}
use Rattle.tw_msgs.specs.declared.message.Message.{Message}
use Rattle.tw_msgs.proofs.Messages.{stamps_fall, stamps_rise}
use Rattle.tw_vtime.specs.Stamps.{never}
use Rattle.tw_theory.specs.Bundles.{first_stamp, Ascending}

pub first_of_place : (s : ℕ) (m : Message) (ms : List Message) → s ≤ m.stamp → s ≤ first_stamp ms → s ≤ first_stamp (place m ms)
first_of_place s m [] a b = a
first_of_place s m (n ∷ ns) a b = cond_both (at_or_before m n) (m ∷ n ∷ ns) (n ∷ place m ns) (λ l. s ≤ first_stamp l) (λ e. a) (λ e. b)

pub place_ascending : (m : Message) (ms : List Message) → m.stamp ≤ never → Ascending ms → Ascending (place m ms)
place_ascending m [] top up = (top, tt)
place_ascending m (n ∷ ns) top up =
    cond_both (at_or_before m n) (m ∷ n ∷ ns) (n ∷ place m ns) Ascending
    (λ e. (stamps_rise m n e, (up.0, up.1)))
    (λ e. (first_of_place n.stamp m ns (stamps_fall m n e) up.0, place_ascending m ns top up.1))

pub sorted_ascending : (ms : List Message) → Each (λ m. m.stamp < never) ms → Ascending (sorted_messages ms)
sorted_ascending [] h = tt
sorted_ascending (m ∷ ms) h = place_ascending m (sorted_messages ms) (let l = h.0 in omega arith) (sorted_ascending ms h.1)

pub first_of_without : (s : ℕ) (m : Message) (ms : List Message) → Ascending ms → s ≤ first_stamp ms → s ≤ first_stamp (without m ms)
first_of_without s m [] up l = l
first_of_without s m (n ∷ ns) up l = cond_both (same_message m n) ns (n ∷ without m ns) (λ xs. s ≤ first_stamp xs) (λ e. omega (arith, up.0)) (λ e. l)

pub without_ascending : (m : Message) (ms : List Message) → Ascending ms → Ascending (without m ms)
without_ascending m [] up = tt
without_ascending m (n ∷ ns) up =
    cond_both (same_message m n) ns (n ∷ without m ns) Ascending (λ e. up.1) (λ e. (first_of_without n.stamp m ns up.1 up.0, without_ascending m ns up.1))

-- ---- sorted lists

first_later : (m : Message) (ms : List Message) → m.stamp < first_stamp ms → IsBeforeFirst m ms
first_later m [] l = tt
first_later m (n ∷ ns) l = or_left _ _ (lt-ltb m.stamp n.stamp l)

pub sorted_join : (xs ys zs : List Message) → Sorted (xs ++ ys) → Sorted zs → Each (λ m. m.stamp < first_stamp zs) xs → Sorted (xs ++ zs)
sorted_join [] ys zs h up l = up
sorted_join (x ∷ []) ys zs h up l = (first_later x zs l.0, up)
sorted_join (x ∷ y ∷ xs) ys zs h up l = (h.0, sorted_join (y ∷ xs) ys zs h.1 up l.1)

pub ascending_of_sorted : (ms : List Message) → Each (λ m. m.stamp < never) ms → Sorted ms → Ascending ms
ascending_of_sorted [] h k = tt
ascending_of_sorted (m ∷ []) h k = (let l = h.0 in omega arith, tt)
ascending_of_sorted (m ∷ n ∷ ms) h k = (stamps_rise m n k.0, ascending_of_sorted (n ∷ ms) h.1 k.1)

pub sorted_right : (xs ys : List Message) → Sorted (xs ++ ys) → Sorted ys
sorted_right [] ys h = h
sorted_right (x ∷ xs) ys h = sorted_right xs ys h.1
