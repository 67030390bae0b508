-- A process at the start.
use Rattle.std.proofs.Common.{◌≡◌, ℕ, ◌+◌, ◌<◌, List, [], ◌∷◌, ◌++◌, length, map, drop, refl, sym, ap, subst, ◌∙◌, arith, slice_index_or, add-one}
use Rattle.std.proofs.Math.Seq.{drop-cons}
use Rattle.std.specs.List.{AllByRecursion as Each}
use Rattle.tw_atomic.specs.Atomic.{Meaning}
use Rattle.tw_atomic.specs.Atomic.{Bag}
use Rattle.tw_atomic.specs.declared.Turn.{Turn}
use Rattle.tw_msgs.specs.Messages.{place, sorted_messages, Sorted}
use Rattle.tw_msgs.proofs.Messages.{place-comm, sorted_messages-Sorted}
use Rattle.tw_lists.specs.Lists.{Lists}
use Rattle.tw_process.specs.History.{IsKeptBy}
use Rattle.tw_msgs.specs.declared.message.Message.{Message}
use Rattle.tw_network.specs.Contents.{Input, message_of}
use Rattle.tw_theory.specs.Bundles.{addressed}
use Rattle.tw_theory.specs.Transitions.{Moment}
use Rattle.tw_theory.specs.Standing.{IsStanding, CanTake}

-- each message put at its place, one after another
abbrev pub folded : List Message → List Message → List Message
folded p [] = p
folded p (m ∷ ms) = folded (place m p) ms

folded_place : (m : Message) (p ms : List Message) → folded (place m p) ms ≡ place m (folded p ms)
folded_place m p [] = refl
folded_place m p (n ∷ ms) = ap (λ l. folded l ms) (place-comm n m p) ∙ folded_place m (place n p) ms

pub folded_sorted : (ms : List Message) → folded [] ms ≡ sorted_messages ms
folded_sorted [] = refl
folded_sorted (m ∷ ms) = folded_place m [] ms ∙ ap (place m) (folded_sorted ms)

pub inputs_left : (c i : ℕ) (d : Input) (items : List Input) → i < length items → (p : List Message) → folded p (addressed c (map message_of (drop i items))) ≡ folded p (addressed c (message_of (slice_index_or items i d) ∷ map message_of (drop (i + 1) items)))
inputs_left c i d items less p = ap (λ l. folded p (addressed c (map message_of l))) (drop-cons items i d less ∙ ap (λ n. slice_index_or items i d ∷ drop n items) (sym (add-one i)))

pub start_kept : {S R : Type 0} (valid : S → Type 0) (m : Meaning S) (undone : Turn → S → ℕ → Bag → R → S) (c : ℕ) (now : Moment S) (lists : Lists) (all : List Message) → lists.pending ≡ sorted_messages all → Each (CanTake c) lists.pending → lists.consumed ≡ [] → lists.sent ≡ [] → IsStanding valid m now 0 → IsKeptBy {S = S} {R = R} valid m undone c now 0 [] lists
start_kept valid m undone c now lists all pending fit consumed sent standing = record {
  linked = tt;
  consumed_is = sym (ap length consumed);
  sent_is = sym (ap length sent);
  sorted = subst (λ l. Sorted (l ++ lists.pending)) (sym consumed) (subst Sorted (sym pending) (sorted_messages-Sorted all));
  fit = subst (λ l. Each (CanTake c) (l ++ lists.pending)) (sym consumed) fit;
  stood = tt;
  standing = standing;
  from = omega arith;
}
