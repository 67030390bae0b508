-- What a chain is worked out from is ready.
use Rattle.std.proofs.Common.{ℕ, zero, suc, ◌≤◌, List, [], ◌∷◌, take, drop, sym, subst, arith, take-append-drop}
use Rattle.std.specs.List.{AllByRecursion as Each, prefix_len}
use Rattle.std.specs.Prelude.{nat_lt, take_while}
use Rattle.tw_atomic.specs.Atomic.{Bag, Meaning}
use Rattle.tw_atomic.specs.declared.Turn.{Turn}
use Rattle.tw_lists.specs.Lists.{Lists}
use Rattle.tw_msgs.specs.Messages.{Sorted}
use Rattle.tw_msgs.specs.declared.message.Message.{Message}
use Rattle.tw_theory.specs.Bundles.{first_stamp}
use Rattle.tw_theory.specs.Standing.{IsReady, CanTake, floor_after}
use Rattle.tw_theory.specs.Transitions.{Moment}
use Rattle.tw_theory.proofs.Elements.{each_parts}
use Rattle.tw_theory.proofs.MessageOrder.{sorted_right}
use Rattle.tw_vtime.specs.Stamps.{never}
use Rattle.tw_process.specs.declared.entry.Entry.{Entry}
use Rattle.tw_process.specs.History.{shown, IsKeptBy}
use Rattle.tw_process.proofs.Commits.{first_at_most}

sorted_take : (n : ℕ) (ms : List Message) → Sorted ms → Sorted (take n ms)
sorted_take zero ms h = tt
sorted_take (suc n) [] h = tt
sorted_take (suc zero) (m ∷ ms) h = (tt, tt)
sorted_take (suc (suc n)) (m ∷ []) h = (tt, tt)
sorted_take (suc (suc n)) (m ∷ k ∷ ms) h = (h.0, sorted_take (suc n) (k ∷ ms) h.1)

first_take : (low n : ℕ) (ms : List Message) → low ≤ first_stamp ms → low ≤ never → low ≤ first_stamp (take n ms)
first_take low zero ms first top = top
first_take low (suc n) [] first top = top
first_take low (suc n) (m ∷ ms) first top = first

pub ready_start : {S R : Type 0} (valid : S → Type 0) (m : Meaning S) (undone : Turn → S → ℕ → Bag → R → S) (c : ℕ) (now : Moment S) (floor : ℕ) (es : List (Entry S R)) (lists : Lists) (before : ℕ) → IsKeptBy valid m undone c now floor es lists
    → IsReady valid m c now (take_while (λ (x : Message). nat_lt x.stamp before) lists.pending)
ready_start valid m undone c now floor es lists before kept =
    let n = prefix_len (λ (x : Message). nat_lt x.stamp before) lists.pending in
    let low = floor_after floor (shown es lists.consumed lists.sent) in
    let fit = (each_parts (CanTake c) lists.consumed lists.pending kept.fit).1 in
    let top = first_at_most c lists.pending fit in
    record {
      floor = low;
      stands = kept.standing;
      sorted = sorted_take n lists.pending (sorted_right lists.consumed lists.pending kept.sorted);
      takes = (each_parts (CanTake c) (take n lists.pending) (drop n lists.pending) (subst (Each (CanTake c)) (sym (take-append-drop n lists.pending)) fit)).0;
      from = first_take low n lists.pending kept.from (omega (arith, kept.from, top));
    }
