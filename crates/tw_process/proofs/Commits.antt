-- The oldest steps leave a history.
use Rattle.std.proofs.Common.{◌≡◌, ℕ, zero, suc, ◌+◌, ◌<◌, ◌≤◌, List, [], ◌∷◌, ◌++◌, length, drop, cond, refl, sym, ap, ◌∙◌, arith, length-drop}
use Rattle.std.specs.List.{AllByRecursion as Each, prefix_len}
use Rattle.std.specs.Prelude.{nat_lt, take_while, slice_index_or, remove}
use Rattle.std.proofs.lemmas.List.Folds.{length-prefix_len}
use Rattle.tw_atomic.specs.Atomic.{Bag, Meaning}
use Rattle.tw_atomic.specs.declared.Turn.{Turn}
use Rattle.tw_msgs.specs.declared.message.Message.{Message}
use Rattle.tw_theory.specs.Bundles.{first_stamp}
use Rattle.tw_theory.specs.Contents.{steps_before}
use Rattle.tw_theory.specs.Transitions.{Moment}
use Rattle.tw_theory.proofs.Elements.{each_parts}
use Rattle.tw_vtime.specs.Stamps.{never}
use Rattle.tw_process.specs.declared.entry.Entry.{Entry}
use Rattle.tw_lists.specs.Lists.{Lists, with_room, forgotten}
use Rattle.tw_process.specs.History.{shown, IsKeptBy}
use Rattle.tw_theory.specs.Standing.{CanTake}
use Rattle.tw_lists.proofs.Loops.{sorted_drop}
use Rattle.tw_process.proofs.Receipts.{floor_grows}

pub split_first : {A : Type 0} (xs ys : List A) (x : A) → x ≡ slice_index_or xs 0 x → ys ≡ remove xs 0 → 0 < length xs → xs ≡ x ∷ ys
split_first [] ys x first rest some = absurd (omega (arith, some))
split_first (y ∷ xs) ys x first rest some = λ i. sym first i ∷ sym rest i

each_drop : (P : Message → Type 0) (n : ℕ) (xs ys : List Message) → Each P (xs ++ ys) → Each P (drop n xs ++ ys)
each_drop P zero xs ys h = h
each_drop P (suc n) [] ys h = h
each_drop P (suc n) (x ∷ xs) ys h = each_drop P n xs ys h.1

pub first_at_most : (c : ℕ) (ms : List Message) → Each (CanTake c) ms → first_stamp ms ≤ never
first_at_most c [] h = omega arith
first_at_most c (m ∷ ms) h = let l = h.0.before_end in omega (arith, l)

module _ {S R : Type 0} (valid : S → Type 0) (m : Meaning S) (undone : Turn → S → ℕ → Bag → R → S) (c : ℕ) (now : Moment S) (floor : ℕ) (e : Entry S R) (es : List (Entry S R)) (lists : Lists) (kept : IsKeptBy valid m undone c now floor (e ∷ es) lists) where
  pub consumed_in : e.consumed ≤ length lists.consumed
  consumed_in = omega (arith, kept.consumed_is)

  pub sent_in : e.sent ≤ length lists.sent
  sent_in = omega (arith, kept.sent_is)

  pub stamp_small : e.step.done.stamp + 1 ≤ never
  stamp_small =
      let rest = shown es (drop e.consumed lists.consumed) (drop e.sent lists.sent) in
      let grows = floor_grows valid m (e.step.done.stamp + 1) rest kept.stood.3 in
      let top = first_at_most c lists.pending (each_parts (CanTake c) lists.consumed lists.pending kept.fit).1 in
      omega (arith, grows, kept.from, top)

  pub committed : (room spare : ℕ) → IsKeptBy valid m undone c now (e.step.done.stamp + 1) es (with_room room spare (forgotten e.consumed e.sent lists))
  committed room spare = record {
    linked = kept.linked.1;
    consumed_is = omega (arith, kept.consumed_is, length-drop e.consumed lists.consumed);
    sent_is = omega (arith, kept.sent_is, length-drop e.sent lists.sent);
    sorted = sorted_drop e.consumed lists.consumed lists.pending kept.sorted;
    fit = each_drop (CanTake c) e.consumed lists.consumed lists.pending kept.fit;
    stood = kept.stood.3;
    standing = kept.standing;
    from = kept.from;
  }

-- ---- How many stand before a stamp

counted : {S R : Type 0} (s : ℕ) (es : List (Entry S R)) (a c : List Message) → prefix_len (λ e. nat_lt e.step.done.stamp s) es ≡ steps_before s (shown es a c)
counted s [] a c = refl
counted s (e ∷ es) a c = ap (λ n. cond (nat_lt e.step.done.stamp s) n 0) (let ih = counted s es (drop e.consumed a) (drop e.sent c) in omega (arith, ih))

pub before_shown : {S R : Type 0} (s n : ℕ) (es seen : List (Entry S R)) (a c : List Message) → seen ≡ es → n ≡ length (take_while (λ e. nat_lt e.step.done.stamp s) seen) → n ≡ steps_before s (shown es a c)
before_shown {S} {R} s n es seen a c same is =
    is ∙ length-prefix_len (λ (e : Entry S R). nat_lt e.step.done.stamp s) seen ∙ ap (prefix_len (λ (e : Entry S R). nat_lt e.step.done.stamp s)) same ∙ counted s es a c
