-- What a process keeps as messages come and go.
use Rattle.std.proofs.Common.{◌≡◌, ℕ, ◌+◌, ◌<◌, ◌≤◌, List, [], ◌∷◌, sym, subst, arith}
use Rattle.std.specs.List.{AllByRecursion as Each}
use Rattle.tw_atomic.specs.Atomic.{Bag, Meaning}
use Rattle.tw_atomic.specs.declared.Turn.{Turn}
use Rattle.tw_msgs.specs.Messages.{Sorted, place, without}
use Rattle.tw_msgs.proofs.Messages.{place-Sorted}
use Rattle.tw_msgs.proofs.MessageLists.{without-Sorted}
use Rattle.tw_msgs.specs.declared.message.Message.{Message}
use Rattle.tw_msgs.specs.declared.message.Item.{Item}
use Rattle.tw_theory.specs.Bundles.{first_stamp}
use Rattle.tw_theory.specs.Contents.{consumed_by}
use Rattle.tw_theory.specs.LocalRun.{Step}
use Rattle.tw_theory.specs.Transitions.{Moment}
use Rattle.tw_theory.proofs.Elements.{each-append, each_parts, each-place, each-without, each_weaker}
use Rattle.tw_theory.proofs.Standing.{before_never}
use Rattle.tw_theory.proofs.MessageOrder.{first_of_place, first_of_without, sorted_join, sorted_right, ascending_of_sorted}
use Rattle.tw_process.specs.declared.entry.Entry.{Entry}
use Rattle.tw_lists.specs.Lists.{Lists, with_room, with_pending, without_pending}
use Rattle.tw_network.specs.Contents.{Contents as NetworkContents}
use Rattle.tw_process.proofs.Histories.{consumed_by_shown}
use Rattle.tw_process.specs.History.{shown, IsKeptBy, IsKept}
use Rattle.tw_theory.specs.Standing.{floor_after, CanTake}
use Rattle.tw_process.specs.History.{Stood}

module _ {S : Type 0} (valid : S → Type 0) (m : Meaning S) where
  pub floor_grows : (floor : ℕ) (steps : List (Step S)) → Stood valid m floor steps → floor ≤ floor_after floor steps
  floor_grows floor [] chain = omega arith
  floor_grows floor (x ∷ steps) chain = let rest = floor_grows (x.entry.stamp + 1) steps chain.3 in let le = chain.1 in omega (arith, rest, le)

  pub consumed_before : (floor : ℕ) (steps : List (Step S)) → Stood valid m floor steps → Each (λ x. x.stamp < floor_after floor steps) (consumed_by steps)
  consumed_before floor [] chain = tt
  consumed_before floor (x ∷ steps) chain =
      let high = floor_after (x.entry.stamp + 1) steps in
      let grows = floor_grows (x.entry.stamp + 1) steps chain.3 in
      each-append (λ y. y.stamp < high) x.consumed (consumed_by steps)
      (each_weaker (λ y. y.stamp ≡ x.entry.stamp) (λ y. y.stamp < high) (λ y is. omega (arith, is, grows)) x.consumed chain.2)
      (consumed_before (x.entry.stamp + 1) steps chain.3)

module _ {S R : Type 0} (valid : S → Type 0) (m : Meaning S) (undone : Turn → S → ℕ → Bag → R → S) (c : ℕ) (now : Moment S) (floor : ℕ) (es : List (Entry S R)) (old : Lists) (kept : IsKeptBy valid m undone c now floor es old) where
  -- other lists and rooms
  pub others_kept : (waiting : List Message) (outgoing : List Item) (owed : List Message) (room spare : ℕ) → IsKeptBy valid m undone c now floor es (record old { waiting = waiting; outgoing = outgoing; owed = owed; room = room; spare = spare })
  others_kept waiting outgoing owed room spare = record {
    linked = kept.linked;
    consumed_is = kept.consumed_is;
    sent_is = kept.sent_is;
    sorted = kept.sorted;
    fit = kept.fit;
    stood = kept.stood;
    standing = kept.standing;
    from = kept.from;
  }

  low : Each (λ x. x.stamp < floor_after floor (shown es old.consumed old.sent)) old.consumed
  low = subst (λ l. Each (λ x. x.stamp < floor_after floor (shown es old.consumed old.sent)) l) (consumed_by_shown es old.consumed old.sent kept.consumed_is) (consumed_before valid m floor (shown es old.consumed old.sent) kept.stood)

  -- other messages pending, in order and not before the floor
  pub pending_kept : (pending : List Message) (room spare : ℕ) → Sorted pending → Each (CanTake c) pending → floor_after floor (shown es old.consumed old.sent) ≤ first_stamp pending → IsKeptBy valid m undone c now floor es (record old { pending = pending; room = room; spare = spare })
  pending_kept pending room spare sorted fit from = record {
    linked = kept.linked;
    consumed_is = kept.consumed_is;
    sent_is = kept.sent_is;
    sorted = sorted_join old.consumed old.pending pending kept.sorted sorted (each_weaker (λ x. x.stamp < floor_after floor (shown es old.consumed old.sent)) (λ x. x.stamp < first_stamp pending) (λ x less. omega (arith, less, from)) old.consumed low);
    fit = each-append (CanTake c) old.consumed pending (each_parts (CanTake c) old.consumed old.pending kept.fit).0 fit;
    stood = kept.stood;
    standing = kept.standing;
    from = from;
  }

  pub put_kept : (x : Message) (room spare : ℕ) → (CanTake c) x → floor_after floor (shown es old.consumed old.sent) ≤ x.stamp → IsKeptBy valid m undone c now floor es (with_room room spare (with_pending x old))
  put_kept x room spare fits after =
      let fit = (each_parts (CanTake c) old.consumed old.pending kept.fit).1 in
      let sorted = sorted_right old.consumed old.pending kept.sorted in
      pending_kept (place x old.pending) room spare (place-Sorted x old.pending sorted) (each-place (CanTake c) x old.pending fits fit) (first_of_place (floor_after floor (shown es old.consumed old.sent)) x old.pending after kept.from)

  pub withdrawn_kept : (x : Message) (room spare : ℕ) → IsKeptBy valid m undone c now floor es (with_room room spare (without_pending x old))
  withdrawn_kept x room spare =
      let fit = (each_parts (CanTake c) old.consumed old.pending kept.fit).1 in
      let sorted = sorted_right old.consumed old.pending kept.sorted in
      pending_kept (without x old.pending) room spare (without-Sorted x old.pending sorted) (each-without (CanTake c) x old.pending fit) (first_of_without (floor_after floor (shown es old.consumed old.sent)) x old.pending (ascending_of_sorted old.pending (before_never c old.pending fit) sorted) kept.from)

-- other lists, whatever the model is
pub kept_with : {M S R : Type 0} (valid : M → S → Type 0) (meaning : M → Meaning S) (undone : M → Turn → S → ℕ → Bag → R → S) (network : NetworkContents M) (c : ℕ) (now : Moment S) (floor : ℕ) (es : List (Entry S R)) (old new goal : Lists) → IsKept valid meaning undone network c now floor es old
    → new ≡ goal → ((x : M) → IsKeptBy (valid x) (meaning x) (undone x) c now floor es old → IsKeptBy (valid x) (meaning x) (undone x) c now floor es goal) → IsKept valid meaning undone network c now floor es new
kept_with valid meaning undone network c now floor es old new goal kept is f = record {
  model = kept.model;
  there = kept.there;
  by = subst (λ l. IsKeptBy (valid kept.model) (meaning kept.model) (undone kept.model) c now floor es l) (sym is) (f kept.model kept.by);
}
