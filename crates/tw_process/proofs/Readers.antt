-- What is read of a history: how many messages its steps consumed and sent, where it ends, and what the pool holds.
use Rattle.std.proofs.Common.{◌≡◌, ℕ, ◌+◌, ◌<◌, ◌≤◌, Bool, true, false, List, [], ◌∷◌, length, map, drop, Option, Some, None, refl, ap, subst, sym, ◌∙◌, arith, length-drop, length-take-le}
use Rattle.std.specs.Option.{option_map}
use Rattle.std.specs.Prelude.{◌↔◌, nat_le, nat_lt, slice_get}
use Rattle.std.proofs.lemmas.Bool.{ltb-true, ltb-false, leb-true, lt-ltb, le-leb}
use Rattle.std.proofs.lemmas.Option.{slice_get-map}
use Rattle.tw_lists.specs.Lists.{Lists, Nodes, PoolHolds}
use Rattle.tw_msgs.specs.declared.message.Message.{Message}
use Rattle.tw_process.specs.History.{shown, total_consumed, total_sent}
use Rattle.tw_process.specs.Process.{consumed_in, sent_in, last_stamp_of}
use Rattle.tw_process.specs.declared.entry.Entry.{Entry}
use Rattle.tw_process.proofs.Between.{records_shown}
use Rattle.tw_process.proofs.Histories.{consumed_by_shown, sent_by_shown}
use Rattle.tw_theory.specs.Contents.{consumed_by, records_of, sent_by}
use Rattle.tw_theory.specs.LocalRun.{Step}
use Rattle.tw_theory.specs.Standing.{floor_after}

module _ {S R : Type 0} where
  pub consumed_counts : (es : List (Entry S R)) (a c : List Message) → total_consumed es ≡ length a → map consumed_in (shown es a c) ≡ map (λ (e : Entry S R). e.consumed) es
  consumed_counts [] a c is = refl
  consumed_counts (e ∷ es) a c is =
      let rest = consumed_counts es (drop e.consumed a) (drop e.sent c) (omega (arith, is, length-drop e.consumed a)) in
      let one = length-take-le e.consumed a (omega (arith, is)) in
      λ i. one i ∷ rest i

  pub sent_counts : (es : List (Entry S R)) (a c : List Message) → total_sent es ≡ length c → map sent_in (shown es a c) ≡ map (λ (e : Entry S R). e.sent) es
  sent_counts [] a c is = refl
  sent_counts (e ∷ es) a c is =
      let rest = sent_counts es (drop e.consumed a) (drop e.sent c) (omega (arith, is, length-drop e.sent c)) in
      let one = length-take-le e.sent c (omega (arith, is)) in
      λ i. one i ∷ rest i

  pub consumed_read : (es : List (Entry S R)) (a c : List Message) (i : ℕ) (found : Option (Entry S R)) → total_consumed es ≡ length a → slice_get es i ≡ found → option_map consumed_in (slice_get (shown es a c) i) ≡ option_map (λ (e : Entry S R). e.consumed) found
  consumed_read es a c i found is at =
      sym (slice_get-map consumed_in (shown es a c) i) ∙ ap (λ l. slice_get l i) (consumed_counts es a c is) ∙ slice_get-map (λ (e : Entry S R). e.consumed) es i ∙ ap (option_map (λ (e : Entry S R). e.consumed)) at

  pub sent_read : (es : List (Entry S R)) (a c : List Message) (i : ℕ) (found : Option (Entry S R)) → total_sent es ≡ length c → slice_get es i ≡ found → option_map sent_in (slice_get (shown es a c) i) ≡ option_map (λ (e : Entry S R). e.sent) found
  sent_read es a c i found is at =
      sym (slice_get-map sent_in (shown es a c) i) ∙ ap (λ l. slice_get l i) (sent_counts es a c is) ∙ slice_get-map (λ (e : Entry S R). e.sent) es i ∙ ap (option_map (λ (e : Entry S R). e.sent)) at

  pub record_read : (es : List (Entry S R)) (a c : List Message) (i : ℕ) (e : Entry S R) → slice_get es i ≡ Some e → slice_get (records_of (shown es a c)) i ≡ Some e.step.done
  record_read es a c i e at = ap (λ l. slice_get l i) (records_shown es a c) ∙ slice_get-map (λ (x : Entry S R). x.step.done) es i ∙ ap (option_map (λ (x : Entry S R). x.step.done)) at

  pub pooled : (es : List (Entry S R)) (lists : Lists) (nodes : List Nodes) → total_consumed es ≡ length lists.consumed → total_sent es ≡ length lists.sent
      → PoolHolds lists.pending lists.consumed lists.sent lists.outgoing lists.waiting lists.owed nodes
      → PoolHolds lists.pending (consumed_by (shown es lists.consumed lists.sent)) (sent_by (shown es lists.consumed lists.sent)) lists.outgoing lists.waiting lists.owed nodes
  pooled es lists nodes consumed sent holds =
      let a = consumed_by_shown es lists.consumed lists.sent consumed in
      let c = sent_by_shown es lists.consumed lists.sent sent in
      subst (λ l. PoolHolds lists.pending l (sent_by (shown es lists.consumed lists.sent)) lists.outgoing lists.waiting lists.owed nodes) (sym a)
      (subst (λ l. PoolHolds lists.pending lists.consumed l lists.outgoing lists.waiting lists.owed nodes) (sym c) holds)

-- no element is at this place
pub past_of : (i n : ℕ) → (i < n → false ≡ true) → n ≤ i
past_of i n over = go (nat_lt i n) refl
  where
    go : (b : Bool) → nat_lt i n ≡ b → n ≤ i
    go true is = absurd (let both = over (ltb-true i n is) in cc both)
    go false is = ltb-false i n is

-- ---- Where a history ends

module _ {S : Type 0} where
  some_last : (x : Step S) (steps : List (Step S)) → last_stamp_of (x ∷ steps) ≡ None → ⊥
  some_last x [] none = cc none
  some_last x (y ∷ steps) none = some_last y steps none

  pub floor_none : (floor : ℕ) (steps : List (Step S)) → last_stamp_of steps ≡ None → floor_after floor steps ≡ floor
  floor_none floor [] none = refl
  floor_none floor (x ∷ steps) none = absurd (some_last x steps none)

  pub floor_some : (floor s : ℕ) (steps : List (Step S)) → last_stamp_of steps ≡ Some s → floor_after floor steps ≡ s + 1
  floor_some floor s [] is = absurd (cc)
  floor_some floor s (x ∷ []) is = let same : x.entry.stamp ≡ s = cc in ap (λ n. n + 1) same
  floor_some floor s (x ∷ y ∷ steps) is = floor_some (x.entry.stamp + 1) s (y ∷ steps) is

  -- a stamp after the last step, or from the floor on where there is no step
  pub past_some : (floor last stamp : ℕ) (steps : List (Step S)) (b : Bool) → last_stamp_of steps ≡ Some last → b ≡ nat_lt last stamp → (b ≡ true) ↔ (floor_after floor steps ≤ stamp)
  past_some floor last stamp steps b is value =
      let end = floor_some floor last steps is in (
        (λ yes. let less = ltb-true last stamp (sym value ∙ yes) in omega (arith, end, less)),
        (λ le. value ∙ lt-ltb last stamp (omega (arith, end, le))),
      )

  pub past_none : (floor stamp : ℕ) (steps : List (Step S)) (b : Bool) → last_stamp_of steps ≡ None → b ≡ nat_le floor stamp → (b ≡ true) ↔ (floor_after floor steps ≤ stamp)
  past_none floor stamp steps b none value =
      let end = floor_none floor steps none in (
        (λ yes. let le = leb-true floor stamp (sym value ∙ yes) in omega (arith, end, le)),
        (λ le. value ∙ le-leb floor stamp (omega (arith, end, le))),
      )
