-- What the lists keep as messages are sent, and as they are cancelled.
use Rattle.std.proofs.Common.{◌≡◌, ◌≢◌, ℕ, ◌-◌, List, [], ◌∷◌, ◌++◌, length, map, set, take, drop, refl, sym, ap, ◌∙◌, arith, Result, Ok, Err, IfOk, OnOk, IsOk}
use Rattle.std.proofs.lemmas.List.{map-append, length-map, length-set, get_or-set_same, get_or-set_other}
use Rattle.tw_pool.specs.Lists.{list_at, with_item_last, with_last_moved}
use Rattle.tw_heap.specs.Entries.{Events, message_of}
use Rattle.tw_msgs.specs.declared.message.Message.{Message}
use Rattle.tw_theory.specs.Bundles.{anti, positive}
use Rattle.tw_theory.specs.Contents.{Cancel, Aggressive, Lazy}
use Rattle.tw_lists.specs.Lists.{cancelled, with_sent}
use Rattle.tw_lists.specs.Nodes.{contents, spare_of, IsKept, AreOf}
use Rattle.tw_lists.specs.Lists.{Nodes, message_at, item_at}
use Rattle.tw_lists.proofs.Found.{Untouched}
use Rattle.tw_lists.proofs.Signs.{map-take, map-drop, are_at, are_append, are_push, are_take, are_drop}

-- the lists after a change of the sent, the outgoing and the owed ones
pub record Changed (lists now : List Nodes) (sent outgoing owed : Nodes) : Type 0 where
  pub count : length now ≡ length lists
  pub sent_is : list_at now 2 ≡ sent
  pub outgoing_is : list_at now 3 ≡ outgoing
  pub owed_is : list_at now 5 ≡ owed
  pub others : (k : ℕ) → k ≢ 2 → k ≢ 3 → k ≢ 5 → list_at now k ≡ list_at lists k

pub changed : (lists now : List Nodes) (sent outgoing : Nodes) → length lists ≡ 6 → now ≡ set (set lists 2 sent) 3 outgoing → Changed lists now sent outgoing (list_at lists 5)
changed lists now sent outgoing six is =
    let mid = set lists 2 sent in
    record {
      count = ap length is ∙ length-set mid 3 outgoing ∙ length-set lists 2 sent;
      sent_is = ap (λ ls. list_at ls 2) is ∙ get_or-set_other mid 3 2 outgoing [] (λ e. omega (arith, e)) ∙ get_or-set_same lists 2 sent [] (omega (arith, six));
      outgoing_is = ap (λ ls. list_at ls 3) is ∙ get_or-set_same mid 3 outgoing [] (omega (arith, six, length-set lists 2 sent));
      owed_is = ap (λ ls. list_at ls 5) is ∙ get_or-set_other mid 3 5 outgoing [] (λ e. omega (arith, e)) ∙ get_or-set_other lists 2 5 sent [] (λ e. omega (arith, e));
      others = λ k two three _. ap (λ ls. list_at ls k) is ∙ get_or-set_other mid 3 k outgoing [] three ∙ get_or-set_other lists 2 k sent [] two;
    }

pub changed_kept : (lists now : List Nodes) (sent outgoing owed : Nodes) (heap : Events) → IsKept lists heap → Changed lists now sent outgoing owed → AreOf anti sent → AreOf anti owed → IsKept now heap
changed_kept lists now sent outgoing owed heap kept is sents oweds =
    let zero_is = is.others 0 (λ e. omega (arith, e)) (λ e. omega (arith, e)) (λ e. omega (arith, e)) in
    let one_is = is.others 1 (λ e. omega (arith, e)) (λ e. omega (arith, e)) (λ e. omega (arith, e)) in
    record {
      same = rw zero_is kept.same;
      count = rw zero_is kept.count;
      consumed_below = rw one_is kept.consumed_below;
      room = rw one_is kept.room;
      signed = record {
        pending = are_at positive (list_at lists 0) (list_at now 0) zero_is kept.signed.pending;
        consumed = are_at positive (list_at lists 1) (list_at now 1) one_is kept.signed.consumed;
        sent = are_at anti sent (list_at now 2) is.sent_is sents;
        waiting = are_at anti (list_at lists 4) (list_at now 4) (is.others 4 (λ e. omega (arith, e)) (λ e. omega (arith, e)) (λ e. omega (arith, e))) kept.signed.waiting;
        owed = are_at anti owed (list_at now 5) is.owed_is oweds;
      };
    }

pub changed_contents : (lists now : List Nodes) (sent outgoing owed : Nodes) (room spare : ℕ) (heap : Events) → Changed lists now sent outgoing owed → contents now room spare heap.entries ≡ record { pending = map message_of heap.entries; consumed = map message_at (list_at lists 1); sent = map message_at sent; outgoing = map item_at outgoing; waiting = map message_at (list_at lists 4); owed = map message_at owed; room = room; spare = spare }
changed_contents lists now sent outgoing owed room spare heap is =
    λ i. record {
      pending = map message_of heap.entries;
      consumed = map message_at (is.others 1 (λ e. omega (arith, e)) (λ e. omega (arith, e)) (λ e. omega (arith, e)) i);
      sent = map message_at (is.sent_is i);
      outgoing = map item_at (is.outgoing_is i);
      waiting = map message_at (is.others 4 (λ e. omega (arith, e)) (λ e. omega (arith, e)) (λ e. omega (arith, e)) i);
      owed = map message_at (is.owed_is i);
      room = room;
      spare = spare;
    }

pub record Cancelled (way : Cancel) (lists now : List Nodes) (n room top top' : ℕ) (heap : Events) : Type 0 where
  pub kept : IsKept now heap
  pub contents_is : contents now room (spare_of top' heap (length (list_at now 1))) heap.entries ≡ cancelled way n (contents lists room (spare_of top heap (length (list_at lists 1))) heap.entries)

pub cancelled_kept : (lists now : List Nodes) (n room top top' : ℕ) (heap : Events) → IsKept lists heap → length lists ≡ 6 → now ≡ with_last_moved lists 2 n 3 → top' ≡ top → Cancelled Aggressive lists now n room top top' heap
cancelled_kept lists now n room top top' heap kept six is tops =
    let l = list_at lists 2 in
    let k = length l - n in
    let three : list_at (set lists 2 (take k l)) 3 ≡ list_at lists 3 = get_or-set_other lists 2 3 (take k l) [] (λ e. omega (arith, e)) in
    let change = changed lists now (take k l) (list_at lists 3 ++ drop k l) six (is ∙ ap (λ x. set (set lists 2 (take k l)) 3 (x ++ drop k l)) three) in
    let count : k ≡ length (map message_at l) - n = ap (λ x. x - n) (sym (length-map l message_at)) in
    let one = change.others 1 (λ e. omega (arith, e)) (λ e. omega (arith, e)) (λ e. omega (arith, e)) in
    record {
      kept = changed_kept lists now (take k l) (list_at lists 3 ++ drop k l) (list_at lists 5) heap kept change
          (are_take anti k l kept.signed.sent) kept.signed.owed;
      contents_is =
          changed_contents lists now (take k l) (list_at lists 3 ++ drop k l) (list_at lists 5) room (spare_of top' heap (length (list_at now 1))) heap change
          ∙ (λ i. record {
            pending = map message_of heap.entries;
            consumed = map message_at (list_at lists 1);
            sent = (map-take message_at k l ∙ ap (λ x. take x (map message_at l)) count) i;
            outgoing = (map-append item_at (list_at lists 3) (drop k l)
                ∙ ap (λ x. map item_at (list_at lists 3) ++ x) (map-drop item_at k l ∙ ap (drop k) kept.signed.sent ∙ sym (map-drop anti k (map message_at l)) ∙ ap (λ x. map anti (drop x (map message_at l))) count)) i;
            waiting = map message_at (list_at lists 4);
            owed = map message_at (list_at lists 5);
            room = room;
            spare = spare_of (tops i) heap (length (one i));
          });
    }

-- the last n sent nodes are owed
owing_now : (lists now : List Nodes) (sent owed : Nodes) → length lists ≡ 6 → now ≡ set (set lists 2 sent) 5 owed → Changed lists now sent (list_at lists 3) owed
owing_now lists now sent owed six is =
    let mid = set lists 2 sent in
    record {
      count = ap length is ∙ length-set mid 5 owed ∙ length-set lists 2 sent;
      sent_is = ap (λ ls. list_at ls 2) is ∙ get_or-set_other mid 5 2 owed [] (λ e. omega (arith, e)) ∙ get_or-set_same lists 2 sent [] (omega (arith, six));
      outgoing_is = ap (λ ls. list_at ls 3) is ∙ get_or-set_other mid 5 3 owed [] (λ e. omega (arith, e)) ∙ get_or-set_other lists 2 3 sent [] (λ e. omega (arith, e));
      owed_is = ap (λ ls. list_at ls 5) is ∙ get_or-set_same mid 5 owed [] (omega (arith, six, length-set lists 2 sent));
      others = λ k two _ last. ap (λ ls. list_at ls k) is ∙ get_or-set_other mid 5 k owed [] last ∙ get_or-set_other lists 2 k sent [] two;
    }

pub owed_kept : (lists now : List Nodes) (n room top top' : ℕ) (heap : Events) → IsKept lists heap → length lists ≡ 6 → now ≡ with_last_moved lists 2 n 5 → top' ≡ top → Cancelled Lazy lists now n room top top' heap
owed_kept lists now n room top top' heap kept six is tops =
    let l = list_at lists 2 in
    let k = length l - n in
    let last : list_at (set lists 2 (take k l)) 5 ≡ list_at lists 5 = get_or-set_other lists 2 5 (take k l) [] (λ e. omega (arith, e)) in
    let change = owing_now lists now (take k l) (list_at lists 5 ++ drop k l) six (is ∙ ap (λ x. set (set lists 2 (take k l)) 5 (x ++ drop k l)) last) in
    let count : k ≡ length (map message_at l) - n = ap (λ x. x - n) (sym (length-map l message_at)) in
    let one = change.others 1 (λ e. omega (arith, e)) (λ e. omega (arith, e)) (λ e. omega (arith, e)) in
    record {
      kept = changed_kept lists now (take k l) (list_at lists 3) (list_at lists 5 ++ drop k l) heap kept change
          (are_take anti k l kept.signed.sent)
          (are_append anti (list_at lists 5) (drop k l) kept.signed.owed (are_drop anti k l kept.signed.sent));
      contents_is =
          changed_contents lists now (take k l) (list_at lists 3) (list_at lists 5 ++ drop k l) room (spare_of top' heap (length (list_at now 1))) heap change
          ∙ (λ i. record {
            pending = map message_of heap.entries;
            consumed = map message_at (list_at lists 1);
            sent = (map-take message_at k l ∙ ap (λ x. take x (map message_at l)) count) i;
            outgoing = map item_at (list_at lists 3);
            waiting = map message_at (list_at lists 4);
            owed = (map-append message_at (list_at lists 5) (drop k l)
                ∙ ap (λ x. map message_at (list_at lists 5) ++ x) (map-drop message_at k l ∙ ap (λ x. drop x (map message_at l)) count)) i;
            room = room;
            spare = spare_of (tops i) heap (length (one i));
          });
    }

-- where a push gave an index
pub added : {E : Type 0} (Q : ℕ → Type 0) (r : Result ℕ E) → IfOk r Q → IsOk r → (index : ℕ) × Q index
added Q (Ok index) held ok = (index, held)
added Q (Err e) held ok = absurd (cc)

pub on_ok : {T E : Type 0} (P : Type 0) (r : Result T E) → OnOk r P → IsOk r → P
on_ok P (Ok x) held ok = held
on_ok P (Err e) held ok = absurd (cc)

pub record Sent (lists now : List Nodes) (room spare : ℕ) (m : Message) (spare0 room0 : ℕ) (heap : Events) : Type 0 where
  pub kept : IsKept now heap
  pub untouched : Untouched lists now
  pub contents_is : contents now room spare heap.entries ≡ record (with_sent m (contents lists room0 spare0 heap.entries)) { room = room; spare = spare }

pub sent_kept : (lists mid now : List Nodes) (room spare room0 spare0 : ℕ) (i j : ℕ) (m : Message) (heap : Events) → IsKept lists heap → length lists ≡ 6 → mid ≡ with_item_last lists 2 (i, anti m) → now ≡ with_item_last mid 3 (j, positive m) → Sent lists now room spare m spare0 room0 heap
sent_kept lists mid now room spare room0 spare0 i j m heap kept six first second =
    let sent = list_at lists 2 ++ (i, anti m) ∷ [] in
    let three : list_at mid 3 ≡ list_at lists 3 = ap (λ ls. list_at ls 3) first ∙ get_or-set_other lists 2 3 sent [] (λ e. omega (arith, e)) in
    let outgoing = list_at lists 3 ++ (j, positive m) ∷ [] in
    let change = changed lists now sent outgoing six (second ∙ (λ k. set (first k) 3 (three k ++ (j, positive m) ∷ []))) in
    record {
      kept = changed_kept lists now sent outgoing (list_at lists 5) heap kept change
          (are_push anti (list_at lists 2) (i, anti m) kept.signed.sent refl) kept.signed.owed;
      untouched = record { waiting = change.others 4 (λ e. omega (arith, e)) (λ e. omega (arith, e)) (λ e. omega (arith, e)); owed = change.owed_is };
      contents_is =
          changed_contents lists now sent outgoing (list_at lists 5) room spare heap change
          ∙ (λ k. record {
            pending = map message_of heap.entries;
            consumed = map message_at (list_at lists 1);
            sent = map-append message_at (list_at lists 2) ((i, anti m) ∷ []) k;
            outgoing = map-append item_at (list_at lists 3) ((j, positive m) ∷ []) k;
            waiting = map message_at (list_at lists 4);
            owed = map message_at (list_at lists 5);
            room = room;
            spare = spare;
          });
    }
