-- What the lists keep as messages come and go.
use Rattle.std.proofs.Common.{◌≡◌, ◌≢◌, ℕ, zero, suc, drop, length-drop, ◌+◌, ◌-◌, ◌==◌, ◌<◌, ◌≤◌, Bool, true, false, nat_le, List, [], ◌∷◌, ◌++◌, length, map, set, Some, None, refl, sym, ap, subst, ◌∙◌, inl, inr, arith, append-nil, length-append}
use Rattle.std.proofs.lemmas.Bool.{cases_eq, leb-true, cond-true, cond-false, le-leb}
use Rattle.std.proofs.lemmas.List.{map-append, length-set, get_or-set_same, get_or-set_other}
use Rattle.std.specs.Map.{lookup}
use Rattle.tw_pool.specs.Lists.{list_at, IsLive, without as without_node, with_item_last, AreDistinct, without_first}
use Rattle.tw_pool.proofs.ListsSeen.{lookup_lacks, lookup_found, lacks_left, without_found}
use Rattle.tw_pool.proofs.ListsByIndex.{item_is, item_live, lookup_other}
use Rattle.tw_heap.specs.Order.{insert_by}
use Rattle.tw_heap.specs.Entries.{Events, is_before, entry_of, message_of, without}
use Rattle.tw_heap.proofs.EntriesByIndex.{messages-insert, messages-without}
use Rattle.tw_msgs.specs.Messages.{Sorted, has}
use Rattle.tw_msgs.specs.declared.message.Message.{Message}
use Rattle.tw_msgs.specs.declared.message.Item.{Item}
use Rattle.tw_theory.specs.Bundles.{positive, anti}
use Rattle.tw_lists.specs.Lists.{with_pending, without_pending, without_orphan, forgotten}
use Rattle.tw_lists.specs.Nodes.{contents, spare_of, IsBelow, AreOf, IsKept, index_of}
use Rattle.tw_lists.specs.Lists.{Nodes, event, message_at, item_at}
use Rattle.tw_lists.proofs.NodeMoves.{below_more, node_of}
use Rattle.tw_lists.proofs.Signs.{map-drop, are_at, are_push, are_out, are_drop}
use Rattle.tw_lists.proofs.Counts.{insert-length, without-length}
use Rattle.tw_lists.proofs.Found.{Untouched}
use Rattle.tw_lists.proofs.Finding.{found_at, entry_has}

-- a heap with more room
pub roomy_kept : (lists : List Nodes) (heap new : Events) → IsKept lists heap → new.entries ≡ heap.entries → heap.room ≤ new.room → heap.top ≤ new.top → IsKept lists new
roomy_kept lists heap new kept entries room top =
    record {
      same = rw entries kept.same;
      count = ap length entries ∙ kept.count;
      consumed_below = below_more heap.top new.top (list_at lists 1) top kept.consumed_below;
      room = omega (arith, kept.room, room);
      signed = kept.signed;
    }

pub some_spare : (top : ℕ) (heap : Events) (n : ℕ) → top ≤ heap.top → n + 1 ≤ heap.room → 1 ≤ spare_of top heap n
some_spare top heap n below room = subst (λ x. 1 ≤ x) (sym (cond-true (nat_le top heap.top) (heap.room - n) 0 (le-leb top heap.top below))) (omega (arith, room))

pub record Spare (top : ℕ) (heap : Events) (n : ℕ) : Type 0 where
  pub below : top ≤ heap.top
  pub room : n + 1 ≤ heap.room

pub spare_means : (top : ℕ) (heap : Events) (n : ℕ) → 1 ≤ spare_of top heap n → Spare top heap n
spare_means top heap n some = go (nat_le top heap.top) refl
  where
    go : (b : Bool) → nat_le top heap.top ≡ b → Spare top heap n
    go true is = record { below = leb-true top heap.top is; room = (let k = subst (λ x. 1 ≤ x) (cond-true (nat_le top heap.top) (heap.room - n) 0 is) some in omega (arith, k)) }
    go false is = absurd (let k = subst (λ x. 1 ≤ x) (cond-false (nat_le top heap.top) (heap.room - n) 0 is) some in omega (arith, k))

-- a node that is pushed
pub record Pushed (lists now : List Nodes) (index : ℕ) (item : Item) : Type 0 where
  pub split : list_at now 0 ≡ list_at lists 0 ++ (index, item) ∷ []
  pub vacant : lookup (λ k. k == index) (list_at lists 0) ≡ None
  pub found : lookup (λ k. k == index) (list_at now 0) ≡ Some item
  pub others : (k : ℕ) → k ≢ 0 → list_at now k ≡ list_at lists k

pub pushed : (lists now : List Nodes) (index : ℕ) (item : Item) → length lists ≡ 6 → now ≡ with_item_last lists 0 (index, item) → AreDistinct now → Pushed lists now index item
pushed lists now index item six is distinct =
    let l = list_at lists 0 in
    let more = l ++ (index, item) ∷ [] in
    let split : list_at now 0 ≡ more = ap (λ ls. list_at ls 0) is ∙ get_or-set_same lists 0 more [] (omega (arith, six)) in
    let alone = distinct 0 l index item [] split in
    let lacks = lacks_left (Some index) l [] alone.0 in
    record {
      split = split;
      vacant = lookup_lacks index l lacks;
      found = ap (lookup (λ k. k == index)) split ∙ lookup_found index l item [] lacks;
      others = λ k not_zero. ap (λ ls. list_at ls k) is ∙ get_or-set_other lists 0 k more [] not_zero;
    }

pub record Put (lists now : List Nodes) (room spare room0 spare0 : ℕ) (heap new : Events) (m : Message) : Type 0 where
  pub kept : IsKept now new
  pub untouched : Untouched lists now
  pub contents_is : contents now room spare new.entries ≡ record (with_pending m (contents lists room0 spare0 heap.entries)) { room = room; spare = spare }

pub put_kept : (lists now : List Nodes) (room spare room0 spare0 : ℕ) (heap new : Events) (index : ℕ) (item : Item) → IsKept lists heap → item ≡ positive item.message → Pushed lists now index item
    → new.entries ≡ insert_by is_before (record { key = item.message; index = index }) heap.entries
    → entry_of index new.entries ≡ Some (record { key = item.message; index = index }) → ((other : ℕ) → other ≢ index → entry_of other new.entries ≡ entry_of other heap.entries)
    → length (list_at lists 1) ≤ new.room → new.top ≡ heap.top → Sorted (map message_of heap.entries) → Put lists now room spare room0 spare0 heap new item.message
put_kept lists now room spare room0 spare0 heap new index item kept sign push placed_is there others enough top sorted =
    let one_is = push.others 1 (λ e. omega (arith, e)) in
    record {
      kept = record {
        same = λ other.
            elim (cases_eq index other) [
              | inl eq ↦ subst (λ k. entry_of k new.entries ≡ event k (lookup (λ j. j == k) (list_at now 0))) eq (there ∙ sym (ap (event index) push.found))
              | inr differs ↦
                  others other (λ same. differs (sym same)) ∙ kept.same other
                  ∙ ap (λ l. event other (lookup (λ j. j == other) l)) (sym (append-nil (list_at lists 0)))
                  ∙ sym (ap (event other) (lookup_other index other item (list_at lists 0) [] differs))
                  ∙ sym (ap (λ l. event other (lookup (λ j. j == other) l)) push.split)
            ];
        count = omega (arith, ap length placed_is, insert-length (record { key = item.message; index = index }) heap.entries, kept.count, ap length push.split, length-append (list_at lists 0) ((index, item) ∷ []));
        consumed_below = subst (λ t. IsBelow t (list_at now 1)) (sym top) (subst (λ l. IsBelow heap.top l) (sym one_is) kept.consumed_below);
        room = subst (λ l. length l ≤ new.room) (sym one_is) enough;
        signed = record {
          pending = are_at positive (list_at lists 0 ++ (index, item) ∷ []) (list_at now 0) push.split (are_push positive (list_at lists 0) (index, item) kept.signed.pending sign);
          consumed = are_at positive (list_at lists 1) (list_at now 1) one_is kept.signed.consumed;
          sent = are_at anti (list_at lists 2) (list_at now 2) (push.others 2 (λ e. omega (arith, e))) kept.signed.sent;
          waiting = are_at anti (list_at lists 4) (list_at now 4) (push.others 4 (λ e. omega (arith, e))) kept.signed.waiting;
          owed = are_at anti (list_at lists 5) (list_at now 5) (push.others 5 (λ e. omega (arith, e))) kept.signed.owed;
        };
      };
      untouched = record { waiting = push.others 4 (λ e. omega (arith, e)); owed = push.others 5 (λ e. omega (arith, e)) };
      contents_is = λ i. record {
        pending = (ap (map message_of) placed_is ∙ messages-insert (record { key = item.message; index = index }) heap.entries sorted) i;
        consumed = map message_at (one_is i);
        sent = map message_at (push.others 2 (λ e. omega (arith, e)) i);
        outgoing = map item_at (push.others 3 (λ e. omega (arith, e)) i);
        waiting = map message_at (push.others 4 (λ e. omega (arith, e)) i);
        owed = map message_at (push.others 5 (λ e. omega (arith, e)) i);
        room = room;
        spare = spare;
      };
    }

-- a list without one node
pub record Less (lists now : List Nodes) (number : ℕ) (a b : Nodes) : Type 0 where
  pub left : list_at now number ≡ a ++ b
  pub others : (k : ℕ) → k ≢ number → list_at now k ≡ list_at lists k

pub less : (lists now : List Nodes) (number index : ℕ) (item : Item) (a b : Nodes) → number < length lists → AreDistinct lists → list_at lists number ≡ a ++ (index, item) ∷ b → now ≡ without_node index lists → Less lists now number a b
less lists now number index item a b within distinct split is =
    let alone = distinct number a index item b split in
    let gone : without_node index lists ≡ set lists number (a ++ b) = without_found index number lists a item b within split (lacks_left (Some index) a b alone.0) alone.1 in
    record {
      left = ap (λ ls. list_at ls number) (is ∙ gone) ∙ get_or-set_same lists number (a ++ b) [] within;
      others = λ k differs. ap (λ ls. list_at ls k) (is ∙ gone) ∙ get_or-set_other lists number k (a ++ b) [] differs;
    }

pub record Withdrawn (lists now : List Nodes) (room spare room0 spare0 : ℕ) (heap new : Events) (m : Message) : Type 0 where
  pub kept : IsKept now new
  pub untouched : Untouched lists now
  pub contents_is : contents now room spare new.entries ≡ record (without_pending m (contents lists room0 spare0 heap.entries)) { room = room; spare = spare }
  pub there : has m (map message_of heap.entries) ≡ true

-- what the heap has is in the pool
pub pending_live : (lists : List Nodes) (heap : Events) (index : ℕ) (m : Message) → IsKept lists heap → length lists ≡ 6 → AreDistinct lists → entry_of index heap.entries ≡ Some (record { key = m; index = index }) → IsLive index lists
pending_live lists heap index m kept six distinct entry =
    let at = node_of (list_at lists 0) (record { key = m; index = index }) heap.entries entry (kept.same index) in
    item_live lists index at.item (item_is lists index 0 at.item at.before at.behind distinct (omega (arith, six)) at.split)

pub found_live : (lists : List Nodes) (number index : ℕ) (m : Message) → number < length lists → AreDistinct lists → index_of m (list_at lists number) ≡ Some index → IsLive index lists
found_live lists number index m within distinct is =
    let at = found_at m (list_at lists number) index is in
    item_live lists index at.item (item_is lists index number at.item at.before at.behind distinct within at.split)

pub withdrawn_kept : (lists now : List Nodes) (room spare room0 spare0 : ℕ) (heap new : Events) (index : ℕ) (m : Message) → IsKept lists heap → length lists ≡ 6 → AreDistinct lists → Sorted (map message_of heap.entries) → entry_of index heap.entries ≡ Some (record { key = m; index = index })
    → now ≡ without_node index lists → new.entries ≡ without index heap.entries → entry_of index new.entries ≡ None → ((other : ℕ) → other ≢ index → entry_of other new.entries ≡ entry_of other heap.entries)
    → new.room ≡ heap.room + 1 → new.top ≡ heap.top → Withdrawn lists now room spare room0 spare0 heap new m
withdrawn_kept lists now room spare room0 spare0 heap new index m kept six distinct sorted entry now_is removed gone others more top =
    let at = node_of (list_at lists 0) (record { key = m; index = index }) heap.entries entry (kept.same index) in
    let a = at.before in
    let b = at.behind in
    let alone = distinct 0 a index at.item b at.split in
    let l = less lists now 0 index at.item a b (omega (arith, six)) distinct at.split now_is in
    let one = l.others 1 (λ e. omega (arith, e)) in
    record {
      kept = record {
        same = λ other.
            elim (cases_eq index other) [
              | inl eq ↦ subst (λ k. entry_of k new.entries ≡ event k (lookup (λ j. j == k) (a ++ b))) eq (gone ∙ sym (ap (event index) (lookup_lacks index (a ++ b) alone.0)))
              | inr differs ↦
                  others other (λ same. differs (sym same)) ∙ kept.same other
                  ∙ ap (λ l. event other (lookup (λ j. j == other) l)) at.split
                  ∙ ap (event other) (lookup_other index other at.item a b differs)
            ]
            ∙ sym (ap (λ l. event other (lookup (λ j. j == other) l)) l.left);
        count = omega (arith, ap length removed, without-length index (record { key = m; index = index }) heap.entries entry, kept.count, ap length at.split, length-append a ((index, at.item) ∷ b), ap length l.left, length-append a b);
        consumed_below = subst (λ t. IsBelow t (list_at now 1)) (sym top) (subst (λ x. IsBelow heap.top x) (sym one) kept.consumed_below);
        room = omega (arith, kept.room, more, ap length one);
        signed = record {
          pending = are_at positive (a ++ b) (list_at now 0) l.left (are_out positive a (index, at.item) b (subst (AreOf positive) at.split kept.signed.pending)).1;
          consumed = are_at positive (list_at lists 1) (list_at now 1) one kept.signed.consumed;
          sent = are_at anti (list_at lists 2) (list_at now 2) (l.others 2 (λ e. omega (arith, e))) kept.signed.sent;
          waiting = are_at anti (list_at lists 4) (list_at now 4) (l.others 4 (λ e. omega (arith, e))) kept.signed.waiting;
          owed = are_at anti (list_at lists 5) (list_at now 5) (l.others 5 (λ e. omega (arith, e))) kept.signed.owed;
        };
      };
      untouched = record { waiting = l.others 4 (λ e. omega (arith, e)); owed = l.others 5 (λ e. omega (arith, e)) };
      contents_is = λ i. record {
        pending = (ap (map message_of) removed ∙ messages-without index (record { key = m; index = index }) heap.entries sorted entry) i;
        consumed = map message_at (one i);
        sent = map message_at (l.others 2 (λ e. omega (arith, e)) i);
        outgoing = map item_at (l.others 3 (λ e. omega (arith, e)) i);
        waiting = map message_at (l.others 4 (λ e. omega (arith, e)) i);
        owed = map message_at (l.others 5 (λ e. omega (arith, e)) i);
        room = room;
        spare = spare;
      };
      there = entry_has m index heap.entries entry;
    }

pub record Cleared (lists now : List Nodes) (room spare room0 spare0 : ℕ) (heap : Events) (m : Message) : Type 0 where
  pub kept : IsKept now heap
  pub owed_stays : list_at now 5 ≡ list_at lists 5
  pub contents_is : contents now room spare heap.entries ≡ record (without_orphan m (contents lists room0 spare0 heap.entries)) { room = room; spare = spare }

pub cleared_kept : (lists now : List Nodes) (room spare room0 spare0 : ℕ) (heap : Events) (index : ℕ) (m : Message) → IsKept lists heap → length lists ≡ 6 → AreDistinct lists → index_of m (list_at lists 4) ≡ Some index
    → now ≡ without_node index lists → Cleared lists now room spare room0 spare0 heap m
cleared_kept lists now room spare room0 spare0 heap index m kept six distinct is now_is =
    let at = found_at m (list_at lists 4) index is in
    let l = less lists now 4 index at.item at.before at.behind (omega (arith, six)) distinct at.split now_is in
    let zero_is = l.others 0 (λ e. omega (arith, e)) in
    let one_is = l.others 1 (λ e. omega (arith, e)) in
    record {
      kept = record {
        same = rw zero_is kept.same;
        count = rw zero_is kept.count;
        consumed_below = rw one_is kept.consumed_below;
        room = rw one_is kept.room;
        signed = record {
          pending = are_at positive (list_at lists 0) (list_at now 0) zero_is kept.signed.pending;
          consumed = are_at positive (list_at lists 1) (list_at now 1) one_is kept.signed.consumed;
          sent = are_at anti (list_at lists 2) (list_at now 2) (l.others 2 (λ e. omega (arith, e))) kept.signed.sent;
          waiting = are_at anti (at.before ++ at.behind) (list_at now 4) l.left (are_out anti at.before (index, at.item) at.behind (subst (AreOf anti) at.split kept.signed.waiting)).1;
          owed = are_at anti (list_at lists 5) (list_at now 5) (l.others 5 (λ e. omega (arith, e))) kept.signed.owed;
        };
      };
      owed_stays = l.others 5 (λ e. omega (arith, e));
      contents_is = λ i. record {
        pending = map message_of heap.entries;
        consumed = map message_at (one_is i);
        sent = map message_at (l.others 2 (λ e. omega (arith, e)) i);
        outgoing = map item_at (l.others 3 (λ e. omega (arith, e)) i);
        waiting = (ap (map message_at) l.left ∙ at.removed) i;
        owed = map message_at (l.others 5 (λ e. omega (arith, e)) i);
        room = room;
        spare = spare;
      };
    }

pub record Waits (lists now : List Nodes) (room spare room0 spare0 : ℕ) (heap : Events) (m : Message) : Type 0 where
  pub kept : IsKept now heap
  pub contents_is : contents now room spare heap.entries ≡ record (contents lists room0 spare0 heap.entries) { waiting = map message_at (list_at lists 4) ++ m ∷ []; room = room; spare = spare }

pub waits_kept : (lists now : List Nodes) (room spare room0 spare0 : ℕ) (heap : Events) (index : ℕ) (item : Item) → IsKept lists heap → item ≡ anti item.message → length lists ≡ 6 → now ≡ with_item_last lists 4 (index, item) → Waits lists now room spare room0 spare0 heap item.message
waits_kept lists now room spare room0 spare0 heap index item kept sign six is =
    let more = list_at lists 4 ++ (index, item) ∷ [] in
    let four : list_at now 4 ≡ more = ap (λ ls. list_at ls 4) is ∙ get_or-set_same lists 4 more [] (omega (arith, six)) in
    let others = λ (k : ℕ) (differs : k ≢ 4). ap (λ ls. list_at ls k) is ∙ get_or-set_other lists 4 k more [] differs in
    let zero_is = others 0 (λ e. omega (arith, e)) in
    let one_is = others 1 (λ e. omega (arith, e)) in
    record {
      kept = record {
        same = rw zero_is kept.same;
        count = rw zero_is kept.count;
        consumed_below = rw one_is kept.consumed_below;
        room = rw one_is kept.room;
        signed = record {
          pending = are_at positive (list_at lists 0) (list_at now 0) zero_is kept.signed.pending;
          consumed = are_at positive (list_at lists 1) (list_at now 1) one_is kept.signed.consumed;
          sent = are_at anti (list_at lists 2) (list_at now 2) (others 2 (λ e. omega (arith, e))) kept.signed.sent;
          waiting = are_at anti more (list_at now 4) four (are_push anti (list_at lists 4) (index, item) kept.signed.waiting sign);
          owed = are_at anti (list_at lists 5) (list_at now 5) (others 5 (λ e. omega (arith, e))) kept.signed.owed;
        };
      };
      contents_is = λ i. record {
        pending = map message_of heap.entries;
        consumed = map message_at (one_is i);
        sent = map message_at (others 2 (λ e. omega (arith, e)) i);
        outgoing = map item_at (others 3 (λ e. omega (arith, e)) i);
        waiting = (ap (map message_at) four ∙ map-append message_at (list_at lists 4) ((index, item) ∷ [])) i;
        owed = map message_at (others 5 (λ e. omega (arith, e)) i);
        room = room;
        spare = spare;
      };
    }

-- one anti-message more waits
pub orphan_kept : (lists now : List Nodes) (heap : Events) (index : ℕ) (m : Message) → IsKept lists heap → length lists ≡ 6 → now ≡ with_item_last lists 4 (index, anti m) → IsKept now heap
orphan_kept lists now heap index m kept six added = (waits_kept lists now 0 0 0 0 heap index (anti m) kept refl six added).kept

below_drop : (top n : ℕ) (l : Nodes) → IsBelow top l → IsBelow top (drop n l)
below_drop top zero l h = h
below_drop top (suc n) [] h = tt
below_drop top (suc n) (x ∷ l) h = below_drop top n l h.1

pub record Forgotten (lists now : List Nodes) (n k room spare room0 spare0 : ℕ) (heap : Events) : Type 0 where
  pub kept : IsKept now heap
  pub untouched : Untouched lists now
  pub contents_is : contents now room spare heap.entries ≡ record (forgotten n k (contents lists room0 spare0 heap.entries)) { room = room; spare = spare }

pub sent_there : (lists : List Nodes) (n : ℕ) → list_at (without_first lists 1 n) 2 ≡ list_at lists 2
sent_there lists n = get_or-set_other lists 1 2 (drop n (list_at lists 1)) [] (λ e. omega (arith, e))

pub forgotten_kept : (lists now : List Nodes) (n k room spare room0 spare0 : ℕ) (heap : Events) → IsKept lists heap → length lists ≡ 6 → now ≡ without_first (without_first lists 1 n) 2 k → Forgotten lists now n k room spare room0 spare0 heap
forgotten_kept lists now n k room spare room0 spare0 heap kept six is =
    let l1 = list_at lists 1 in
    let l2 = list_at lists 2 in
    let mid = set lists 1 (drop n l1) in
    let long = length-set lists 1 (drop n l1) in
    let now_is : now ≡ set mid 2 (drop k l2) = is ∙ ap (λ l. set mid 2 (drop k l)) (sent_there lists n) in
    let one : list_at now 1 ≡ drop n l1 = ap (λ ls. list_at ls 1) now_is ∙ get_or-set_other mid 2 1 (drop k l2) [] (λ e. omega (arith, e)) ∙ get_or-set_same lists 1 (drop n l1) [] (omega (arith, six)) in
    let two : list_at now 2 ≡ drop k l2 = ap (λ ls. list_at ls 2) now_is ∙ get_or-set_same mid 2 (drop k l2) [] (omega (arith, six, long)) in
    let others = λ (j : ℕ) (a : j ≢ 1) (b : j ≢ 2). ap (λ ls. list_at ls j) now_is ∙ get_or-set_other mid 2 j (drop k l2) [] b ∙ get_or-set_other lists 1 j (drop n l1) [] a in
    let zero_is = others 0 (λ e. omega (arith, e)) (λ e. omega (arith, e)) in
    record {
      kept = record {
        same = rw zero_is kept.same;
        count = rw zero_is kept.count;
        consumed_below = subst (λ l. IsBelow heap.top l) (sym one) (below_drop heap.top n l1 kept.consumed_below);
        room = omega (arith, ap length one, length-drop n l1, kept.room);
        signed = record {
          pending = are_at positive (list_at lists 0) (list_at now 0) zero_is kept.signed.pending;
          consumed = are_at positive (drop n l1) (list_at now 1) one (are_drop positive n l1 kept.signed.consumed);
          sent = are_at anti (drop k l2) (list_at now 2) two (are_drop anti k l2 kept.signed.sent);
          waiting = are_at anti (list_at lists 4) (list_at now 4) (others 4 (λ e. omega (arith, e)) (λ e. omega (arith, e))) kept.signed.waiting;
          owed = are_at anti (list_at lists 5) (list_at now 5) (others 5 (λ e. omega (arith, e)) (λ e. omega (arith, e))) kept.signed.owed;
        };
      };
      untouched = record { waiting = others 4 (λ e. omega (arith, e)) (λ e. omega (arith, e)); owed = others 5 (λ e. omega (arith, e)) (λ e. omega (arith, e)) };
      contents_is = λ i. record {
        pending = map message_of heap.entries;
        consumed = (ap (map message_at) one ∙ map-drop message_at n l1) i;
        sent = (ap (map message_at) two ∙ map-drop message_at k l2) i;
        outgoing = map item_at (others 3 (λ e. omega (arith, e)) (λ e. omega (arith, e)) i);
        waiting = map message_at (others 4 (λ e. omega (arith, e)) (λ e. omega (arith, e)) i);
        owed = map message_at (others 5 (λ e. omega (arith, e)) (λ e. omega (arith, e)) i);
        room = room;
        spare = spare;
      };
    }
