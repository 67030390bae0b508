-- What the lists keep, as a node moves from one of them to another.
use Rattle.std.proofs.Common.{◌≡◌, ◌≢◌, ℕ, ◌+◌, ◌-◌, ◌==◌, ◌<◌, ◌≤◌, nat_le, true, List, [], ◌∷◌, ◌++◌, length, map, drop, Option, Some, None, is_some, cond, refl, sym, ap, subst, ◌∙◌, inl, inr, arith, length-append, append-nil}
use Rattle.std.proofs.lemmas.Bool.{cases_eq}
use Rattle.std.proofs.lemmas.List.{map-append}
use Rattle.std.proofs.lemmas.Option.{same_Some}
use Rattle.std.specs.Map.{lookup}
use Rattle.tw_pool.specs.Lists.{list_at, item_of, IsLive, first_of, backward, without as without_node, with_item_last, AreDistinct}
use Rattle.tw_pool.proofs.ListsSeen.{stands, lookup_lacks, lookup_found}
use Rattle.tw_pool.proofs.ListsByIndex.{moved, item_is, item_live, lookup_other, last_of}
use Rattle.tw_heap.specs.declared.entries.Entry.{Entry}
use Rattle.tw_heap.specs.Order.{insert_by}
use Rattle.tw_heap.specs.Entries.{Events, is_before, entry_of, without, message_of}
use Rattle.tw_heap.proofs.EntriesByIndex.{entry_of-first, without-first, messages-insert}
use Rattle.tw_msgs.specs.Messages.{Sorted}
use Rattle.tw_msgs.proofs.Messages.{place-first}
use Rattle.tw_msgs.specs.declared.message.Item.{Item}
use Rattle.tw_theory.specs.Bundles.{positive, anti}
use Rattle.tw_lists.specs.Lists.{first_consumed, restored}
use Rattle.tw_lists.specs.Nodes.{contents, spare_of, IsBelow, AreOf, IsKept}
use Rattle.tw_lists.specs.Lists.{Nodes, event, message_at, item_at}
use Rattle.tw_lists.proofs.Counts.{insert-length}
use Rattle.tw_lists.proofs.Found.{Untouched}
use Rattle.tw_lists.proofs.Ends.{last_off}
use Rattle.tw_lists.proofs.Signs.{are_at, are_push, are_out}

pub below_out : (top : ℕ) (a : Nodes) (node : ℕ × Item) (b : Nodes) → IsBelow top (a ++ node ∷ b) → (node.0 < top) × IsBelow top (a ++ b)
below_out top [] node b below = below
below_out top (n ∷ a) node b below = let rest = below_out top a node b below.1 in (rest.0, (below.0, rest.1))

pub below_end : (top : ℕ) (a : Nodes) (node : ℕ × Item) → IsBelow top a → node.0 < top → IsBelow top (a ++ node ∷ [])
below_end top [] node below less = (less, tt)
below_end top (n ∷ a) node below less = (below.0, below_end top a node below.1 less)

pub below_more : (top more : ℕ) (l : Nodes) → top ≤ more → IsBelow top l → IsBelow more l
below_more top more [] less below = tt
below_more top more (n ∷ l) less below = (omega (arith, below.0, less), below_more top more l less below.1)

-- as much is spare, where as much came as went
pub same_spare : (top top' : ℕ) (heap new : Events) (n n' : ℕ) → top' ≡ top → new.top ≡ heap.top → new.room - n' ≡ heap.room - n → spare_of top' new n' ≡ spare_of top heap n
same_spare top top' heap new n n' a b c = λ i. cond (nat_le (a i) (b i)) (c i) 0

-- ---- The first event

-- the node of an event
pub record NodeOf (nodes : Nodes) (e : Entry) : Type 0 where
  pub item : Item
  pub before : Nodes
  pub behind : Nodes
  pub split : nodes ≡ before ++ (e.index, item) ∷ behind
  pub key : item.message ≡ e.key

some_event : (index : ℕ) (found : Option Item) (e : Entry) → Some e ≡ event index found → is_some found ≡ true
some_event index None e is = absurd (cc)
some_event index (Some item) e is = refl

event_key : (index : ℕ) (item : Item) (e : Entry) → Some e ≡ event index (Some item) → item.message ≡ e.key
event_key index item e is = let same : record { key = item.message; index = index } ≡ e = cc in ap (λ x. x.key) same

pub node_of : (nodes : Nodes) (e : Entry) (entries : List Entry) → entry_of e.index entries ≡ Some e → entry_of e.index entries ≡ event e.index (lookup (λ k. k == e.index) nodes) → NodeOf nodes e
node_of nodes e entries is same =
    let at = stands e.index nodes (some_event e.index (lookup (λ k. k == e.index) nodes) e (sym is ∙ same)) in
    record {
      item = at.item;
      before = at.before;
      behind = at.behind;
      split = at.split;
      key = event_key e.index at.item e (sym is ∙ same ∙ ap (event e.index) at.found);
    }

pub record Consumed (lists now : List Nodes) (room top top' : ℕ) (heap new : Events) : Type 0 where
  pub kept : IsKept now new
  pub untouched : Untouched lists now
  pub contents_is : contents now room (spare_of top' new (length (list_at now 1))) new.entries ≡ first_consumed (contents lists room (spare_of top heap (length (list_at lists 1))) heap.entries)

pub consumed_kept : (lists now : List Nodes) (room top top' : ℕ) (heap new : Events) (e : Entry) (es : List Entry) → IsKept lists heap → length lists ≡ 6 → AreDistinct lists → heap.entries ≡ e ∷ es
    → ((item : Item) → item_of e.index lists ≡ Some item → now ≡ with_item_last (without_node e.index lists) 1 (e.index, item)) → top' ≡ top
    → e.index < heap.top
    → new.entries ≡ without e.index heap.entries → entry_of e.index new.entries ≡ None → ((other : ℕ) → other ≢ e.index → entry_of other new.entries ≡ entry_of other heap.entries)
    → new.room ≡ heap.room + 1 → new.top ≡ heap.top → Consumed lists now room top top' heap new
consumed_kept lists now room top top' heap new e es kept six distinct first relinked tops inside removed gone others more same_top =
    let found : entry_of e.index heap.entries ≡ Some e = ap (entry_of e.index) first ∙ entry_of-first e es in
    let at = node_of (list_at lists 0) e heap.entries found (kept.same e.index) in
    let a = at.before in
    let b = at.behind in
    let item = at.item in
    let now_is = relinked item (item_is lists e.index 0 item a b distinct (omega (arith, six)) at.split) in
    let move = moved lists now 0 1 e.index item a b (λ e. omega (arith, e)) (omega (arith, six)) (omega (arith, six)) distinct at.split now_is in
    let alone = distinct 0 a e.index item b at.split in
    let out = are_out positive a (e.index, item) b (subst (AreOf positive) at.split kept.signed.pending) in
    let rest : new.entries ≡ es = removed ∙ ap (without e.index) first ∙ without-first e es in
    let longer : length (list_at now 1) ≡ length (list_at lists 1) + 1 = omega (arith, ap length move.came, length-append (list_at lists 1) ((e.index, item) ∷ [])) in
    record {
      kept = record {
        same = λ index.
            elim (cases_eq e.index index) [
              | inl eq ↦ subst (λ k. entry_of k new.entries ≡ event k (lookup (λ j. j == k) (a ++ b))) eq (gone ∙ sym (ap (event e.index) (lookup_lacks e.index (a ++ b) alone.0)))
              | inr differs ↦
                  others index (λ same. differs (sym same)) ∙ kept.same index
                  ∙ ap (λ l. event index (lookup (λ j. j == index) l)) at.split
                  ∙ ap (event index) (lookup_other e.index index item a b differs)
            ]
            ∙ sym (ap (λ l. event index (lookup (λ j. j == index) l)) move.left);
        count = omega (arith, ap length rest, ap length first, kept.count, ap length at.split, length-append a ((e.index, item) ∷ b), ap length move.left, length-append a b);
        consumed_below = subst (λ t. IsBelow t (list_at now 1)) (sym same_top) (subst (λ l. IsBelow heap.top l) (sym move.came) (below_end heap.top (list_at lists 1) (e.index, item) kept.consumed_below inside));
        room = omega (arith, kept.room, more, longer);
        signed = record {
          pending = are_at positive (a ++ b) (list_at now 0) move.left out.1;
          consumed = are_at positive (list_at lists 1 ++ (e.index, item) ∷ []) (list_at now 1) move.came (are_push positive (list_at lists 1) (e.index, item) kept.signed.consumed out.0);
          sent = are_at anti (list_at lists 2) (list_at now 2) (move.others 2 (λ e. omega (arith, e)) (λ e. omega (arith, e))) kept.signed.sent;
          waiting = are_at anti (list_at lists 4) (list_at now 4) (move.others 4 (λ e. omega (arith, e)) (λ e. omega (arith, e))) kept.signed.waiting;
          owed = are_at anti (list_at lists 5) (list_at now 5) (move.others 5 (λ e. omega (arith, e)) (λ e. omega (arith, e))) kept.signed.owed;
        };
      };
      untouched = record { waiting = move.others 4 (λ e. omega (arith, e)) (λ e. omega (arith, e)); owed = move.others 5 (λ e. omega (arith, e)) (λ e. omega (arith, e)) };
      contents_is =
          (λ i. record {
            pending = map message_of (rest i);
            consumed = (ap (map message_at) move.came ∙ map-append message_at (list_at lists 1) ((e.index, item) ∷ []) ∙ ap (λ m. map message_at (list_at lists 1) ++ m ∷ []) at.key) i;
            sent = map message_at (move.others 2 (λ e. omega (arith, e)) (λ e. omega (arith, e)) i);
            outgoing = map item_at (move.others 3 (λ e. omega (arith, e)) (λ e. omega (arith, e)) i);
            waiting = map message_at (move.others 4 (λ e. omega (arith, e)) (λ e. omega (arith, e)) i);
            owed = map message_at (move.others 5 (λ e. omega (arith, e)) (λ e. omega (arith, e)) i);
            room = room;
            spare = same_spare top top' heap new (length (list_at lists 1)) (length (list_at now 1)) tops same_top (omega (arith, longer, more)) i;
          })
          ∙ sym (ap (λ l. first_consumed (contents lists room (spare_of top heap (length (list_at lists 1))) l)) first);
    }

-- the node of the first event is live
pub first_live : (lists : List Nodes) (heap : Events) (e : Entry) (es : List Entry) → IsKept lists heap → length lists ≡ 6 → AreDistinct lists → heap.entries ≡ e ∷ es → IsLive e.index lists
first_live lists heap e es kept six distinct first =
    let found : entry_of e.index heap.entries ≡ Some e = ap (entry_of e.index) first ∙ entry_of-first e es in
    let at = node_of (list_at lists 0) e heap.entries found (kept.same e.index) in
    item_live lists e.index at.item (item_is lists e.index 0 at.item at.before at.behind distinct (omega (arith, six)) at.split)

-- ---- The last consumed node

pub record Restoring (lists : List Nodes) (heap : Events) (index : ℕ) (item : Item) : Type 0 where
  pub before : Nodes
  pub split : list_at lists 1 ≡ before ++ (index, item) ∷ []
  pub below : index < heap.top
  pub vacant : entry_of index heap.entries ≡ None

pub restoring : (lists : List Nodes) (heap : Events) (index : ℕ) (item : Item) → IsKept lists heap → length lists ≡ 6 → AreDistinct lists → Some index ≡ first_of (list_at (backward lists) 1) → item_of index lists ≡ Some item → Restoring lists heap index item
restoring lists heap index item kept six distinct is got =
    let at = last_of lists 1 index (sym is) in
    let found = item_is lists index 1 at.item at.before [] distinct (omega (arith, six)) at.split in
    let same : at.item ≡ item = same_Some at.item item (sym found ∙ got) in
    let alone = distinct 1 at.before index at.item [] at.split in
    record {
      before = at.before;
      split = at.split ∙ ap (λ x. at.before ++ (index, x) ∷ []) same;
      below = (below_out heap.top at.before (index, at.item) [] (subst (λ l. IsBelow heap.top l) at.split kept.consumed_below)).0;
      vacant = kept.same index ∙ ap (event index) (lookup_lacks index (list_at lists 0) (alone.1 0 (λ e. omega (arith, e))));
    }

pub record Restored (lists now : List Nodes) (room top top' : ℕ) (heap new : Events) : Type 0 where
  pub kept : IsKept now new
  pub untouched : Untouched lists now
  pub contents_is : contents now room (spare_of top' new (length (list_at now 1))) new.entries ≡ restored 1 (contents lists room (spare_of top heap (length (list_at lists 1))) heap.entries)

pub restored_kept : (lists now : List Nodes) (room top top' : ℕ) (heap new : Events) (index : ℕ) (item : Item) → IsKept lists heap → length lists ≡ 6 → AreDistinct lists → Restoring lists heap index item
    → now ≡ with_item_last (without_node index lists) 0 (index, item) → top' ≡ top
    → new.entries ≡ insert_by is_before (record { key = item.message; index = index }) heap.entries
    → entry_of index new.entries ≡ Some (record { key = item.message; index = index }) → ((other : ℕ) → other ≢ index → entry_of other new.entries ≡ entry_of other heap.entries)
    → new.room + 1 ≡ heap.room → new.top ≡ heap.top
    → Sorted (drop (length (map message_at (list_at lists 1)) - 1) (map message_at (list_at lists 1)) ++ map message_of heap.entries)
    → Restored lists now room top top' heap new
restored_kept lists now room top top' heap new index item kept six distinct at now_is tops placed_is there others less same_top sorted =
    let a = at.before in
    let e : Entry = record { key = item.message; index = index } in
    let move = moved lists now 1 0 index item a [] (λ e. omega (arith, e)) (omega (arith, six)) (omega (arith, six)) distinct at.split now_is in
    let alone = distinct 1 a index item [] at.split in
    let lacks = alone.1 0 (λ e. omega (arith, e)) in
    let out = below_out heap.top a (index, item) [] (subst (λ l. IsBelow heap.top l) at.split kept.consumed_below) in
    let was = are_out positive a (index, item) [] (subst (AreOf positive) at.split kept.signed.consumed) in
    let messages : map message_at (list_at lists 1) ≡ map message_at a ++ item.message ∷ [] = ap (map message_at) at.split ∙ map-append message_at a ((index, item) ∷ []) in
    let off = last_off (map message_at (list_at lists 1)) (map message_at a) item.message messages in
    let in_order : Sorted (item.message ∷ map message_of heap.entries) = subst (λ ms. Sorted (ms ++ map message_of heap.entries)) off.dropped sorted in
    let shorter : length (list_at now 1) + 1 ≡ length (list_at lists 1) = omega (arith, ap length move.left, ap length at.split, length-append a ((index, item) ∷ []), ap length (append-nil a)) in
    record {
      kept = record {
        same = λ other.
            elim (cases_eq index other) [
              | inl eq ↦ subst (λ k. entry_of k new.entries ≡ event k (lookup (λ j. j == k) (list_at lists 0 ++ (index, item) ∷ []))) eq
                  (there ∙ sym (ap (event index) (lookup_found index (list_at lists 0) item [] lacks)))
              | inr differs ↦
                  others other (λ same. differs (sym same)) ∙ kept.same other
                  ∙ ap (λ l. event other (lookup (λ j. j == other) l)) (sym (append-nil (list_at lists 0)))
                  ∙ sym (ap (event other) (lookup_other index other item (list_at lists 0) [] differs))
            ]
            ∙ sym (ap (λ l. event other (lookup (λ j. j == other) l)) move.came);
        count = omega (arith, ap length placed_is, insert-length e heap.entries, kept.count, ap length move.came, length-append (list_at lists 0) ((index, item) ∷ []));
        consumed_below = subst (λ t. IsBelow t (list_at now 1)) (sym same_top) (subst (λ l. IsBelow heap.top l) (sym move.left) out.1);
        room = omega (arith, kept.room, less, shorter);
        signed = record {
          pending = are_at positive (list_at lists 0 ++ (index, item) ∷ []) (list_at now 0) move.came (are_push positive (list_at lists 0) (index, item) kept.signed.pending was.0);
          consumed = are_at positive (a ++ []) (list_at now 1) move.left was.1;
          sent = are_at anti (list_at lists 2) (list_at now 2) (move.others 2 (λ e. omega (arith, e)) (λ e. omega (arith, e))) kept.signed.sent;
          waiting = are_at anti (list_at lists 4) (list_at now 4) (move.others 4 (λ e. omega (arith, e)) (λ e. omega (arith, e))) kept.signed.waiting;
          owed = are_at anti (list_at lists 5) (list_at now 5) (move.others 5 (λ e. omega (arith, e)) (λ e. omega (arith, e))) kept.signed.owed;
        };
      };
      untouched = record { waiting = move.others 4 (λ e. omega (arith, e)) (λ e. omega (arith, e)); owed = move.others 5 (λ e. omega (arith, e)) (λ e. omega (arith, e)) };
      contents_is = λ i. record {
        pending = (ap (map message_of) placed_is ∙ messages-insert e heap.entries in_order.1 ∙ place-first item.message (map message_of heap.entries) in_order.0 ∙ sym (ap (λ ms. ms ++ map message_of heap.entries) off.dropped)) i;
        consumed = (ap (map message_at) (move.left ∙ append-nil a) ∙ sym off.taken) i;
        sent = map message_at (move.others 2 (λ e. omega (arith, e)) (λ e. omega (arith, e)) i);
        outgoing = map item_at (move.others 3 (λ e. omega (arith, e)) (λ e. omega (arith, e)) i);
        waiting = map message_at (move.others 4 (λ e. omega (arith, e)) (λ e. omega (arith, e)) i);
        owed = map message_at (move.others 5 (λ e. omega (arith, e)) (λ e. omega (arith, e)) i);
        room = room;
        spare = same_spare top top' heap new (length (list_at lists 1)) (length (list_at now 1)) tops same_top (omega (arith, shorter, less, kept.room)) i;
      };
    }
