-- Owed nodes: sent again, counted, and posted.
use Rattle.std.proofs.Common.{◌≡◌, ℕ, zero, suc, ◌+◌, ◌-◌, ◌<◌, ◌≤◌, nat_le, Bool, true, false, ◌||◌, List, [], ◌∷◌, ◌++◌, length, map, set, take, drop, Option, Some, None, cond, refl, sym, ap, ap₂, subst, ◌∙◌, arith, length-append, append-nil, append_assoc, add-one, drop-drop, take_all, length-drop, IfSome, IsSome}
use Rattle.std.proofs.lemmas.List.{map-append, drop_all, take-append-drop, length-set, get_or-set_same, get_or-set_other}
use Rattle.std.proofs.lemmas.Bool.{cond-true, cond-false, le-leb, lt-leb}
use Rattle.tw_pool.specs.Lists.{list_at, item_of, IsLive, first_of, next_of, without as without_node, with_item_last, with_last_moved, AreDistinct}
use Rattle.tw_pool.proofs.ListsByIndex.{moved, item_is, next_is}
use Rattle.tw_heap.specs.Entries.{Events, message_of}
use Rattle.tw_msgs.specs.Counting.{total, one_at}
use Rattle.tw_msgs.specs.Messages.{has, without, same_message}
use Rattle.tw_msgs.specs.declared.message.Message.{Message}
use Rattle.tw_msgs.specs.declared.message.Item.{Item}
use Rattle.tw_msgs.proofs.Messages.{same_message_is}
use Rattle.tw_msgs.proofs.MessageLists.{total-without}
use Rattle.tw_msgs.proofs.Totals.{total-append}
use Rattle.tw_vtime.specs.Stamps.{is_overdue}
use Rattle.tw_theory.specs.Bundles.{anti, positive, positives, antis, sent_anew, still_owed, overdue, not_overdue}
use Rattle.tw_theory.specs.Contents.{Cancel, Lazy, sent_out, owed_after}
use Rattle.tw_theory.proofs.Elements.{head_same, tail_same}
use Rattle.tw_theory.proofs.Owing.{anew-append, still-append, out-append, after-append}
use Rattle.tw_lists.specs.Lists.{Lists, with_sent_again, with_overdue_posted, with_all_sent}
use Rattle.tw_lists.specs.Nodes.{contents, spare_of, IsKept, AreOf, index_of, overdue_nodes, not_overdue_nodes, IsSettled, IsPosted}
use Rattle.tw_lists.specs.Falling.{IsFalling, AreOverdue, IsLastTimely}
use Rattle.tw_lists.specs.Lists.{Nodes, message_at, item_at}
use Rattle.tw_lists.proofs.Finding.{found_at}
use Rattle.tw_lists.proofs.Falling.{falling_without, overdue_split}
use Rattle.tw_lists.proofs.Found.{pushed_other}
use Rattle.tw_lists.proofs.Signs.{are_cons, are_push, are_out}
use Rattle.tw_lists.proofs.Sends.{Changed, changed_kept, changed_contents}

-- ---- Lists of anti-messages

antis_overdue : (s : ℕ) (l : Nodes) → AreOf anti l → AreOf anti (overdue_nodes s l) × AreOf anti (not_overdue_nodes s l)
antis_overdue s [] is = (refl, refl)
antis_overdue s (x ∷ l) is = go (is_overdue x.1.message.stamp s) (antis_overdue s l (tail_same is))
  where
    go : (b : Bool) → AreOf anti (overdue_nodes s l) × AreOf anti (not_overdue_nodes s l) → AreOf anti (cond b (x ∷ overdue_nodes s l) (overdue_nodes s l)) × AreOf anti (cond b (not_overdue_nodes s l) (x ∷ not_overdue_nodes s l))
    go true rest = (are_cons anti x (overdue_nodes s l) (head_same is) rest.0, rest.1)
    go false rest = (rest.0, are_cons anti x (not_overdue_nodes s l) (head_same is) rest.1)

-- ---- A message sent again

pub record Resent (lists now : List Nodes) (room spare room0 spare0 : ℕ) (heap : Events) (index : ℕ) (m : Message) : Type 0 where
  pub kept : IsKept now heap
  pub waiting_stays : list_at now 4 ≡ list_at lists 4
  pub owed_is : list_at now 5 ≡ list_at (without_node index lists) 5
  pub falls : IsFalling (list_at lists 5) → IsFalling (list_at now 5)
  pub contents_is : contents now room spare heap.entries ≡ record (with_sent_again m (contents lists room0 spare0 heap.entries)) { room = room; spare = spare }

pub resent_kept : (lists now : List Nodes) (room spare room0 spare0 : ℕ) (heap : Events) (index : ℕ) (m : Message) → IsKept lists heap → length lists ≡ 6 → AreDistinct lists → index_of m (list_at lists 5) ≡ Some index
    → ((item : Item) → item_of index lists ≡ Some item → now ≡ with_item_last (without_node index lists) 2 (index, item)) → Resent lists now room spare room0 spare0 heap index m
resent_kept lists now room spare room0 spare0 heap index m kept six distinct is relinked =
    let at = found_at m (list_at lists 5) index is in
    let item = at.item in
    let now_is = relinked item (item_is lists index 5 item at.before at.behind distinct (omega (arith, six)) at.split) in
    let move = moved lists now 5 2 index item at.before at.behind (λ e. omega (arith, e)) (omega (arith, six)) (omega (arith, six)) distinct at.split now_is in
    let sent = list_at lists 2 ++ (index, item) ∷ [] in
    let owed = at.before ++ at.behind in
    let change : Changed lists now sent (list_at lists 3) owed = record {
      count = move.count;
      sent_is = move.came;
      outgoing_is = move.others 3 (λ e. omega (arith, e)) (λ e. omega (arith, e));
      owed_is = move.left;
      others = λ k two three five. move.others k five two;
    } in
    let out = are_out anti at.before (index, item) at.behind (subst (AreOf anti) at.split kept.signed.owed) in
    record {
      kept = changed_kept lists now sent (list_at lists 3) owed heap kept change (are_push anti (list_at lists 2) (index, item) kept.signed.sent out.0) out.1;
      waiting_stays = move.others 4 (λ e. omega (arith, e)) (λ e. omega (arith, e));
      owed_is = pushed_other (without_node index lists) now 2 5 (index, item) (λ e. omega (arith, e)) now_is;
      falls = λ falls. subst IsFalling (sym move.left) (falling_without at.before at.behind (index, item) (subst IsFalling at.split falls));
      contents_is =
          changed_contents lists now sent (list_at lists 3) owed room spare heap change
          ∙ (λ i. record {
            pending = map message_of heap.entries;
            consumed = map message_at (list_at lists 1);
            sent = (map-append message_at (list_at lists 2) ((index, item) ∷ []) ∙ ap (λ x. map message_at (list_at lists 2) ++ x ∷ []) at.same) i;
            outgoing = map item_at (list_at lists 3);
            waiting = map message_at (list_at lists 4);
            owed = at.removed i;
            room = room;
            spare = spare;
          });
    }

-- ---- Messages sent one after another

pub sending_more : (way : Cancel) (xs ys : List Message) (c : Lists) → with_all_sent way ys (with_all_sent way xs c) ≡ with_all_sent way (xs ++ ys) c
sending_more way xs ys c = λ i. record {
  pending = c.pending;
  consumed = c.consumed;
  sent = append_assoc c.sent xs ys i;
  outgoing = (append_assoc c.outgoing (positives (sent_out way c.owed xs)) (positives (sent_out way (owed_after way c.owed xs) ys))
      ∙ ap (λ l. c.outgoing ++ l) (sym (map-append positive (sent_out way c.owed xs) (sent_out way (owed_after way c.owed xs) ys)))
      ∙ ap (λ l. c.outgoing ++ positives l) (sym (out-append way c.owed xs ys))) i;
  waiting = c.waiting;
  owed = sym (after-append way c.owed xs ys) i;
  room = c.room;
  spare = c.spare;
}

-- one message: an equal one is owed, or not
pub record Once (m : Message) (c : Lists) : Type 0 where
  pub yes : has m c.owed ≡ true → with_all_sent Lazy (m ∷ []) c ≡ record c { sent = c.sent ++ m ∷ []; owed = without m c.owed }
  pub no : has m c.owed ≡ false → with_all_sent Lazy (m ∷ []) c ≡ record c { sent = c.sent ++ m ∷ []; outgoing = c.outgoing ++ positive m ∷ [] }
  pub some : has m c.owed ≡ false → length (sent_anew c.owed (m ∷ [])) ≡ 1

abbrev once_with : (m : Message) (c : Lists) → Bool → Lists
once_with m c b = record c { sent = c.sent ++ m ∷ []; outgoing = c.outgoing ++ positives (cond b [] (m ∷ [])); owed = cond b (without m c.owed) c.owed }

pub once : (m : Message) (c : Lists) → Once m c
once m c = record {
  yes = λ is. ap (once_with m c) is ∙ ap (λ l. record c { sent = c.sent ++ m ∷ []; outgoing = l; owed = without m c.owed }) (append-nil c.outgoing);
  no = λ is. ap (once_with m c) is;
  some = λ is. ap (λ b. length (cond b [] (m ∷ []))) is;
}

-- the first ones have the next one's share of the room besides
pub room_next : (owed xs : List Message) (m : Message) (ys : List Message)
    → length (sent_anew (still_owed owed xs) (m ∷ ys)) ≡ length (sent_anew (still_owed owed xs) (m ∷ [])) + length (sent_anew (still_owed owed (xs ++ m ∷ [])) ys)
room_next owed xs m ys =
    let o = still_owed owed xs in
    ap length (anew-append o (m ∷ []) ys) ∙ length-append (sent_anew o (m ∷ [])) (sent_anew (still_owed o (m ∷ [])) ys)
    ∙ ap (λ l. length (sent_anew o (m ∷ [])) + length (sent_anew l ys)) (sym (still-append owed xs (m ∷ [])))

-- ---- How many are sent anew

has_total : (m : Message) (l : List Message) → (has m l ≡ true → 0 < total (one_at m) l) × (has m l ≡ false → total (one_at m) l ≡ 0)
has_total m [] = (λ h. absurd (cc), λ h. refl)
has_total m (n ∷ l) = go (same_message m n) (has_total m l)
  where
    go : (b : Bool) → (has m l ≡ true → 0 < total (one_at m) l) × (has m l ≡ false → total (one_at m) l ≡ 0)
        → ((b || has m l) ≡ true → 0 < cond b 1 0 + total (one_at m) l) × ((b || has m l) ≡ false → cond b 1 0 + total (one_at m) l ≡ 0)
    go true rest = (λ h. omega arith, λ h. absurd (cc))
    go false rest = (λ h. let p = rest.0 h in omega (arith, p), λ h. let p = rest.1 h in omega (arith, p))

-- each message that is sent takes one equal message that is owed, while there is one
still_total : (m : Message) (owed xs : List Message) → total (one_at m) (still_owed owed xs) ≡ total (one_at m) owed - total (one_at m) xs
still_total m owed [] = omega arith
still_total m owed (x ∷ xs) = go (has x owed) refl (still_total m (without x owed) xs) (still_total m owed xs)
  where
    none : (b : Bool) → same_message m x ≡ b → has x owed ≡ false → total (one_at m) owed - total (one_at m) xs ≡ total (one_at m) owed - (cond b 1 0 + total (one_at m) xs)
    none true is absent = let zero_is = (has_total m owed).1 (ap (λ y. has y owed) (same_message_is m x is) ∙ absent) in omega (arith, zero_is)
    none false is absent = omega arith

    go : (b : Bool) → has x owed ≡ b → total (one_at m) (still_owed (without x owed) xs) ≡ total (one_at m) (without x owed) - total (one_at m) xs → total (one_at m) (still_owed owed xs) ≡ total (one_at m) owed - total (one_at m) xs
        → total (one_at m) (cond b (still_owed (without x owed) xs) (still_owed owed xs)) ≡ total (one_at m) owed - (one_at m x + total (one_at m) xs)
    go true is left right = let less = total-without (one_at m) x owed is in omega (arith, left, less)
    go false is left right = right ∙ none (same_message m x) refl is

-- one message more is sent anew exactly where it came as often before as it is owed
pub anew_within : (owed ms : List Message) → length (sent_anew owed ms) ≤ length ms
anew_within owed [] = omega arith
anew_within owed (m ∷ ms) = go (has m owed) (anew_within (without m owed) ms) (anew_within owed ms)
  where
    go : (b : Bool) → length (sent_anew (without m owed) ms) ≤ length ms → length (sent_anew owed ms) ≤ length ms → length (cond b (sent_anew (without m owed) ms) (m ∷ sent_anew owed ms)) ≤ length (m ∷ ms)
    go true matched fresh = omega (arith, matched)
    go false matched fresh = omega (arith, fresh)

pub fresh_more : (owed xs : List Message) (m : Message) → length (sent_anew owed (xs ++ m ∷ [])) ≡ length (sent_anew owed xs) + cond (nat_le (total (one_at m) owed) (total (one_at m) xs)) 1 0
fresh_more owed xs m =
    ap length (anew-append owed xs (m ∷ [])) ∙ length-append (sent_anew owed xs) (sent_anew (still_owed owed xs) (m ∷ []))
    ∙ ap (λ n. length (sent_anew owed xs) + n) (go (has m (still_owed owed xs)) refl)
  where
    go : (t : Bool) → has m (still_owed owed xs) ≡ t → length (cond t [] (m ∷ [])) ≡ cond (nat_le (total (one_at m) owed) (total (one_at m) xs)) 1 0
    go true is = let some = (has_total m (still_owed owed xs)).0 is in let left = still_total m owed xs in let a = total (one_at m) owed in let b = total (one_at m) xs in sym (cond-false (nat_le a b) 1 0 (lt-leb a b (omega (arith, some, left))))
    go false is = let none = (has_total m (still_owed owed xs)).1 is in let left = still_total m owed xs in let a = total (one_at m) owed in let b = total (one_at m) xs in sym (cond-true (nat_le a b) 1 0 (le-leb a b (omega (arith, none, left))))

-- how often an equal message is among those from here on
pub count_step : (m : Message) (l : Nodes) (k index : ℕ) (item : Item) (rest : Nodes) → drop k l ≡ (index, item) ∷ rest → drop (k + 1) l ≡ rest → (b : Bool) → same_message m item.message ≡ b
    → total (one_at m) (map message_at (drop k l)) ≡ cond b 1 0 + total (one_at m) (map message_at (drop (k + 1) l))
count_step m l k index item rest here after b is =
    ap (λ x. total (one_at m) (map message_at x)) here ∙ (λ i. cond (is i) 1 0 + total (one_at m) (map message_at (sym after i)))

pub record Ended (l : Nodes) (k : ℕ) : Type 0 where
  pub now : drop k l ≡ []
  pub later : drop (k + 1) l ≡ []

pub ended_owed : (l : Nodes) (k : ℕ) → None ≡ first_of (drop k l) → Ended l k
ended_owed l k first = go (drop k l) refl
  where
    go : (r : Nodes) → drop k l ≡ r → Ended l k
    go [] is = record { now = is; later = sym (drop-drop 1 k l) ∙ ap (drop 1) is }
    go (e ∷ r) is = let some = first ∙ ap first_of is in absurd (cc)

-- the same among messages
pub total_more : (m : Message) (ms : List Message) (k : ℕ) (x : Message) → k < length ms → take (k + 1) ms ≡ take k ms ++ x ∷ [] → (b : Bool) → same_message m x ≡ b
    → total (one_at m) (take (k + 1) ms) ≡ total (one_at m) (take k ms) + cond b 1 0
total_more m ms k x within is b same =
    ap (total (one_at m)) is ∙ total-append (one_at m) (take k ms) (x ∷ []) ∙ ap (λ n. total (one_at m) (take k ms) + (n + 0)) (ap (λ t. cond t 1 0) same) ∙ omega arith

-- ---- Owed nodes that are posted

pub take_more : {A : Type 0} (k : ℕ) (l : List A) (x : A) (r : List A) → drop k l ≡ x ∷ r → take (k + 1) l ≡ take k l ++ x ∷ []
take_more {A = A} k l x r is = go k l is
  where
    go : (k : ℕ) (l : List A) → drop k l ≡ x ∷ r → take (k + 1) l ≡ take k l ++ x ∷ []
    go zero [] is = absurd (cc)
    go zero (y ∷ l) is = ap (λ z. z ∷ []) (head_same is)
    go (suc k) [] is = absurd (cc)
    go (suc k) (y ∷ l) is = ap (λ n. take n (y ∷ l)) (add-one (suc k)) ∙ ap (λ z. y ∷ z) (ap (λ n. take n l) (sym (add-one k)) ∙ go k l is)

pub overdue-append : (s : ℕ) (xs ys : Nodes) → (overdue_nodes s (xs ++ ys) ≡ overdue_nodes s xs ++ overdue_nodes s ys) × (not_overdue_nodes s (xs ++ ys) ≡ not_overdue_nodes s xs ++ not_overdue_nodes s ys)
overdue-append s [] ys = (refl, refl)
overdue-append s (x ∷ xs) ys = go (is_overdue x.1.message.stamp s) (overdue-append s xs ys)
  where
    go : (b : Bool) → (overdue_nodes s (xs ++ ys) ≡ overdue_nodes s xs ++ overdue_nodes s ys) × (not_overdue_nodes s (xs ++ ys) ≡ not_overdue_nodes s xs ++ not_overdue_nodes s ys)
        → (cond b (x ∷ overdue_nodes s (xs ++ ys)) (overdue_nodes s (xs ++ ys)) ≡ cond b (x ∷ overdue_nodes s xs) (overdue_nodes s xs) ++ overdue_nodes s ys)
        × (cond b (not_overdue_nodes s (xs ++ ys)) (x ∷ not_overdue_nodes s (xs ++ ys)) ≡ cond b (not_overdue_nodes s xs) (x ∷ not_overdue_nodes s xs) ++ not_overdue_nodes s ys)
    go true rest = (ap (λ l. x ∷ l) rest.0, rest.1)
    go false rest = (rest.0, ap (λ l. x ∷ l) rest.1)

-- the next owed node, while nodes before it may have left
pub record NextOwed (lists now : List Nodes) (s k index : ℕ) : Type 0 where
  pub item : Item
  pub rest : Nodes
  pub dropped : drop k (list_at lists 5) ≡ (index, item) ∷ rest
  pub rest_is : drop (k + 1) (list_at lists 5) ≡ rest
  pub split : list_at now 5 ≡ not_overdue_nodes s (take k (list_at lists 5)) ++ (index, item) ∷ rest
  pub got : item_of index now ≡ Some item
  pub next : next_of index now ≡ first_of (drop (k + 1) (list_at lists 5))

pub next_owed : (lists now : List Nodes) (s k index : ℕ) → length lists ≡ 6 → AreDistinct now → IsSettled s k lists now → Some index ≡ first_of (drop k (list_at lists 5)) → NextOwed lists now s k index
next_owed lists now s k index six distinct at first = go (drop k l) refl
  where
    l : Nodes
    l = list_at lists 5

    go : (r : Nodes) → drop k l ≡ r → NextOwed lists now s k index
    go [] is = let none = first ∙ ap first_of is in absurd (cc)
    go (e ∷ r) is =
        let some : Some index ≡ Some e.0 = first ∙ ap first_of is in
        let same : e.0 ≡ index = cc in
        let here : drop k l ≡ (index, e.1) ∷ r = is ∙ ap (λ j. (j, e.1) ∷ r) same in
        let a = not_overdue_nodes s (take k l) in
        let split : list_at now 5 ≡ a ++ (index, e.1) ∷ r = at.owed_is ∙ ap (λ x. a ++ x) here in
        let rest : drop (k + 1) l ≡ r = sym (drop-drop 1 k l) ∙ ap (drop 1) is in
        let within : 5 < length now = omega (arith, six, at.count) in
        record {
          item = e.1;
          rest = r;
          dropped = here;
          rest_is = rest;
          split = split;
          got = item_is now index 5 e.1 a r distinct within split;
          next = next_is now 5 index e.1 a r distinct within split ∙ ap first_of (sym rest);
        }

pub settled_more : (lists now later : List Nodes) (s k index : ℕ) → length lists ≡ 6 → AreDistinct now → IsSettled s k lists now → (next : NextOwed lists now s k index) → IsPosted s index next.item now later → IsSettled s (k + 1) lists later
settled_more lists now later s k index six distinct at next posted = go (is_overdue next.item.message.stamp s) refl
  where
    l : Nodes
    l = list_at lists 5

    a : Nodes
    a = not_overdue_nodes s (take k l)

    b : Nodes
    b = overdue_nodes s (take k l)

    more : take (k + 1) l ≡ take k l ++ (index, next.item) ∷ []
    more = take_more k l (index, next.item) next.rest next.dropped

    both : (t : Bool) → is_overdue next.item.message.stamp s ≡ t → (overdue_nodes s (take (k + 1) l) ≡ b ++ cond t ((index, next.item) ∷ []) []) × (not_overdue_nodes s (take (k + 1) l) ≡ a ++ cond t [] ((index, next.item) ∷ []))
    both t is =
        let parts = overdue-append s (take k l) ((index, next.item) ∷ []) in (
          ap (overdue_nodes s) more ∙ parts.0 ∙ ap (λ x. b ++ cond x ((index, next.item) ∷ []) []) is,
          ap (not_overdue_nodes s) more ∙ parts.1 ∙ ap (λ x. a ++ cond x [] ((index, next.item) ∷ [])) is,
        )

    go : (t : Bool) → is_overdue next.item.message.stamp s ≡ t → IsSettled s (k + 1) lists later
    go true is =
        let move = moved now later 5 3 index next.item a next.rest (λ e. omega (arith, e)) (omega (arith, six, at.count)) (omega (arith, six, at.count)) distinct next.split (posted.due is) in
        let parts = both true is in
        record {
          count = move.count ∙ at.count;
          owed_is = move.left ∙ ap₂ (λ x y. x ++ y) (sym (parts.1 ∙ append-nil a)) (sym next.rest_is);
          outgoing_is = move.came ∙ ap (λ x. x ++ (index, next.item) ∷ []) at.outgoing_is ∙ append_assoc (list_at lists 3) b ((index, next.item) ∷ []) ∙ ap (λ x. list_at lists 3 ++ x) (sym parts.0);
          others = λ j three five. move.others j five three ∙ at.others j three five;
        }
    go false is =
        let parts = both false is in
        let same = posted.early is in
        record {
          count = ap length same ∙ at.count;
          owed_is = ap (λ x. list_at x 5) same ∙ next.split ∙ sym (append_assoc a ((index, next.item) ∷ []) next.rest) ∙ ap₂ (λ x y. x ++ y) (sym parts.1) (sym next.rest_is);
          outgoing_is = ap (λ x. list_at x 3) same ∙ at.outgoing_is ∙ ap (λ x. list_at lists 3 ++ x) (sym (parts.0 ∙ append-nil b));
          others = λ j three five. ap (λ x. list_at x j) same ∙ at.others j three five;
        }

-- there are no more
take_all_same : {A : Type 0} (k : ℕ) (l : List A) → drop k l ≡ [] → (take k l ≡ l) × (take (k + 1) l ≡ l)
take_all_same k l none =
    let n = length-drop k l in
    let short : length l ≤ k = omega (arith, n, ap length none) in
    (take_all k l short, take_all (k + 1) l (omega (arith, short)))

pub settled_end : (lists now : List Nodes) (s k : ℕ) → None ≡ first_of (drop k (list_at lists 5)) → IsSettled s k lists now → IsSettled s (k + 1) lists now
settled_end lists now s k none at =
    let end = ended_owed (list_at lists 5) k none in
    let whole = take_all_same k (list_at lists 5) end.now in
    let same = whole.0 ∙ sym whole.1 in
    record {
      count = at.count;
      owed_is = at.owed_is ∙ ap₂ (λ x y. not_overdue_nodes s x ++ y) same (end.now ∙ sym end.later);
      outgoing_is = at.outgoing_is ∙ ap (λ x. list_at lists 3 ++ overdue_nodes s x) same;
      others = at.others;
    }

pub live_at : (o : Option ℕ) (lists later : List Nodes) → ((each : ℕ) → item_of each later ≡ item_of each lists) → IfSome o (λ index. IsLive index lists) → IfSome o (λ index. IsLive index later)
live_at None lists later same live = tt
live_at (Some index) lists later same live = subst (λ o. IsSome o) (sym (same index)) live

pub overdue_messages : (s : ℕ) (l : Nodes) → (map message_at (overdue_nodes s l) ≡ overdue s (map message_at l)) × (map message_at (not_overdue_nodes s l) ≡ not_overdue s (map message_at l))
overdue_messages s [] = (refl, refl)
overdue_messages s (x ∷ l) = go (is_overdue x.1.message.stamp s) (overdue_messages s l)
  where
    go : (b : Bool) → (map message_at (overdue_nodes s l) ≡ overdue s (map message_at l)) × (map message_at (not_overdue_nodes s l) ≡ not_overdue s (map message_at l))
        → (map message_at (cond b (x ∷ overdue_nodes s l) (overdue_nodes s l)) ≡ cond b (x.1.message ∷ overdue s (map message_at l)) (overdue s (map message_at l)))
        × (map message_at (cond b (not_overdue_nodes s l) (x ∷ not_overdue_nodes s l)) ≡ cond b (not_overdue s (map message_at l)) (x.1.message ∷ not_overdue s (map message_at l)))
    go true rest = (ap (λ z. x.1.message ∷ z) rest.0, rest.1)
    go false rest = (rest.0, ap (λ z. x.1.message ∷ z) rest.1)

-- the overdue ones are the last, and have moved
pub posted_last : (lists now : List Nodes) (s n : ℕ) → length lists ≡ 6 → IsFalling (list_at lists 5) → IsLastTimely s (take (length (list_at lists 5) - n) (list_at lists 5)) → AreOverdue s (drop (length (list_at lists 5) - n) (list_at lists 5))
    → now ≡ with_last_moved lists 5 n 3 → IsSettled s (length (list_at lists 5)) lists now × (list_at now 5 ≡ take (length (list_at lists 5) - n) (list_at lists 5))
posted_last lists now s n six falls timely overdue is =
    let l = list_at lists 5 in
    let k = length l - n in
    let left = set lists 5 (take k l) in
    let parts = overdue_split s (take k l) (drop k l) (subst IsFalling (sym (take-append-drop k l)) falls) timely overdue in
    let whole : take (length l) l ≡ take k l ++ drop k l = take_all (length l) l (omega arith) ∙ sym (take-append-drop k l) in
    let owed : list_at now 5 ≡ take k l = ap (λ ls. list_at ls 5) is ∙ get_or-set_other left 3 5 (list_at left 3 ++ drop k l) [] (λ e. omega (arith, e)) ∙ get_or-set_same lists 5 (take k l) [] (omega (arith, six)) in (
      record {
        count = ap length is ∙ length-set left 3 (list_at left 3 ++ drop k l) ∙ length-set lists 5 (take k l);
        owed_is = owed ∙ sym (append-nil (take k l)) ∙ ap₂ (λ x y. x ++ y) (sym (ap (not_overdue_nodes s) whole ∙ parts.1)) (sym (drop_all (length l) l (omega arith)));
        outgoing_is = ap (λ ls. list_at ls 3) is ∙ get_or-set_same left 3 (list_at left 3 ++ drop k l) [] (omega (arith, six, length-set lists 5 (take k l)))
            ∙ ap₂ (λ x y. x ++ y) (get_or-set_other lists 5 3 (take k l) [] (λ e. omega (arith, e))) (sym (ap (overdue_nodes s) whole ∙ parts.0));
        others = λ j three five. ap (λ ls. list_at ls j) is ∙ get_or-set_other left 3 j (list_at left 3 ++ drop k l) [] three ∙ get_or-set_other lists 5 j (take k l) [] five;
      },
      owed,
    )

pub record Settled (lists now : List Nodes) (s room top top' : ℕ) (heap : Events) : Type 0 where
  pub kept : IsKept now heap
  pub waiting_stays : list_at now 4 ≡ list_at lists 4
  pub owed_is : list_at now 5 ≡ not_overdue_nodes s (list_at lists 5)
  pub contents_is : contents now room (spare_of top' heap (length (list_at now 1))) heap.entries ≡ with_overdue_posted s (contents lists room (spare_of top heap (length (list_at lists 1))) heap.entries)

pub settled_kept : (lists now : List Nodes) (s room top top' : ℕ) (heap : Events) → IsKept lists heap → IsSettled s (length (list_at lists 5)) lists now → top' ≡ top → Settled lists now s room top top' heap
settled_kept lists now s room top top' heap kept at tops =
    let l = list_at lists 5 in
    let over = overdue_nodes s l in
    let left = not_overdue_nodes s l in
    let change : Changed lists now (list_at lists 2) (list_at lists 3 ++ over) left = record {
      count = at.count;
      sent_is = at.others 2 (λ e. omega (arith, e)) (λ e. omega (arith, e));
      outgoing_is = at.outgoing_is ∙ ap (λ x. list_at lists 3 ++ overdue_nodes s x) (take_all (length l) l (omega arith));
      owed_is = at.owed_is ∙ ap₂ (λ x y. not_overdue_nodes s x ++ y) (take_all (length l) l (omega arith)) (drop_all (length l) l (omega arith)) ∙ append-nil left;
      others = λ k two three five. at.others k three five;
    } in
    let one = at.others 1 (λ e. omega (arith, e)) (λ e. omega (arith, e)) in
    let are = antis_overdue s l kept.signed.owed in
    let messages = overdue_messages s l in
    record {
      kept = changed_kept lists now (list_at lists 2) (list_at lists 3 ++ over) left heap kept change kept.signed.sent are.1;
      waiting_stays = at.others 4 (λ e. omega (arith, e)) (λ e. omega (arith, e));
      owed_is = change.owed_is;
      contents_is =
          changed_contents lists now (list_at lists 2) (list_at lists 3 ++ over) left room (spare_of top' heap (length (list_at now 1))) heap change
          ∙ (λ i. record {
            pending = map message_of heap.entries;
            consumed = map message_at (list_at lists 1);
            sent = map message_at (list_at lists 2);
            outgoing = (map-append item_at (list_at lists 3) over ∙ ap (λ x. map item_at (list_at lists 3) ++ x) (are.0 ∙ ap antis messages.0)) i;
            waiting = map message_at (list_at lists 4);
            owed = messages.1 i;
            room = room;
            spare = spare_of (tops i) heap (length (one i));
          });
    }
