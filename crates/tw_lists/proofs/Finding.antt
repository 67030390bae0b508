-- A message looked for in a list of nodes.
use Rattle.std.proofs.Common.{◌≡◌, ℕ, ◌+◌, ◌<◌, ◌≤◌, Bool, true, false, ◌||◌, List, [], ◌∷◌, ◌++◌, length, map, take, drop, Some, None, is_some, cond, refl, sym, ap, ◌∙◌, inl, inr, take-append-drop, drop-drop, drop_of_length-le}
use Rattle.std.proofs.lemmas.Bool.{cases_eq, eq-eqb, ne_eqb}
use Rattle.tw_pool.specs.Lists.{list_at, item_of, first_of, next_of, AreDistinct}
use Rattle.tw_pool.proofs.ListsByIndex.{item_is, next_is}
use Rattle.tw_heap.specs.declared.entries.Entry.{Entry}
use Rattle.tw_heap.specs.Entries.{entry_of, message_of}
use Rattle.tw_msgs.specs.Messages.{same_message, has, without}
use Rattle.tw_msgs.specs.declared.message.Message.{Message}
use Rattle.tw_msgs.specs.declared.message.Item.{Item}
use Rattle.tw_msgs.proofs.Messages.{same_message_is, same_message_from}
use Rattle.tw_lists.specs.Nodes.{index_of}
use Rattle.tw_lists.specs.Lists.{Nodes, message_at}

pub record FindStep (lists : List Nodes) (number k index : ℕ) : Type 0 where
  pub item : Item
  pub behind : Nodes
  pub dropped : drop k (list_at lists number) ≡ (index, item) ∷ behind
  pub got : item_of index lists ≡ Some item
  pub next : next_of index lists ≡ first_of (drop (k + 1) (list_at lists number))
  pub behind_is : drop (k + 1) (list_at lists number) ≡ behind

pub find_step : (lists : List Nodes) (number k index : ℕ) → AreDistinct lists → number < length lists → Some index ≡ first_of (drop k (list_at lists number)) → FindStep lists number k index
find_step lists number k index distinct within first = go (drop k l) refl
  where
    l : Nodes
    l = list_at lists number

    go : (r : Nodes) → drop k l ≡ r → FindStep lists number k index
    go [] is = let none = first ∙ ap first_of is in absurd (cc)
    go (e ∷ r) is =
        let some : Some index ≡ Some e.0 = first ∙ ap first_of is in
        let same : e.0 ≡ index = cc in
        let here : drop k l ≡ (index, e.1) ∷ r = is ∙ ap (λ j. (j, e.1) ∷ r) same in
        let split : l ≡ take k l ++ (index, e.1) ∷ r = sym (take-append-drop k l) ∙ ap (λ x. take k l ++ x) here in
        let rest : drop (k + 1) l ≡ r = sym (drop-drop 1 k l) ∙ ap (drop 1) is in
        record {
          item = e.1;
          behind = r;
          dropped = here;
          got = item_is lists index number e.1 (take k l) r distinct within split;
          next = next_is lists number index e.1 (take k l) r distinct within split ∙ ap first_of (sym rest);
          behind_is = rest;
        }

pub found_here : (m : Message) (lists : List Nodes) (number k index : ℕ) (at : FindStep lists number k index) → same_message m at.item.message ≡ true → index_of m (drop k (list_at lists number)) ≡ Some index
found_here m lists number k index at same = ap (index_of m) at.dropped ∙ ap (λ b. cond b (Some index) (index_of m at.behind)) same

pub found_later : (m : Message) (lists : List Nodes) (number k index : ℕ) (at : FindStep lists number k index) → same_message m at.item.message ≡ false → index_of m (drop k (list_at lists number)) ≡ index_of m (drop (k + 1) (list_at lists number))
found_later m lists number k index at same = ap (index_of m) at.dropped ∙ ap (λ b. cond b (Some index) (index_of m at.behind)) same ∙ ap (index_of m) (sym at.behind_is)

pub found_never : (m : Message) (k : ℕ) (l : Nodes) → length l ≤ k → index_of m (drop k l) ≡ None
found_never m k l done = ap (index_of m) (drop_of_length-le l done)

pub ended : (l : Nodes) (k : ℕ) (m : Message) → None ≡ first_of (drop k l) → index_of m (drop k l) ≡ index_of m (drop (k + 1) l)
ended l k m first = go (drop k l) refl
  where
    go : (r : Nodes) → drop k l ≡ r → index_of m (drop k l) ≡ index_of m (drop (k + 1) l)
    go [] is = ap (index_of m) is ∙ sym (ap (index_of m) (sym (drop-drop 1 k l) ∙ ap (drop 1) is))
    go (e ∷ r) is = let some = first ∙ ap first_of is in absurd (cc)

pub ended_first : (l : Nodes) (k : ℕ) → None ≡ first_of (drop k l) → None ≡ first_of (drop (k + 1) l)
ended_first l k first = go (drop k l) refl
  where
    go : (r : Nodes) → drop k l ≡ r → None ≡ first_of (drop (k + 1) l)
    go [] is = sym (ap first_of (sym (drop-drop 1 k l) ∙ ap (drop 1) is))
    go (e ∷ r) is = let some = first ∙ ap first_of is in absurd (cc)

-- ---- What was found

pub record Found (m : Message) (l : Nodes) (index : ℕ) : Type 0 where
  pub item : Item
  pub before : Nodes
  pub behind : Nodes
  pub split : l ≡ before ++ (index, item) ∷ behind
  pub same : item.message ≡ m
  pub removed : map message_at (before ++ behind) ≡ without m (map message_at l)

pub found_at : (m : Message) (l : Nodes) (index : ℕ) → index_of m l ≡ Some index → Found m l index
found_at m [] index is = absurd (cc)
found_at m (e ∷ l) index is = go (λ i. found_at m l index i) (same_message m e.1.message) refl
  where
    go : (index_of m l ≡ Some index → Found m l index) → (b : Bool) → same_message m e.1.message ≡ b → Found m (e ∷ l) index
    go later true t =
        let some : Some e.0 ≡ Some index = sym (ap (λ b. cond b (Some e.0) (index_of m l)) t) ∙ is in
        let same : e.0 ≡ index = cc in
        record {
          item = e.1;
          before = [];
          behind = l;
          split = ap (λ k. (k, e.1) ∷ l) same;
          same = sym (same_message_is m e.1.message t);
          removed = sym (ap (λ b. cond b (map message_at l) (e.1.message ∷ without m (map message_at l))) t);
        }
    go later false t =
        let rest = later (sym (ap (λ b. cond b (Some e.0) (index_of m l)) t) ∙ is) in
        record {
          item = rest.item;
          before = e ∷ rest.before;
          behind = rest.behind;
          split = ap (λ x. e ∷ x) rest.split;
          same = rest.same;
          removed = ap (λ x. e.1.message ∷ x) rest.removed ∙ sym (ap (λ b. cond b (map message_at l) (e.1.message ∷ without m (map message_at l))) t);
        }

pub has_is : (m : Message) (l : Nodes) → has m (map message_at l) ≡ is_some (index_of m l)
has_is m [] = refl
has_is m (e ∷ l) = go (same_message m e.1.message) (has_is m l)
  where
    go : (b : Bool) → has m (map message_at l) ≡ is_some (index_of m l) → (b || has m (map message_at l)) ≡ is_some (cond b (Some e.0) (index_of m l))
    go true rest = refl
    go false rest = rest

-- ---- Among entries

pub entry_has : (m : Message) (index : ℕ) (es : List Entry) → entry_of index es ≡ Some (record { key = m; index = index }) → has m (map message_of es) ≡ true
entry_has m index [] is = absurd (cc)
entry_has m index (y ∷ ys) is =
    elim (cases_eq y.index index) [
      | inl same ↦
          let some : Some y ≡ Some (record { key = m; index = index }) = sym (ap (λ t. cond t (Some y) (entry_of index ys)) (eq-eqb y.index index same)) ∙ is in
          let equal : y ≡ record { key = m; index = index } = cc in
          ap (λ b. b || has m (map message_of ys)) (same_message_from m y.key (sym (ap (λ x. x.key) equal)))
      | inr differs ↦
          let rest = entry_has m index ys (sym (ap (λ t. cond t (Some y) (entry_of index ys)) (ne_eqb y.index index differs)) ∙ is) in
          go (same_message m y.key) rest
    ]
  where
    go : (b : Bool) → has m (map message_of ys) ≡ true → (b || has m (map message_of ys)) ≡ true
    go true h = refl
    go false h = h
