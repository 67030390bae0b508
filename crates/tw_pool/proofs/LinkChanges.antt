-- What each change of a pool's links makes of its lists.
use Rattle.std.proofs.Common.{◌≡◌, ◌≢◌, ℕ, ◌+◌, ◌^◌, ◌<◌, ◌≤◌, List, [], ◌∷◌, ◌++◌, length, get_or, set, Option, Some, None, true, is_some, IsSome, count_by, sum_by, cond, refl, sym, ap, subst, ◌∙◌, inl, inr, arith, length-append, append-nil, append_assoc}
use Rattle.std.proofs.lemmas.Bool.{cases_eq, cases_lt}
use Rattle.std.proofs.lemmas.List.{get_or-set_same, get_or-set_other, get_or_past, length-map}
use Rattle.std.proofs.lemmas.List.Sums.{sum_by-set, get_or-le-sum_by}
use Rattle.slab.specs.Slab.{Slab, get, with_value, slab_len, Updates}
use Rattle.tw_pool.specs.declared.links.Node.{Node}
use Rattle.tw_pool.specs.declared.links.Ends.{Ends}
use Rattle.tw_pool.specs.Lists.{list_at, item_of, without, live_count, with_item_last, with_item_before, IsLive, Lacks}
use Rattle.tw_pool.specs.Links.{no_ends, first_or, last_or, ends_of, list_between, lists_of, IsChain, HasDistinct, Holds, IsLinked, IsPool, IsThere, edited, with_next, with_prev, joined_nodes, joined_ends, unlinked_ends, linked_nodes, linked_ends, stored, SameItems, IsFree}
use Rattle.tw_pool.proofs.NodeLinks.{edited_at, edited_other, last_or-append, chain_left, chain_right, Keeps, chain_kept, keeps_next, keeps_prev, chain_joined}
use Rattle.tw_pool.proofs.ListsSeen.{lacks_none, lacks_left, lacks_right, lacks_append, distinct_left, distinct_right, lacks_before, distinct_out, distinct_in, last_lacks, first_lacks, stands_in, without_found, inserted_found, item_free}
use Rattle.tw_pool.proofs.LinksHold.{IsOf, only_joined, is_of-joined, is_of-last, is_of-first, chain_only, chain_lacks, ends_at, joined_len, unlinked_ends_are, linked_ends_are, holds_is, holds_linked}

module _ {T : Type 0} where
  keeps_others : (s t : Slab (Node T)) (at : ℕ) (l : List (ℕ × T)) → ((j : ℕ) → j ≢ at → get t j ≡ get s j) → Lacks (Some at) l → Keeps s t l
  keeps_others s t at [] others lacks = tt
  keeps_others s t at (e ∷ l) others lacks = (others e.0 (λ same. lacks.0 (ap Some same)), keeps_others s t at l others lacks.1)

  -- a change of a node that no list has
  pub holds_others : (s t : Slab (Node T)) (ends : List Ends) (lists : List (List (ℕ × T))) (at : ℕ) → ((j : ℕ) → j ≢ at → get t j ≡ get s j) → ((k : ℕ) → Lacks (Some at) (list_at lists k)) → Holds s ends lists → Holds t ends lists
  holds_others s t ends lists at others lacks holds =
      record {
        ends_are = holds.ends_are;
        chains = λ k. chain_kept s t k None (list_at lists k) None (keeps_others s t at (list_at lists k) others (lacks k)) (holds.chains k);
        distinct = holds.distinct;
      }

  -- a property of each list, after one of them has changed
  each_list : (P : ℕ → List (ℕ × T) → Type 0) (lists : List (List (ℕ × T))) (number : ℕ) (l : List (ℕ × T)) → number < length lists → P number l → ((k : ℕ) → k ≢ number → P k (list_at lists k)) → (k : ℕ) → P k (list_at (set lists number l) k)
  each_list P lists number l within here others k =
      elim (cases_eq k number) [
        | inl same ↦
            let read : list_at (set lists number l) k ≡ l = ap (list_at (set lists number l)) same ∙ get_or-set_same lists number l [] within in
            subst (λ x. P k x) (sym read) (subst (λ x. P x l) (sym same) here)
        | inr differs ↦ subst (λ x. P k x) (sym (get_or-set_other lists number k l [] differs)) (others k differs)
      ]

  -- a node leaves its list
  pub holds_unlinked : (s : Slab (Node T)) (ends : List Ends) (lists : List (List (ℕ × T))) (number : ℕ) (a : List (ℕ × T)) (e : ℕ × T) (b : List (ℕ × T)) → Holds s ends lists → number < length lists → list_at lists number ≡ a ++ e ∷ b → Holds (joined_nodes s (last_or None a) (first_or b None)) (unlinked_ends ends number (last_or None a) (first_or b None)) (set lists number (a ++ b))
  holds_unlinked s ends lists number a e b holds within split =
      let t = joined_nodes s (last_or None a) (first_or b None) in
      let whole = subst (λ l. IsChain s number None l None) split (holds.chains number) in
      let distinct = subst (λ l. HasDistinct l) split (holds.distinct number) in
      let apart = distinct_out a e b distinct in
      let left = chain_left s number None a (e ∷ b) None whole in
      let right = chain_right s number None a (e ∷ b) None whole in
      let only = only_joined number s (last_or None a) (first_or b None)
      (is_of-last s number None a (Some e.0) tt left) (is_of-first s number (Some e.0) b None tt right.1) in
      let here = chain_joined s number None a (Some e.0) (Some e.0) b None (distinct_left a b apart) (distinct_right a b apart) (last_lacks None a b (lacks_none b) apart) (first_lacks a b apart) left right.1 in
      record {
        ends_are = unlinked_ends_are ends lists number a e b holds.ends_are within split;
        chains = each_list (λ k l. IsChain t k None l None) lists number (a ++ b) within here
            (λ k differs. chain_only number k s t None (list_at lists k) None only differs (holds.chains k));
        distinct = each_list (λ k l. HasDistinct l) lists number (a ++ b) within apart (λ k differs. holds.distinct k);
      }

  -- a node that is in no list comes into one
  pub holds_linked_in : (s : Slab (Node T)) (ends : List Ends) (lists : List (List (ℕ × T))) (number : ℕ) (a b : List (ℕ × T)) (index : ℕ) (node : Node T) → Holds s ends lists → number < length lists → list_at lists number ≡ a ++ b → get s index ≡ Some node → ((k : ℕ) → Lacks (Some index) (list_at lists k)) → Holds (linked_nodes s number (last_or None a) index (first_or b None)) (linked_ends ends number (last_or None a) index (first_or b None)) (set lists number (a ++ (index, node.item) ∷ b))
  holds_linked_in s ends lists number a b index node holds within split found lacks =
      let e : ℕ × T = (index, node.item) in
      let s1 = edited (λ n. record n { list = number }) s index in
      let left = last_or None a in
      let right = first_or b None in
      let s2 = joined_nodes s1 left (Some index) in
      let s3 = joined_nodes s2 (Some index) right in
      let moved : Node T = record node { list = number } in
      let at1 : get s1 index ≡ Some moved = edited_at (λ n. record n { list = number }) s index node found in
      let holds1 = holds_others s s1 ends lists index (λ j differs. edited_other _ s index j differs) lacks holds in
      let whole = subst (λ l. IsChain s1 number None l None) split (holds1.chains number) in
      let chain_a = chain_left s1 number None a b None whole in
      let chain_b = chain_right s1 number None a b None whole in
      let apart = subst (λ l. HasDistinct l) split (holds.distinct number) in
      let absent = subst (λ l. Lacks (Some index) l) split (lacks number) in
      let distinct = distinct_in a e b apart absent in
      let absent_a = lacks_left (Some index) a b absent in
      let absent_b = lacks_right (Some index) a b absent in
      let front : HasDistinct (a ++ e ∷ []) = distinct_in a e [] (subst (λ l. HasDistinct l) (sym (append-nil a)) (distinct_left a b apart)) (subst (λ l. Lacks (Some index) l) (sym (append-nil a)) absent_a) in
      let of_left = is_of-last s1 number None a right tt chain_a in
      let of_right = is_of-first s1 number left b None tt chain_b in
      let of_index : IsOf s1 number (Some index) = (moved, at1, refl) in
      let alone : IsChain s1 number moved.prev (e ∷ []) moved.next = (at1, tt) in
      let chain2 = chain_joined s1 number None a right moved.prev (e ∷ []) moved.next (distinct_left a b apart) (tt, tt)
      (last_lacks None a (e ∷ []) (lacks_none (e ∷ [])) front) absent_a chain_a alone in
      let mid = with_next s1 left (Some index) in
      let kept_b = chain_kept mid s2 number left b None (keeps_prev mid (Some index) left b absent_b)
      (chain_kept s1 mid number left b None (keeps_next s1 left (Some index) b (last_lacks None a b (lacks_none b) apart)) chain_b) in
      let last : last_or None (a ++ e ∷ []) ≡ Some index = last_or-append None a (e ∷ []) in
      let all : HasDistinct ((a ++ e ∷ []) ++ b) = subst (λ l. HasDistinct l) (sym (append_assoc a (e ∷ []) b)) distinct in
      let chain3 = chain_joined s2 number None (a ++ e ∷ []) moved.next left b None front (distinct_right a b apart)
      (last_lacks None (a ++ e ∷ []) b (lacks_none b) all) (first_lacks (a ++ e ∷ []) b all) chain2 kept_b in
      let here : IsChain s3 number None (a ++ e ∷ b) None =
      subst (λ l. IsChain s3 number None l None) (append_assoc a (e ∷ []) b)
      (subst (λ at. IsChain (joined_nodes s2 at right) number None ((a ++ e ∷ []) ++ b) None) last chain3) in
      let only2 = only_joined number s1 left (Some index) of_left of_index in
      let only3 = only_joined number s2 (Some index) right (is_of-joined number s1 left (Some index) (Some index) of_index) (is_of-joined number s1 left (Some index) right of_right) in
      record {
        ends_are = linked_ends_are ends lists number a e b holds.ends_are within split;
        chains = each_list (λ k l. IsChain s3 k None l None) lists number (a ++ e ∷ b) within here
            (λ k differs.
            chain_only number k s2 s3 None (list_at lists k) None only3 differs
            (chain_only number k s1 s2 None (list_at lists k) None only2 differs (holds1.chains k)));
        distinct = each_list (λ k l. HasDistinct l) lists number (a ++ e ∷ b) within distinct (λ k differs. holds.distinct k);
      }

  -- ## What the changes of links leave alone

  count-set : (slots : List (Option (Node T))) (at : ℕ) (old new : Node T) → get_or slots at None ≡ Some old → count_by is_some (set slots at (Some new)) ≡ count_by is_some slots
  count-set slots at old new found =
      elim (cases_lt at (length slots)) [
        | inl within ↦ omega (arith, sum_by-set (λ o. cond (is_some o) 1 0) slots at (Some new) None within, ap {B = ℕ} (λ o. cond (is_some o) 1 0) found)
        | inr past ↦
            let none = get_or_past slots at None past in
            absurd (cc)
      ]

  pub same-refl : (s : Slab (Node T)) → SameItems s s
  same-refl s = record { len = refl; capacity = refl; items = λ at. refl }

  pub same-trans : (s t u : Slab (Node T)) → SameItems s t → SameItems t u → SameItems s u
  same-trans s t u first second =
      record { len = second.len ∙ first.len; capacity = second.capacity ∙ first.capacity; items = λ at. second.items at ∙ first.items at }

  abbrev stored_in : Option (Node T) → Option T
  stored_in None = None
  stored_in (Some node) = Some node.item

  pub stored_is : (s : Slab (Node T)) (at : ℕ) (slot : Option (Node T)) → get s at ≡ slot → stored s at ≡ stored_in slot
  stored_is s at None is = rw (is, stored) refl
  stored_is s at (Some node) is = rw (is, stored) refl

  same_edited : (f : Node T → Node T) (s : Slab (Node T)) (at : ℕ) → ((node : Node T) → (f node).item ≡ node.item) → SameItems s (edited f s at)
  same_edited f s at keeps = go (get s at) refl
    where
      go : (slot : Option (Node T)) → get s at ≡ slot → SameItems s (edited f s at)
      go None is = rw (is, edited) (same-refl s)
      go (Some node) is =
          let t = with_value s at (f node) in
          let same : edited f s at ≡ t = rw (is, edited) refl in
          let there = edited_at f s at node is in
          subst (λ u. SameItems s u) (sym same) (record {
            len = count-set s.slots at node (f node) is;
            capacity = refl;
            items = λ k. elim (cases_eq k at) [
              | inl here ↦
                  let read : get t at ≡ Some (f node) = ap (λ u. get u at) (sym same) ∙ there in
                  ap (stored t) here ∙ stored_is t at (Some (f node)) read ∙ ap Some (keeps node)
                  ∙ sym (stored_is s at (Some node) is) ∙ ap (stored s) (sym here)
              | inr differs ↦
                  let read : get t k ≡ get s k = ap (λ u. get u k) (sym same) ∙ edited_other f s at k differs in
                  stored_is t k (get s k) read ∙ sym (stored_is s k (get s k) refl)
            ];
          })

  same_next : (s : Slab (Node T)) (at to : Option ℕ) → SameItems s (with_next s at to)
  same_next s None to = same-refl s
  same_next s (Some at) to = same_edited _ s at (λ node. refl)

  same_prev : (s : Slab (Node T)) (at to : Option ℕ) → SameItems s (with_prev s at to)
  same_prev s None to = same-refl s
  same_prev s (Some at) to = same_edited _ s at (λ node. refl)

  pub same_joined : (s : Slab (Node T)) (left right : Option ℕ) → SameItems s (joined_nodes s left right)
  same_joined s left right = same-trans s (with_next s left right) (joined_nodes s left right) (same_next s left right) (same_prev (with_next s left right) right left)

  pub same_linked : (s : Slab (Node T)) (number : ℕ) (left : Option ℕ) (index : ℕ) (right : Option ℕ) → SameItems s (linked_nodes s number left index right)
  same_linked s number left index right =
      let s1 = edited (λ n. record n { list = number }) s index in
      let s2 = joined_nodes s1 left (Some index) in
      same-trans s s1 (linked_nodes s number left index right) (same_edited _ s index (λ node. refl))
      (same-trans s1 s2 (linked_nodes s number left index right) (same_joined s1 left (Some index)) (same_joined s2 (Some index) right))

  -- ## Where a node stands

  pub is_there : (s : Slab (Node T)) (number : ℕ) (at : Option ℕ) → IsOf s number at → IsThere s at
  is_there s number None is = tt
  is_there s number (Some at) is = (is.0, is.1)

  -- a node, where it stands among the lists, and its links
  pub record Spot (s : Slab (Node T)) (ends : List Ends) (lists : List (List (ℕ × T))) (index : ℕ) : Type 0 where
    pub number : ℕ
    pub within : number < length lists
    pub inside : number < length ends
    pub before : List (ℕ × T)
    pub item : T
    pub behind : List (ℕ × T)
    pub split : list_at lists number ≡ before ++ (index, item) ∷ behind
    pub is : get s index ≡ Some (record { item = item; list = number; prev = last_or None before; next = first_or behind None })
    pub left : IsThere s (last_or None before)
    pub right : IsThere s (first_or behind None)
    pub item_is : item_of index lists ≡ Some item
    pub len : (get_or ends number no_ends).len ≡ length before + length behind + 1

  pub spot : (s : Slab (Node T)) (ends : List Ends) (lists : List (List (ℕ × T))) (index : ℕ) → Holds s ends lists → is_some (item_of index lists) ≡ true → Spot s ends lists index
  spot s ends lists index holds live =
      let found = stands_in index lists live in
      let a = found.at.before in
      let b = found.at.behind in
      let number = found.number in
      let e : ℕ × T = (index, found.at.item) in
      let whole = subst (λ l. IsChain s number None l None) found.at.split (holds.chains number) in
      let left = chain_left s number None a (e ∷ b) None whole in
      let right = chain_right s number None a (e ∷ b) None whole in
      let ends_is : get_or ends number no_ends ≡ ends_of (a ++ e ∷ b) = ap (λ es. get_or es number no_ends) holds.ends_are ∙ ends_at lists number ∙ ap ends_of found.at.split in
      record {
        number = number;
        within = found.within;
        inside = omega (arith, found.within, ap length holds.ends_are, length-map lists ends_of);
        before = a;
        item = found.at.item;
        behind = b;
        split = found.at.split;
        is = right.0;
        left = is_there s number (last_or None a) (is_of-last s number None a (Some index) tt left);
        right = is_there s number (first_or b None) (is_of-first s number (Some index) b None tt right.1);
        item_is = found.item;
        len = ap (λ e. e.len) ends_is ∙ length-append a (e ∷ b) ∙ (omega arith);
      }

  -- an index is in no list but its own
  pub others_lack : (s : Slab (Node T)) (ends : List Ends) (lists : List (List (ℕ × T))) (index : ℕ) (node : Node T) → Holds s ends lists → get s index ≡ Some node → (k : ℕ) → k ≢ node.list → Lacks (Some index) (list_at lists k)
  others_lack s ends lists index node holds found k differs =
      chain_lacks s k None (list_at lists k) None index (λ other is same. let equal : node ≡ other = cc in differs (sym same ∙ ap (λ n. n.list) (sym equal))) (holds.chains k)

  -- the lists without a node are what is left once it leaves its list
  pub without_is : (s : Slab (Node T)) (ends : List Ends) (lists : List (List (ℕ × T))) (index : ℕ) → Holds s ends lists → (at : Spot s ends lists index) → without index lists ≡ set lists at.number (at.before ++ at.behind)
  without_is s ends lists index holds at =
      let distinct = subst (λ l. HasDistinct l) at.split (holds.distinct at.number) in
      without_found index at.number lists at.before at.item at.behind at.within at.split
      (lacks_before at.before (index, at.item) at.behind distinct)
      (others_lack s ends lists index _ holds at.is)

  -- what leaves its list is in none
  pub without_lacks_it : (s : Slab (Node T)) (ends : List Ends) (lists : List (List (ℕ × T))) (index : ℕ) → Holds s ends lists → (at : Spot s ends lists index) → (k : ℕ) → Lacks (Some index) (list_at (set lists at.number (at.before ++ at.behind)) k)
  without_lacks_it s ends lists index holds at =
      let distinct = subst (λ l. HasDistinct l) at.split (holds.distinct at.number) in
      each_list (λ k l. Lacks (Some index) l) lists at.number (at.before ++ at.behind) at.within
      (lacks_append (Some index) at.before at.behind (lacks_before at.before (index, at.item) at.behind distinct) (distinct_right at.before ((index, at.item) ∷ at.behind) distinct).0)
      (others_lack s ends lists index _ holds at.is)

  -- one node fewer
  pub live_without : (s : Slab (Node T)) (ends : List Ends) (lists : List (List (ℕ × T))) (index : ℕ) → Holds s ends lists → Spot s ends lists index → live_count (without index lists) + 1 ≡ live_count lists
  live_without s ends lists index holds at =
      let l = at.before ++ at.behind in
      let total = sum_by-set length lists at.number l [] at.within in
      let old : length (list_at lists at.number) ≡ length at.before + (length at.behind + 1) = ap length at.split ∙ length-append at.before ((index, at.item) ∷ at.behind) ∙ (omega arith) in
      let sum : live_count (set lists at.number l) + 1 ≡ live_count lists = omega (arith, total, old, length-append at.before at.behind) in
      ap (λ ls. live_count ls + 1) (without_is s ends lists index holds at) ∙ sum

  -- what `unlink` needs, and what it does
  pub record Leaving (s : Slab (Node T)) (ends : List Ends) (index : ℕ) (node : Node T) : Type 0 where
    pub inside : node.list < length ends
    pub left : IsThere s node.prev
    pub right : IsThere s node.next
    pub key : IsSome (get s index)
    pub len : (es : List Ends) → es ≡ joined_ends ends node.list node.prev node.next → 0 < (get_or es node.list no_ends).len
    pub holds : (t : Slab (Node T)) (es : List Ends) → t ≡ joined_nodes s node.prev node.next → es ≡ unlinked_ends ends node.list node.prev node.next → Holds t es (without index (lists_of s ends))

  pub leaving : (s : Slab (Node T)) (ends : List Ends) (index : ℕ) (node : Node T) → IsLinked s ends → is_some (item_of index (lists_of s ends)) ≡ true → get s index ≡ Some node → Leaving s ends index node
  leaving s ends index node linked live found =
      let at = spot s ends (lists_of s ends) index linked live in
      let is : Node T = record { item = at.item; list = at.number; prev = last_or None at.before; next = first_or at.behind None } in
      let both : Some is ≡ Some node = sym at.is ∙ found in
      let same : is ≡ node = cc in
      let result : Leaving s ends index is = record {
        inside = at.inside;
        left = at.left;
        right = at.right;
        key = rw at.is refl;
        len = λ es es_is. rw (es_is, joined_len ends at.number is.prev is.next at.inside) (omega (arith, at.len));
        holds = λ t es t_is es_is.
            subst (λ ls. Holds t es ls) (sym (without_is s ends (lists_of s ends) index linked at))
            (subst (λ u. Holds u es (set (lists_of s ends) at.number (at.before ++ at.behind))) (sym t_is)
            (subst (λ x. Holds (joined_nodes s is.prev is.next) x (set (lists_of s ends) at.number (at.before ++ at.behind))) (sym es_is)
            (holds_unlinked s ends (lists_of s ends) at.number at.before (index, at.item) at.behind linked at.within at.split)));
      } in
      subst (λ n. Leaving s ends index n) same result

  -- what a node leaves behind
  pub leaving_free : (s : Slab (Node T)) (ends : List Ends) (index : ℕ) → IsLinked s ends → IsLive index (lists_of s ends) → IsFree index (without index (lists_of s ends))
  leaving_free s ends index linked live =
      let lists = lists_of s ends in
      let at = spot s ends lists index linked live in
      subst (λ ls. IsFree index ls) (sym (without_is s ends lists index linked at)) (without_lacks_it s ends lists index linked at)

  pub leaving_fewer : (s : Slab (Node T)) (ends : List Ends) (index : ℕ) → IsLinked s ends → IsLive index (lists_of s ends) → sum_by length (without index (lists_of s ends)) + 1 ≡ sum_by length (lists_of s ends)
  leaving_fewer s ends index linked live =
      live_without s ends (lists_of s ends) index linked (spot s ends (lists_of s ends) index linked live)

  pub stored_spot : (s : Slab (Node T)) (ends : List Ends) (index : ℕ) → IsLinked s ends → IsLive index (lists_of s ends) → stored s index ≡ item_of index (lists_of s ends)
  stored_spot s ends index linked live =
      let at = spot s ends (lists_of s ends) index linked live in
      stored_is s index _ at.is ∙ sym at.item_is

  -- a node that is in no list comes to the end of one
  pub record Arriving (s : Slab (Node T)) (ends : List Ends) (number index : ℕ) (node : Node T) : Type 0 where
    pub left : IsThere s (get_or ends number no_ends).last
    pub len : (get_or ends number no_ends).len ≤ live_count (lists_of s ends)
    pub item : stored s index ≡ Some node.item
    pub same : (t : Slab (Node T)) → t ≡ linked_nodes s number (get_or ends number no_ends).last index None → SameItems s t
    pub more : live_count (with_item_last (lists_of s ends) number (index, node.item)) ≡ live_count (lists_of s ends) + 1
    pub holds : (t : Slab (Node T)) (es : List Ends) → t ≡ linked_nodes s number (get_or ends number no_ends).last index None → es ≡ linked_ends ends number (get_or ends number no_ends).last index None → Holds t es (with_item_last (lists_of s ends) number (index, node.item))

  pub arriving : (s : Slab (Node T)) (ends : List Ends) (number index : ℕ) (node : Node T) → IsLinked s ends → number < length ends → get s index ≡ Some node → IsFree index (lists_of s ends) → Arriving s ends number index node
  arriving s ends number index node linked inside found free =
      let lists = lists_of s ends in
      let l = list_at lists number in
      let e : ℕ × T = (index, node.item) in
      let within : number < length lists = omega (arith, inside, length-map ends (list_between s)) in
      let ends_is : get_or ends number no_ends ≡ ends_of l = ap (λ es. get_or es number no_ends) linked.ends_are ∙ ends_at lists number in
      let last : (get_or ends number no_ends).last ≡ last_or None l = ap (λ e. e.last) ends_is in
      let len : (get_or ends number no_ends).len ≡ length l = ap (λ e. e.len) ends_is in
      let holds = holds_linked_in s ends lists number l [] index node linked within (sym (append-nil l)) found free in
      let total = sum_by-set length lists number (l ++ e ∷ []) [] within in
      record {
        left = rw last (is_there s number (last_or None l) (is_of-last s number None l None tt (linked.chains number)));
        len = omega (arith, len, get_or-le-sum_by length lists number [] within);
        item = stored_is s index (Some node) found;
        same = λ t t_is. subst (λ u. SameItems s u) (sym t_is) (same_linked s number (get_or ends number no_ends).last index None);
        more = omega (arith, total, length-append l (e ∷ []));
        holds = λ t es t_is es_is.
            subst (λ u. Holds u es (with_item_last lists number e)) (sym t_is)
            (subst (λ x. Holds (linked_nodes s number (get_or ends number no_ends).last index None) x (with_item_last lists number e)) (sym es_is)
            (subst (λ at. Holds (linked_nodes s number at index None) (linked_ends ends number at index None) (with_item_last lists number e)) (sym last) holds));
      }

  -- a node that is in no list comes right before another one
  pub record Inserting (s : Slab (Node T)) (ends : List Ends) (at : ℕ) (other : Node T) (index : ℕ) (node : Node T) : Type 0 where
    pub inside : other.list < length ends
    pub left : IsThere s other.prev
    pub len : (get_or ends other.list no_ends).len ≤ live_count (lists_of s ends)
    pub item : stored s index ≡ Some node.item
    pub same : (t : Slab (Node T)) → t ≡ linked_nodes s other.list other.prev index (Some at) → SameItems s t
    pub more : live_count (with_item_before at (index, node.item) (lists_of s ends)) ≡ live_count (lists_of s ends) + 1
    pub holds : (t : Slab (Node T)) (es : List Ends) → t ≡ linked_nodes s other.list other.prev index (Some at) → es ≡ linked_ends ends other.list other.prev index (Some at) → Holds t es (with_item_before at (index, node.item) (lists_of s ends))

  pub inserting : (s : Slab (Node T)) (ends : List Ends) (at : ℕ) (other : Node T) (index : ℕ) (node : Node T) → IsLinked s ends → IsLive at (lists_of s ends) → get s at ≡ Some other → get s index ≡ Some node → IsFree index (lists_of s ends) → Inserting s ends at other index node
  inserting s ends at other index node linked live_at found_at found free =
      let lists = lists_of s ends in
      let place = spot s ends lists at linked live_at in
      let a = place.before in
      let b : List (ℕ × T) = (at, place.item) ∷ place.behind in
      let e : ℕ × T = (index, node.item) in
      let is : Node T = record { item = place.item; list = place.number; prev = last_or None a; next = first_or place.behind None } in
      let both : Some is ≡ Some other = sym place.is ∙ found_at in
      let same : is ≡ other = cc in
      let distinct = subst (λ l. HasDistinct l) place.split (linked.distinct place.number) in
      let lists_is = inserted_found at e place.number lists a place.item place.behind place.within place.split
      (lacks_before a (at, place.item) place.behind distinct) (others_lack s ends lists at is linked place.is) in
      let holds = holds_linked_in s ends lists place.number a b index node linked place.within place.split found free in
      let total = sum_by-set length lists place.number (a ++ e ∷ b) [] place.within in
      let old = ap length place.split in
      let new : length (a ++ e ∷ b) ≡ length (a ++ b) + 1 = omega (arith, length-append a (e ∷ b), length-append a b) in
      let ends_is : get_or ends place.number no_ends ≡ ends_of (list_at lists place.number) = ap (λ es. get_or es place.number no_ends) linked.ends_are ∙ ends_at lists place.number in
      let len : (get_or ends place.number no_ends).len ≡ length (list_at lists place.number) = ap (λ e. e.len) ends_is in
      let sum : live_count (set lists place.number (a ++ e ∷ b)) ≡ live_count lists + 1 = omega (arith, total, old, new) in
      let result : Inserting s ends at is index node = record {
        inside = place.inside;
        left = place.left;
        len = omega (arith, len, get_or-le-sum_by length lists place.number [] place.within);
        item = stored_is s index (Some node) found;
        same = λ t t_is. subst (λ u. SameItems s u) (sym t_is) (same_linked s is.list is.prev index (Some at));
        more = ap live_count lists_is ∙ sum;
        holds = λ t es t_is es_is.
            subst (λ ls. Holds t es ls) (sym lists_is)
            (subst (λ u. Holds u es (set lists place.number (a ++ e ∷ b))) (sym t_is)
            (subst (λ x. Holds (linked_nodes s is.list is.prev index (Some at)) x (set lists place.number (a ++ e ∷ b))) (sym es_is) holds));
      } in
      subst (λ n. Inserting s ends at n index node) same result

  -- ## Nodes that come into the slab and leave it

  keeps_same : (s t : Slab (Node T)) (l : List (ℕ × T)) → ((j : ℕ) → get t j ≡ get s j) → Keeps s t l
  keeps_same s t [] same = tt
  keeps_same s t (e ∷ l) same = (same e.0, keeps_same s t l same)

  holds_same : (s t : Slab (Node T)) (ends : List Ends) (lists : List (List (ℕ × T))) → ((j : ℕ) → get t j ≡ get s j) → Holds s ends lists → Holds t ends lists
  holds_same s t ends lists same holds =
      record {
        ends_are = holds.ends_are;
        chains = λ k. chain_kept s t k None (list_at lists k) None (keeps_same s t (list_at lists k) same) (holds.chains k);
        distinct = holds.distinct;
      }

  -- the slab has grown
  pub grown_holds : (s t : Slab (Node T)) (ends : List Ends) → t ≡ record s { capacity = t.capacity } → IsLinked s ends → Holds t ends (lists_of s ends)
  grown_holds s t ends grown linked = holds_same s t ends (lists_of s ends) (λ j. ap (λ u. get u j) grown) linked

  pub grown_lists : (s t : Slab (Node T)) (ends : List Ends) → t ≡ record s { capacity = t.capacity } → IsLinked s ends → lists_of t ends ≡ lists_of s ends
  grown_lists s t ends grown linked = holds_is t ends (lists_of s ends) (grown_holds s t ends grown linked)

  pub grown_pool : (s t : Slab (Node T)) (ends : List Ends) → t ≡ record s { capacity = t.capacity } → IsPool s ends → IsPool t ends
  grown_pool s t ends grown pool =
      let len : slab_len t ≡ slab_len s = ap slab_len grown in
      record {
        linked = holds_linked t ends (lists_of s ends) (grown_holds s t ends grown pool.linked);
        counted = len ∙ pool.counted ∙ ap live_count (sym (grown_lists s t ends grown pool.linked));
        limited = omega (arith, len, pool.limited);
      }

  pub vacant_free : (s : Slab (Node T)) (ends : List Ends) (lists : List (List (ℕ × T))) (index : ℕ) → get s index ≡ None → Holds s ends lists → IsFree index lists
  vacant_free s ends lists index vacant holds k =
      chain_lacks s k None (list_at lists k) None index (λ node is. let both = sym vacant ∙ is in absurd (cc)) (holds.chains k)

  -- a node that no list has comes into the slab, or leaves it
  pub others_holds : (s t : Slab (Node T)) (ends : List Ends) (index : ℕ) (slot : Option (Node T)) → Updates s t index slot → IsFree index (lists_of s ends) → IsLinked s ends → Holds t ends (lists_of s ends)
  others_holds s t ends index slot updates free linked = holds_others s t ends (lists_of s ends) index updates.others free linked

  -- a new node is in no list yet
  pub record Inserted (s u : Slab (Node T)) (ends : List Ends) (index : ℕ) (node : Node T) : Type 0 where
    pub linked : IsLinked u ends
    pub lists : lists_of u ends ≡ lists_of s ends
    pub free : IsFree index (lists_of u ends)
    pub fits : live_count (lists_of u ends) < 2 ^ 63
    pub fresh : item_of index (lists_of s ends) ≡ None
    pub there : IsThere u (Some index)
    pub item : stored u index ≡ Some node.item

  pub inserted : (s u : Slab (Node T)) (ends : List Ends) (index : ℕ) (node : Node T) → get s index ≡ None → Updates s u index (Some node) → IsPool s ends → Inserted s u ends index node
  inserted s u ends index node vacant updates pool =
      let free_s = vacant_free s ends (lists_of s ends) index vacant pool.linked in
      let holds = others_holds s u ends index (Some node) updates free_s pool.linked in
      let same : lists_of u ends ≡ lists_of s ends = holds_is u ends (lists_of s ends) holds in
      record {
        linked = holds_linked u ends (lists_of s ends) holds;
        lists = same;
        free = rw same free_s;
        fits = rw same (omega (arith, pool.counted, pool.limited));
        fresh = item_free index (lists_of s ends) free_s;
        there = (node, updates.changed);
        item = stored_is u index (Some node) updates.changed;
      }
