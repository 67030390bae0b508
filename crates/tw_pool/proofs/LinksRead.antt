-- What the ends and the links of a pool's nodes say of its lists, in both directions.
use Rattle.std.proofs.Common.{◌≡◌, ◌≢◌, ℕ, zero, suc, ◌+◌, ◌<◌, ◌≤◌, List, [], ◌∷◌, ◌++◌, length, map, reverse, get_or, set, drop, replicate, Option, Some, None, IsSome, IfSome, refl, sym, ap, subst, ◌∙◌, zero-add, add-one, arith, append-nil, append_assoc}
use Rattle.std.proofs.lemmas.List.{reverse-append, length-map, length-set, set-set, get_or-set_same}
use Rattle.std.proofs.lemmas.List.Sums.{sum_by-cons, get_or-le-sum_by}
use Rattle.slab.specs.Slab.{Slab, get, slab_len}
use Rattle.slab.proofs.SlabLemmas.{ContainsKey-within}
use Rattle.tw_pool.specs.declared.links.Node.{Node}
use Rattle.tw_pool.specs.declared.links.Ends.{Ends}
use Rattle.tw_pool.specs.Lists.{list_at, IsLive, AreBelow, first_of, next_of, backward, live_count, AreDistinct, without_first}
use Rattle.tw_pool.specs.Links.{no_ends, first_or, last_or, ends_of, list_between, lists_of, IsChain, HasDistinct, Holds, IsLinked, IsPool}
use Rattle.tw_pool.proofs.ListsSeen.{lacks_append, distinct_right, lacks_before}
use Rattle.tw_pool.proofs.ListsByIndex.{backward_at, lacks-reverse, next_found, first_is_live, last_is_live, next_is_live, prev_is_live}
use Rattle.tw_pool.proofs.NodeLinks.{chain_right}
use Rattle.tw_pool.proofs.LinksHold.{ends_at, holds_is, holds_linked}
use Rattle.tw_pool.proofs.LinkChanges.{spot, others_lack}

ends-empty : (T : Type 0) (n : ℕ) → replicate n no_ends ≡ map (ends_of {T = T}) (replicate n [])
ends-empty T zero = refl
ends-empty T (suc n) = ap (λ es. no_ends ∷ es) (ends-empty T n)

live_count-empty : (T : Type 0) (n : ℕ) → live_count (replicate {A = List (ℕ × T)} n []) ≡ 0
live_count-empty T zero = refl
live_count-empty T (suc n) = sum_by-cons (length {A = ℕ × T}) [] (replicate n []) ∙ zero-add (live_count (replicate {A = List (ℕ × T)} n [])) ∙ live_count-empty T n

module _ {T : Type 0} where
  first_is : (l : List (ℕ × T)) → first_or l None ≡ first_of l
  first_is [] = refl
  first_is (e ∷ l) = refl

  first_of-reverse : (prev : Option ℕ) (l : List (ℕ × T)) (rest : List (ℕ × T)) → first_of rest ≡ prev → first_of (reverse l ++ rest) ≡ last_or prev l
  first_of-reverse prev [] rest is = is
  first_of-reverse prev (e ∷ l) rest is =
      ap (λ xs. first_of (xs ++ rest)) (reverse-append (e ∷ []) l) ∙ ap first_of (append_assoc (reverse l) (e ∷ []) rest) ∙ first_of-reverse (Some e.0) l (e ∷ rest) refl

  last_is : (l : List (ℕ × T)) → last_or None l ≡ first_of (reverse l)
  last_is l = sym (ap first_of (sym (append-nil (reverse l))) ∙ first_of-reverse None l [] refl)

  pub within_lists : (s : Slab (Node T)) (ends : List Ends) (number : ℕ) → number < length ends → number < length (lists_of s ends)
  within_lists s ends number within = omega (arith, within, length-map ends (list_between s))

  -- the ends of a list
  pub first_read : (s : Slab (Node T)) (ends : List Ends) (number : ℕ) → IsLinked s ends → (get_or ends number no_ends).first ≡ first_of (list_at (lists_of s ends) number)
  first_read s ends number linked =
      ap (λ e. e.first) (ap (λ es. get_or es number no_ends) linked.ends_are ∙ ends_at (lists_of s ends) number)
      ∙ first_is (list_at (lists_of s ends) number)

  pub len_read : (s : Slab (Node T)) (ends : List Ends) (number : ℕ) → IsLinked s ends → (get_or ends number no_ends).len ≡ length (list_at (lists_of s ends) number)
  len_read s ends number linked =
      ap (λ e. e.len) (ap (λ es. get_or es number no_ends) linked.ends_are ∙ ends_at (lists_of s ends) number)

  pub len_limited : (s : Slab (Node T)) (ends : List Ends) (number : ℕ) → IsPool s ends → number < length ends → (get_or ends number no_ends).len ≤ 1048576
  len_limited s ends number pool within =
      let inside : number < length (lists_of s ends) = omega (arith, within, length-map ends (list_between s)) in
      omega (arith, len_read s ends number pool.linked, get_or-le-sum_by length (lists_of s ends) number [] inside, pool.counted, pool.limited)

  pub last_read : (s : Slab (Node T)) (ends : List Ends) (number : ℕ) → IsLinked s ends → (get_or ends number no_ends).last ≡ first_of (list_at (backward (lists_of s ends)) number)
  last_read s ends number linked =
      ap (λ e. e.last) (ap (λ es. get_or es number no_ends) linked.ends_are ∙ ends_at (lists_of s ends) number)
      ∙ last_is (list_at (lists_of s ends) number)
      ∙ ap first_of (sym (backward_at (lists_of s ends) number))

  -- the links of a node
  pub next_read : (s : Slab (Node T)) (ends : List Ends) (index : ℕ) (node : Node T) → IsLinked s ends → IsLive index (lists_of s ends) → get s index ≡ Some node → node.next ≡ next_of index (lists_of s ends)
  next_read s ends index node linked live found =
      let lists = lists_of s ends in
      let at = spot s ends lists index linked live in
      let both = sym found ∙ at.is in
      let same : node.next ≡ first_or at.behind None = cc in
      let distinct = subst (λ l. HasDistinct l) at.split (linked.distinct at.number) in
      same ∙ first_is at.behind
      ∙ sym (next_found index at.number lists at.before at.item at.behind at.within at.split (lacks_before at.before (index, at.item) at.behind distinct) (others_lack s ends lists index _ linked at.is))

  pub prev_read : (s : Slab (Node T)) (ends : List Ends) (index : ℕ) (node : Node T) → IsLinked s ends → IsLive index (lists_of s ends) → get s index ≡ Some node → node.prev ≡ next_of index (backward (lists_of s ends))
  prev_read s ends index node linked live found =
      let lists = lists_of s ends in
      let at = spot s ends lists index linked live in
      let both = sym found ∙ at.is in
      let same : node.prev ≡ last_or None at.before = cc in
      let distinct = subst (λ l. HasDistinct l) at.split (linked.distinct at.number) in
      let a = at.before in
      let b = at.behind in
      let turned : reverse (a ++ (index, at.item) ∷ b) ≡ reverse b ++ (index, at.item) ∷ reverse a =
      reverse-append a ((index, at.item) ∷ b)
      ∙ ap (λ xs. xs ++ reverse a) (reverse-append ((index, at.item) ∷ []) b)
      ∙ append_assoc (reverse b) ((index, at.item) ∷ []) (reverse a) in
      same ∙ last_is a
      ∙ sym (next_found index at.number (backward lists) (reverse b) at.item (reverse a) (omega (arith, at.within, length-map lists (reverse {A = ℕ × T})))
      (backward_at lists at.number ∙ ap reverse at.split ∙ turned)
      (lacks-reverse (Some index) b (distinct_right a ((index, at.item) ∷ b) distinct).0)
      (λ k differs. rw (backward_at lists k) (lacks-reverse (Some index) (list_at lists k) (others_lack s ends lists index _ linked at.is k differs))))

  -- a live index has a slot
  pub live_below : (s : Slab (Node T)) (ends : List Ends) (top : ℕ) → IsLinked s ends → length s.slots ≤ top → AreBelow (lists_of s ends) top
  live_below s ends top linked slots index live =
      let at = spot s ends (lists_of s ends) index linked live in
      let key : IsSome (get s index) = rw at.is refl in
      omega (arith, slots, ContainsKey-within s index key)

  -- no index comes twice
  pub linked_distinct : (s : Slab (Node T)) (ends : List Ends) → IsLinked s ends → AreDistinct (lists_of s ends)
  linked_distinct s ends linked number a index item b split =
      let whole = subst (λ l. IsChain s number None l None) split (linked.chains number) in
      let distinct = subst (λ l. HasDistinct l) split (linked.distinct number) in
      let right = chain_right s number None a ((index, item) ∷ b) None whole in (
        lacks_append (Some index) a b (lacks_before a (index, item) b distinct) (distinct_right a ((index, item) ∷ b) distinct).0,
        others_lack s ends (lists_of s ends) index _ linked right.0,
      )

  first_of-drop : (l : List (ℕ × T)) (n : ℕ) → n < length l → first_of (drop n l) ≢ None
  first_of-drop [] n within = absurd (omega (arith, within))
  first_of-drop (e ∷ l) zero within = λ none. cc
  first_of-drop (e ∷ l) (suc n) within = first_of-drop l n (omega (arith, within))

  drop-one_more : (l : List (ℕ × T)) (n : ℕ) → drop 1 (drop n l) ≡ drop (suc n) l
  drop-one_more [] zero = refl
  drop-one_more [] (suc n) = refl
  drop-one_more (e ∷ l) zero = refl
  drop-one_more (e ∷ l) (suc n) = drop-one_more l n

  -- the ends of a list and the neighbors of a node are live
  pub first_read_live : (s : Slab (Node T)) (ends : List Ends) (number : ℕ) → IsLinked s ends → number < length ends → IfSome (get_or ends number no_ends).first (λ index. IsLive index (lists_of s ends))
  first_read_live s ends number linked within =
      let inside : number < length (lists_of s ends) = omega (arith, within, length-map ends (list_between s)) in
      subst (λ o. IfSome o (λ index. IsLive index (lists_of s ends))) (sym (first_read s ends number linked))
      (first_is_live (lists_of s ends) number (linked_distinct s ends linked) inside)

  pub last_read_live : (s : Slab (Node T)) (ends : List Ends) (number : ℕ) → IsLinked s ends → number < length ends → IfSome (get_or ends number no_ends).last (λ index. IsLive index (lists_of s ends))
  last_read_live s ends number linked within =
      let inside : number < length (lists_of s ends) = omega (arith, within, length-map ends (list_between s)) in
      subst (λ o. IfSome o (λ index. IsLive index (lists_of s ends))) (sym (last_read s ends number linked))
      (last_is_live (lists_of s ends) number (linked_distinct s ends linked) inside)

  pub next_read_live : (s : Slab (Node T)) (ends : List Ends) (index : ℕ) (node : Node T) → IsLinked s ends → IsLive index (lists_of s ends) → get s index ≡ Some node → IfSome node.next (λ after. IsLive after (lists_of s ends))
  next_read_live s ends index node linked live found =
      subst (λ o. IfSome o (λ after. IsLive after (lists_of s ends))) (sym (next_read s ends index node linked live found))
      (next_is_live (lists_of s ends) index (linked_distinct s ends linked) live)

  pub prev_read_live : (s : Slab (Node T)) (ends : List Ends) (index : ℕ) (node : Node T) → IsLinked s ends → IsLive index (lists_of s ends) → get s index ≡ Some node → IfSome node.prev (λ before. IsLive before (lists_of s ends))
  prev_read_live s ends index node linked live found =
      subst (λ o. IfSome o (λ before. IsLive before (lists_of s ends))) (sym (prev_read s ends index node linked live found))
      (prev_is_live (lists_of s ends) index (linked_distinct s ends linked) live)

  -- a new pool
  replicate-empty : (n number : ℕ) → get_or (replicate {A = List (ℕ × T)} n []) number [] ≡ []
  replicate-empty zero number = refl
  replicate-empty (suc n) zero = refl
  replicate-empty (suc n) (suc number) = replicate-empty n number

  pub empty_holds : (s : Slab (Node T)) (n : ℕ) → Holds s (replicate n no_ends) (replicate n [])
  empty_holds s n =
      record {
        ends_are = ends-empty T n;
        chains = λ k. rw (replicate-empty n k) tt;
        distinct = λ k. rw (replicate-empty n k) tt;
      }

  pub empty_pool : (s : Slab (Node T)) (n : ℕ) → s.slots ≡ [] → IsPool s (replicate n no_ends)
  empty_pool s n none =
      let holds = empty_holds s n in
      let len : slab_len s ≡ 0 = rw none refl in
      record {
        linked = holds_linked s (replicate n no_ends) (replicate n []) holds;
        counted = len ∙ sym (ap live_count (holds_is s (replicate n no_ends) (replicate n []) holds) ∙ live_count-empty T n);
        limited = omega (arith, len);
      }

  -- so many items have gone from the front of a list, and one more goes
  pub record Shorter (lists now : List (List (ℕ × T))) (number n : ℕ) : Type 0 where
    pub some : first_of (list_at now number) ≢ None
    pub more : without_first now number 1 ≡ without_first lists number (n + 1)

  pub shorter : (lists now : List (List (ℕ × T))) (number n : ℕ) → number < length now → n < length (list_at lists number) → now ≡ without_first lists number n → Shorter lists now number n
  shorter lists now number n within inside is =
      let l = drop n (list_at lists number) in
      let within_old : number < length lists = omega (arith, within, ap length is, length-set lists number l) in
      let read : list_at now number ≡ l = ap (λ ls. list_at ls number) is ∙ get_or-set_same lists number l [] within_old in
      record {
        some = rw read (first_of-drop (list_at lists number) n inside);
        more =
            ap (λ x. set now number (drop 1 x)) read
            ∙ ap (λ ls. set ls number (drop 1 l)) is
            ∙ set-set lists number l (drop 1 l)
            ∙ ap (set lists number) (drop-one_more (list_at lists number) n ∙ ap (λ k. drop k (list_at lists number)) (sym (add-one n)));
      }
