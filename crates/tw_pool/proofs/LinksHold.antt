-- How the links of a pool hold its lists, and what each change of the links makes of them.
use Rattle.std.proofs.Common.{◌≡◌, ◌≢◌, ◌⊎◌, ℕ, zero, suc, ◌+◌, ◌-◌, ◌<◌, List, [], ◌∷◌, ◌++◌, length, map, get_or, set, Option, Some, None, refl, sym, ap, subst, ◌∙◌, inl, inr, arith, length-append, append_assoc}
use Rattle.std.proofs.lemmas.Bool.{cases_eq}
use Rattle.std.proofs.lemmas.List.{get_or-set_same, length-set, set-set, set-get_or, map-set, length-map}
use Rattle.slab.specs.Slab.{Slab, get}
use Rattle.tw_pool.specs.declared.links.Node.{Node}
use Rattle.tw_pool.specs.declared.links.Ends.{Ends}
use Rattle.tw_pool.specs.Lists.{list_at, Lacks}
use Rattle.tw_pool.specs.Links.{no_ends, first_or, last_or, ends_of, walk, list_between, lists_of, IsChain, Holds, IsLinked, edited, with_next, with_prev, joined_nodes, with_first, with_last, joined_ends, with_len, unlinked_ends, linked_ends}
use Rattle.tw_pool.proofs.NodeLinks.{edited_at, edited_other, last_or-append}

module _ {T : Type 0} where
  -- ## The lists are what a walk reads

  pub walk_is : (s : Slab (Node T)) (number : ℕ) (prev : Option ℕ) (l : List (ℕ × T)) → IsChain s number prev l None → walk s (length l) (first_or l None) ≡ l
  walk_is s number prev [] chain = refl
  walk_is s number prev (e ∷ l) chain = rw (chain.0, walk) (ap (λ xs. e ∷ xs) (walk_is s number (Some e.0) l chain.1))

  lists_are : (s : Slab (Node T)) (lists : List (List (ℕ × T))) → ((k : ℕ) → (number : ℕ) × IsChain s number None (list_at lists k) None) → map (list_between s) (map ends_of lists) ≡ lists
  lists_are s [] chains = refl
  lists_are s (l ∷ lists) chains =
      let here = walk_is s (chains 0).0 None l (chains 0).1 in
      let later = lists_are s lists (λ k. chains (suc k)) in
      rw (here, later) refl

  pub holds_is : (s : Slab (Node T)) (ends : List Ends) (lists : List (List (ℕ × T))) → Holds s ends lists → lists_of s ends ≡ lists
  holds_is s ends lists holds = ap (map (list_between s)) holds.ends_are ∙ lists_are s lists (λ k. (k, holds.chains k))

  pub holds_linked : (s : Slab (Node T)) (ends : List Ends) (lists : List (List (ℕ × T))) → Holds s ends lists → IsLinked s ends
  holds_linked s ends lists holds = subst (λ ls. Holds s ends ls) (sym (holds_is s ends lists holds)) holds

  -- ## Changes that leave a list alone

  -- every node that changes is of this list
  abbrev pub OnlyIn : ℕ → Slab (Node T) → Slab (Node T) → Type 0
  OnlyIn number s t = (j : ℕ) → (get t j ≡ get s j) ⊎ ((node : Node T) × (get s j ≡ Some node) × (node.list ≡ number))

  -- the node is of this list, or it is the end
  abbrev pub IsOf : Slab (Node T) → ℕ → Option ℕ → Type 0
  IsOf s number None = Unit {0}
  IsOf s number (Some at) = (node : Node T) × (get s at ≡ Some node) × (node.list ≡ number)

  only-trans : (number : ℕ) (s t u : Slab (Node T)) → OnlyIn number s t → OnlyIn number t u → OnlyIn number s u
  only-trans number s t u first second j =
      elim (first j) [
        | inr changed ↦ inr changed
        | inl same ↦ elim (second j) [
          | inl same_too ↦ inl (same_too ∙ same)
          | inr changed ↦ inr (changed.0, sym same ∙ changed.1, changed.2)
        ]
      ]

  only_edited : (f : Node T → Node T) (number : ℕ) (s : Slab (Node T)) (at : ℕ) → IsOf s number (Some at) → OnlyIn number s (edited f s at)
  only_edited f number s at is j =
      elim (cases_eq j at) [
        | inl same ↦ inr (is.0, ap (get s) same ∙ is.1, is.2)
        | inr differs ↦ inl (edited_other f s at j differs)
      ]

  only_next : (number : ℕ) (s : Slab (Node T)) (at to : Option ℕ) → IsOf s number at → OnlyIn number s (with_next s at to)
  only_next number s None to is j = inl refl
  only_next number s (Some at) to is j = only_edited _ number s at is j

  only_prev : (number : ℕ) (s : Slab (Node T)) (at to : Option ℕ) → IsOf s number at → OnlyIn number s (with_prev s at to)
  only_prev number s None to is j = inl refl
  only_prev number s (Some at) to is j = only_edited _ number s at is j

  is_of-next : (number : ℕ) (s : Slab (Node T)) (at to other : Option ℕ) → IsOf s number other → IsOf (with_next s at to) number other
  is_of-next number s at to None is = tt
  is_of-next number s None to (Some other) is = is
  is_of-next number s (Some at) to (Some other) is =
      elim (cases_eq other at) [
        | inl same ↦ (
          record is.0 { next = to },
          ap (get (with_next s (Some at) to)) same ∙ edited_at (λ node. record node { next = to }) s at is.0 (rw same at is.1),
          is.2,
        )
        | inr differs ↦ (is.0, edited_other _ s at other differs ∙ is.1, is.2)
      ]

  is_of-prev : (number : ℕ) (s : Slab (Node T)) (at to other : Option ℕ) → IsOf s number other → IsOf (with_prev s at to) number other
  is_of-prev number s at to None is = tt
  is_of-prev number s None to (Some other) is = is
  is_of-prev number s (Some at) to (Some other) is =
      elim (cases_eq other at) [
        | inl same ↦ (
          record is.0 { prev = to },
          ap (get (with_prev s (Some at) to)) same ∙ edited_at (λ node. record node { prev = to }) s at is.0 (rw same at is.1),
          is.2,
        )
        | inr differs ↦ (is.0, edited_other _ s at other differs ∙ is.1, is.2)
      ]

  pub is_of-joined : (number : ℕ) (s : Slab (Node T)) (left right other : Option ℕ) → IsOf s number other → IsOf (joined_nodes s left right) number other
  is_of-joined number s left right other is =
      is_of-prev number (with_next s left right) right left other (is_of-next number s left right other is)

  pub only_joined : (number : ℕ) (s : Slab (Node T)) (left right : Option ℕ) → IsOf s number left → IsOf s number right → OnlyIn number s (joined_nodes s left right)
  only_joined number s left right is_left is_right =
      only-trans number s (with_next s left right) (joined_nodes s left right)
      (only_next number s left right is_left)
      (only_prev number (with_next s left right) right left (is_of-next number s left right right is_right))

  pub chain_only : (number other : ℕ) (s t : Slab (Node T)) (prev : Option ℕ) (l : List (ℕ × T)) (next : Option ℕ) → OnlyIn number s t → other ≢ number → IsChain s other prev l next → IsChain t other prev l next
  chain_only number other s t prev [] next only differs chain = tt
  chain_only number other s t prev (e ∷ l) next only differs chain =
      let kept : get t e.0 ≡ get s e.0 = elim (only e.0) [
        | inl same ↦ same
        | inr changed ↦
            let node : Node T = record { item = e.1; list = other; prev = prev; next = first_or l next } in
            let same : Some changed.0 ≡ Some node = sym changed.1 ∙ chain.0 in
            let lists : changed.0.list ≡ other = cc in
            absurd (differs (sym lists ∙ changed.2))
      ] in
      (kept ∙ chain.0, chain_only number other s t (Some e.0) l next only differs chain.1)

  -- an index of another list, or of none, is not in this one
  pub chain_lacks : (s : Slab (Node T)) (number : ℕ) (prev : Option ℕ) (l : List (ℕ × T)) (next : Option ℕ) (at : ℕ) → ((node : Node T) → get s at ≡ Some node → node.list ≢ number) → IsChain s number prev l next → Lacks (Some at) l
  chain_lacks s number prev [] next at other chain = tt
  chain_lacks s number prev (e ∷ l) next at other chain = (
    λ same.
        let index : e.0 ≡ at = cc in
        other (record { item = e.1; list = number; prev = prev; next = first_or l next }) (ap (get s) (sym index) ∙ chain.0) refl,
    chain_lacks s number (Some e.0) l next at other chain.1,
  )

  -- the ends of a part of a chain are nodes of its list
  pub is_of-last : (s : Slab (Node T)) (number : ℕ) (prev : Option ℕ) (l : List (ℕ × T)) (next : Option ℕ) → IsOf s number prev → IsChain s number prev l next → IsOf s number (last_or prev l)
  is_of-last s number prev [] next is chain = is
  is_of-last s number prev (e ∷ l) next is chain = is_of-last s number (Some e.0) l next (_, chain.0, refl) chain.1

  pub is_of-first : (s : Slab (Node T)) (number : ℕ) (prev : Option ℕ) (l : List (ℕ × T)) (next : Option ℕ) → IsOf s number next → IsChain s number prev l next → IsOf s number (first_or l next)
  is_of-first s number prev [] next is chain = is
  is_of-first s number prev (e ∷ l) next is chain = (_, chain.0, refl)
  -- ## The ends of a list

-- what stands at an end of a list, where no node comes before it
abbrev pub at_end : Option ℕ → Option ℕ → Option ℕ → Option ℕ
at_end None to old = to
at_end (Some at) to old = old

with_first_is : (ends : List Ends) (number : ℕ) (at to : Option ℕ) → with_first ends number at to ≡ set ends number (record (get_or ends number no_ends) { first = at_end at to (get_or ends number no_ends).first })
with_first_is ends number None to = refl
with_first_is ends number (Some at) to = sym (set-get_or ends number no_ends)

with_last_is : (ends : List Ends) (number : ℕ) (at to : Option ℕ) → with_last ends number at to ≡ set ends number (record (get_or ends number no_ends) { last = at_end at to (get_or ends number no_ends).last })
with_last_is ends number None to = refl
with_last_is ends number (Some at) to = sym (set-get_or ends number no_ends)

-- the ends of one list, after its parts were joined
abbrev pub joined_end : Ends → Option ℕ → Option ℕ → Ends
joined_end e left right = record { first = at_end left right e.first; last = at_end right left e.last; len = e.len }

joined_ends_is : (ends : List Ends) (number : ℕ) (left right : Option ℕ) → number < length ends → joined_ends ends number left right ≡ set ends number (joined_end (get_or ends number no_ends) left right)
joined_ends_is ends number left right within =
    let e = get_or ends number no_ends in
    let f : Ends = record e { first = at_end left right e.first } in
    let mid = with_first_is ends number left right in
    let read : get_or (set ends number f) number no_ends ≡ f = get_or-set_same ends number f no_ends within in
    ap (λ es. with_last es number right left) mid
    ∙ with_last_is (set ends number f) number right left
    ∙ ap (λ x. set (set ends number f) number (record x { last = at_end right left x.last })) read
    ∙ set-set ends number f (joined_end e left right)

pub joined_len : (ends : List Ends) (number : ℕ) (left right : Option ℕ) → number < length ends → (get_or (joined_ends ends number left right) number no_ends).len ≡ (get_or ends number no_ends).len
joined_len ends number left right within =
    ap (λ es. (get_or es number no_ends).len) (joined_ends_is ends number left right within)
    ∙ ap (λ e. e.len) (get_or-set_same ends number (joined_end (get_or ends number no_ends) left right) no_ends within)

with_len_is : (ends : List Ends) (number len : ℕ) (e : Ends) → number < length ends → with_len (set ends number e) number len ≡ set ends number (record e { len = len })
with_len_is ends number len e within =
    ap (λ x. set (set ends number e) number (record x { len = len })) (get_or-set_same ends number e no_ends within)
    ∙ set-set ends number e (record e { len = len })

unlinked_ends_is : (ends : List Ends) (number : ℕ) (left right : Option ℕ) → number < length ends → unlinked_ends ends number left right ≡ set ends number (record (joined_end (get_or ends number no_ends) left right) { len = (get_or ends number no_ends).len - 1 })
unlinked_ends_is ends number left right within =
    let e = joined_end (get_or ends number no_ends) left right in
    ap (λ mid. with_len mid number ((get_or mid number no_ends).len - 1)) (joined_ends_is ends number left right within)
    ∙ ap (λ x. with_len (set ends number e) number (x.len - 1)) (get_or-set_same ends number e no_ends within)
    ∙ with_len_is ends number (e.len - 1) e within

linked_ends_is : (ends : List Ends) (number : ℕ) (left : Option ℕ) (index : ℕ) (right : Option ℕ) → number < length ends → linked_ends ends number left index right ≡ set ends number (record { first = at_end left (Some index) (get_or ends number no_ends).first; last = at_end right (Some index) (get_or ends number no_ends).last; len = (get_or ends number no_ends).len + 1 })
linked_ends_is ends number left index right within =
    let e = joined_end (get_or ends number no_ends) left (Some index) in
    let f = joined_end e (Some index) right in
    let inside : number < length (set ends number e) = omega (arith, length-set ends number e) in
    let both : joined_ends (joined_ends ends number left (Some index)) number (Some index) right ≡ set ends number f =
    ap (λ es. joined_ends es number (Some index) right) (joined_ends_is ends number left (Some index) within)
    ∙ joined_ends_is (set ends number e) number (Some index) right inside
    ∙ ap (λ x. set (set ends number e) number (joined_end x (Some index) right)) (get_or-set_same ends number e no_ends within)
    ∙ set-set ends number e f in
    ap (λ mid. with_len mid number ((get_or mid number no_ends).len + 1)) both
    ∙ ap (λ x. with_len (set ends number f) number (x.len + 1)) (get_or-set_same ends number f no_ends within)
    ∙ with_len_is ends number (f.len + 1) f within

module _ {T : Type 0} where
  pub ends_at : (lists : List (List (ℕ × T))) (number : ℕ) → get_or (map ends_of lists) number no_ends ≡ ends_of (list_at lists number)
  ends_at [] number = refl
  ends_at (l ∷ lists) zero = refl
  ends_at (l ∷ lists) (suc number) = ends_at lists number

  last_some : (at : ℕ) (l : List (ℕ × T)) → (last : ℕ) × (last_or (Some at) l ≡ Some last)
  last_some at [] = (at, refl)
  last_some at (e ∷ l) = last_some e.0 l

  -- the first index of a list of two parts
  first_parts : (a b : List (ℕ × T)) (old : Option ℕ) → (0 < length a → old ≡ first_or a None) → at_end (last_or None a) (first_or b None) old ≡ first_or (a ++ b) None
  first_parts [] b old was = refl
  first_parts (e ∷ a) b old was = rw (last_some e.0 a).1 (was (omega arith))

  last_parts : (a b : List (ℕ × T)) (old : Option ℕ) → (0 < length b → old ≡ last_or None b) → at_end (first_or b None) (last_or None a) old ≡ last_or None (a ++ b)
  last_parts a [] old was = sym (last_or-append None a [])
  last_parts a (e ∷ b) old was = was (omega arith) ∙ sym (last_or-append None a (e ∷ b))

  first_of_first : (a b : List (ℕ × T)) → 0 < length a → first_or (a ++ b) None ≡ first_or a None
  first_of_first [] b some = absurd (omega (arith, some))
  first_of_first (e ∷ a) b some = refl

  last_of_last : (prev other : Option ℕ) (a b : List (ℕ × T)) → 0 < length b → last_or prev (a ++ b) ≡ last_or other b
  last_of_last prev other a [] some = absurd (omega (arith, some))
  last_of_last prev other a (e ∷ b) some = last_or-append prev a (e ∷ b)

  pub unlinked_ends_are : (ends : List Ends) (lists : List (List (ℕ × T))) (number : ℕ) (a : List (ℕ × T)) (e : ℕ × T) (b : List (ℕ × T)) → ends ≡ map ends_of lists → number < length lists → list_at lists number ≡ a ++ e ∷ b → unlinked_ends ends number (last_or None a) (first_or b None) ≡ map ends_of (set lists number (a ++ b))
  unlinked_ends_are ends lists number a e b are within split =
      let inside : number < length ends = omega (arith, ap length are, length-map lists ends_of) in
      let read : get_or ends number no_ends ≡ ends_of (a ++ e ∷ b) = ap (λ es. get_or es number no_ends) are ∙ ends_at lists number ∙ ap ends_of split in
      let first = first_parts a b (first_or (a ++ e ∷ b) None) (λ some. first_of_first a (e ∷ b) some) in
      let last = last_parts a b (last_or None (a ++ e ∷ b)) (λ some. last_of_last None (Some e.0) a (e ∷ b) (omega arith) ∙ last_of_last (Some e.0) None [] b some) in
      let len : length (a ++ e ∷ b) - 1 ≡ length (a ++ b) = omega (arith, length-append a (e ∷ b), length-append a b) in
      unlinked_ends_is ends number (last_or None a) (first_or b None) inside
      ∙ rw (read, first, last, len) (ap (λ es. set es number (ends_of (a ++ b))) are ∙ sym (map-set ends_of lists number (a ++ b)))

  pub linked_ends_are : (ends : List Ends) (lists : List (List (ℕ × T))) (number : ℕ) (a : List (ℕ × T)) (e : ℕ × T) (b : List (ℕ × T)) → ends ≡ map ends_of lists → number < length lists → list_at lists number ≡ a ++ b → linked_ends ends number (last_or None a) e.0 (first_or b None) ≡ map ends_of (set lists number (a ++ e ∷ b))
  linked_ends_are ends lists number a e b are within split =
      let inside : number < length ends = omega (arith, ap length are, length-map lists ends_of) in
      let read : get_or ends number no_ends ≡ ends_of (a ++ b) = ap (λ es. get_or es number no_ends) are ∙ ends_at lists number ∙ ap ends_of split in
      let first = first_parts a (e ∷ b) (first_or (a ++ b) None) (λ some. first_of_first a b some) in
      let last : at_end (first_or b None) (Some e.0) (last_or None (a ++ b)) ≡ last_or None (a ++ e ∷ b) =
      ap (λ x. at_end (first_or b None) x (last_or None (a ++ b))) (sym (last_or-append None a (e ∷ [])))
      ∙ last_parts (a ++ e ∷ []) b (last_or None (a ++ b)) (λ some. last_of_last None None a b some)
      ∙ ap (last_or None) (append_assoc a (e ∷ []) b) in
      let len : length (a ++ b) + 1 ≡ length (a ++ e ∷ b) = omega (arith, length-append a (e ∷ b), length-append a b) in
      linked_ends_is ends number (last_or None a) e.0 (first_or b None) inside
      ∙ rw (read, first, last, len) (ap (λ es. set es number (ends_of (a ++ e ∷ b))) are ∙ sym (map-set ends_of lists number (a ++ e ∷ b)))
