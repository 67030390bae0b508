-- How the nodes of a pool are linked. No public clause cites this module.
use Rattle.std.specs.Prelude.{◌≡◌, ℕ, zero, suc, ◌+◌, ◌-◌, ◌≤◌, List, [], ◌∷◌, map, length, Option, Some, None, slice_index_or, slice_set}
use Rattle.slab.specs.Slab.{Slab, get, with_value, slab_len}
use Rattle.tw_pool.specs.Lists.{list_at, live_count, Lacks}
use Rattle.tw_pool.specs.declared.links.Node.{Node}
use Rattle.tw_pool.specs.declared.links.Ends.{Ends}

abbrev pub no_ends : Ends
no_ends = record { first = None; last = None; len = 0 }

module _ {T : Type 0} where
  -- the first index of a list, or what comes after it
  abbrev pub first_or : List (ℕ × T) → Option ℕ → Option ℕ
  first_or [] next = next
  first_or (e ∷ l) next = Some e.0

  -- the last index of a list, or what comes before it
  abbrev pub last_or : Option ℕ → List (ℕ × T) → Option ℕ
  last_or prev [] = prev
  last_or prev (e ∷ l) = last_or (Some e.0) l

  abbrev pub ends_of : List (ℕ × T) → Ends
  ends_of l = record { first = first_or l None; last = last_or None l; len = length l }

  -- at most so many items, read by `next` from a node on
  abbrev pub walk : Slab (Node T) → ℕ → Option ℕ → List (ℕ × T)
  walk s zero at = []
  walk s (suc count) None = []
  walk s (suc count) (Some index) =
      elim (get s index) [ None ↦ [] | Some node ↦ (index, node.item) ∷ walk s count node.next ]

  -- the list between these ends
  abbrev pub list_between : Slab (Node T) → Ends → List (ℕ × T)
  list_between s e = walk s e.len e.first

  abbrev pub lists_of : Slab (Node T) → List Ends → List (List (ℕ × T))
  lists_of s ends = map (list_between s) ends

  -- the nodes of a list, each linked with its neighbors, between the nodes `prev` and `next`
  abbrev pub IsChain : Slab (Node T) → ℕ → Option ℕ → List (ℕ × T) → Option ℕ → Type 0
  IsChain s number prev [] next = Unit {0}
  IsChain s number prev (e ∷ l) next =
      (get s e.0 ≡ Some (record { item = e.1; list = number; prev = prev; next = first_or l next }))
      × IsChain s number (Some e.0) l next

  -- the index is in none of the lists
  abbrev pub IsFree : ℕ → List (List (ℕ × T)) → Type 0
  IsFree index lists = (number : ℕ) → Lacks (Some index) (list_at lists number)

  abbrev pub HasDistinct : List (ℕ × T) → Type 0
  HasDistinct [] = Unit {0}
  HasDistinct (e ∷ l) = Lacks (Some e.0) l × HasDistinct l

  -- the nodes and the ends hold these lists
  pub record Holds (s : Slab (Node T)) (ends : List Ends) (lists : List (List (ℕ × T))) : Type 0 where
    pub ends_are : ends ≡ map ends_of lists
    pub chains : (number : ℕ) → IsChain s number None (list_at lists number) None
    pub distinct : (number : ℕ) → HasDistinct (list_at lists number)

  abbrev pub IsLinked : Slab (Node T) → List Ends → Type 0
  IsLinked s ends = Holds s ends (lists_of s ends)

  -- what the pool keeps
  pub record IsPool (s : Slab (Node T)) (ends : List Ends) : Type 0 where
    pub linked : IsLinked s ends
    pub counted : slab_len s ≡ live_count (lists_of s ends)
    pub limited : slab_len s ≤ 1048576

  -- the slab with a node changed
  abbrev pub edited : (Node T → Node T) → Slab (Node T) → ℕ → Slab (Node T)
  edited f s at = elim (get s at) [ None ↦ s | Some node ↦ with_value s at (f node) ]

  -- the slab with another link at one node
  abbrev pub with_next : Slab (Node T) → Option ℕ → Option ℕ → Slab (Node T)
  with_next s None to = s
  with_next s (Some at) to = edited (λ node. record node { next = to }) s at

  abbrev pub with_prev : Slab (Node T) → Option ℕ → Option ℕ → Slab (Node T)
  with_prev s None to = s
  with_prev s (Some at) to = edited (λ node. record node { prev = to }) s at

  abbrev pub joined_nodes : Slab (Node T) → Option ℕ → Option ℕ → Slab (Node T)
  joined_nodes s left right = with_prev (with_next s left right) right left

  -- the node is there, or it is the end
  abbrev pub IsThere : Slab (Node T) → Option ℕ → Type 0
  IsThere s None = Unit {0}
  IsThere s (Some at) = (node : Node T) × (get s at ≡ Some node)

-- the ends with another first index of this list, where no node comes before it
abbrev pub with_first : List Ends → ℕ → Option ℕ → Option ℕ → List Ends
with_first ends number None to =
    slice_set ends number (record (slice_index_or ends number no_ends) { first = to })
with_first ends number (Some at) to = ends

abbrev pub with_last : List Ends → ℕ → Option ℕ → Option ℕ → List Ends
with_last ends number None to =
    slice_set ends number (record (slice_index_or ends number no_ends) { last = to })
with_last ends number (Some at) to = ends

abbrev pub joined_ends : List Ends → ℕ → Option ℕ → Option ℕ → List Ends
joined_ends ends number left right = with_last (with_first ends number left right) number right left

-- the ends with so many items in this list
abbrev pub with_len : List Ends → ℕ → ℕ → List Ends
with_len ends number len =
    slice_set ends number (record (slice_index_or ends number no_ends) { len = len })

-- the ends after a node has left its place between these neighbors
abbrev pub unlinked_ends : List Ends → ℕ → Option ℕ → Option ℕ → List Ends
unlinked_ends ends number left right =
    let mid = joined_ends ends number left right in
    with_len mid number ((slice_index_or mid number no_ends).len - 1)

-- the ends after a node has come between these neighbors
abbrev pub linked_ends : List Ends → ℕ → Option ℕ → ℕ → Option ℕ → List Ends
linked_ends ends number left index right =
    let mid = joined_ends (joined_ends ends number left (Some index)) number (Some index) right in
    with_len mid number ((slice_index_or mid number no_ends).len + 1)

module _ {T : Type 0} where
  -- the slab after a node has come between these neighbors
  abbrev pub linked_nodes : Slab (Node T) → ℕ → Option ℕ → ℕ → Option ℕ → Slab (Node T)
  linked_nodes s number left index right =
      joined_nodes (joined_nodes (edited (λ node. record node { list = number }) s index) left (Some index)) (Some index) right

  -- the item of a node
  abbrev pub stored : Slab (Node T) → ℕ → Option T
  stored s index = elim (get s index) [ None ↦ None | Some node ↦ Some node.item ]

  -- the same number of items, the same room, and the same items
  pub record SameItems (s t : Slab (Node T)) : Type 0 where
    pub len : slab_len t ≡ slab_len s
    pub capacity : t.capacity ≡ s.capacity
    pub items : (at : ℕ) → stored t at ≡ stored s at
