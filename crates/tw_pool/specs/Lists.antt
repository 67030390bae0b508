-- What a contract sees of a `Pool`: lists of (index, item), numbered from 0, each item under an index of its own.
--     list_at lists number      the list of this number
--     item_of index lists, IsLive index lists      the item under an index, and that there is one
--     first_of l, next_of index lists, backward lists      the first index, the one after another, and the same from the end
--     without index lists      the lists without an item
--     with_item_last lists number entry, with_item_before at entry lists      the lists with one more item
--     without_first lists number n, with_last_moved lists from n to      without the first items of a list, with the last moved
--     AreDistinct lists, AreBelow lists top      no index comes twice, each is below a bound
use Rattle.std.specs.Prelude.{◌≡◌, ◌≢◌, ℕ, ◌-◌, ◌<◌, ◌==◌, List, [], ◌∷◌, ◌++◌, map, length, reverse, take, drop, Option, Some, None, cond, is_some, IsSome, slice_index_or, slice_set, refl, sum_by}
use Rattle.std.specs.Coded.{Coded, code_by, coded×, coded_ℕ, coded_list}
use Rattle.std.specs.Map.{lookup, remove_entry}

-- the lists, how many more items fit with no memory and below the limit, and a bound on their indices
-- and on those to come while there is room
pub record PoolLists (T : Type 0) : Type 0 where
  pub lists : List (List (ℕ × T))
  pub room : ℕ
  pub top : ℕ

abbrev pub pool_code : {T : Type 0} → Coded T → Coded (PoolLists T)
pool_code {T} code =
    code_by
    (List (List (ℕ × T)) × (ℕ × ℕ))
    (coded× (coded_list (coded_list (coded× coded_ℕ code))) (coded× coded_ℕ coded_ℕ))
    (λ p. (p.lists, (p.room, p.top)))
    (λ p. record { lists = p.0; room = p.1.0; top = p.1.1 })
    (λ _. refl)

module _ {T : Type 0} where
  -- the list of this number
  abbrev pub list_at : List (List (ℕ × T)) → ℕ → List (ℕ × T)
  list_at lists number = slice_index_or lists number []

  -- how many items the lists have together
  abbrev pub live_count : List (List (ℕ × T)) → ℕ
  live_count lists = sum_by length lists

  -- the item under an index, if a list has it
  abbrev pub item_of : ℕ → List (List (ℕ × T)) → Option T
  item_of index [] = None
  item_of index (l ∷ lists) =
      cond (is_some (lookup (λ k. k == index) l)) (lookup (λ k. k == index) l) (item_of index lists)

  -- a list has an item under this index
  abbrev pub IsLive : ℕ → List (List (ℕ × T)) → Type 0
  IsLive index lists = IsSome (item_of index lists)

  -- each index of the lists is below this bound
  abbrev pub AreBelow : List (List (ℕ × T)) → ℕ → Type 0
  AreBelow lists top = (index : ℕ) → IsLive index lists → index < top

  -- the first index of a list
  abbrev pub first_of : List (ℕ × T) → Option ℕ
  first_of [] = None
  first_of (e ∷ l) = Some e.0

  -- the index that comes after this one in a list
  abbrev pub after_in : ℕ → List (ℕ × T) → Option ℕ
  after_in index [] = None
  after_in index (e ∷ l) = cond (e.0 == index) (first_of l) (after_in index l)

  -- the index that comes after this one in its own list
  abbrev pub next_of : ℕ → List (List (ℕ × T)) → Option ℕ
  next_of index [] = None
  next_of index (l ∷ lists) =
      cond (is_some (lookup (λ k. k == index) l)) (after_in index l) (next_of index lists)

  -- each list in the other direction
  abbrev pub backward : List (List (ℕ × T)) → List (List (ℕ × T))
  backward lists = map reverse lists

  -- without the item under this index
  abbrev pub without : ℕ → List (List (ℕ × T)) → List (List (ℕ × T))
  without index lists = map (remove_entry (λ k. k == index)) lists

  -- with one more item at the end of a list
  abbrev pub with_item_last : List (List (ℕ × T)) → ℕ → ℕ × T → List (List (ℕ × T))
  with_item_last lists number entry =
      slice_set lists number (list_at lists number ++ entry ∷ [])

  -- a list with one more item, right before an index
  abbrev pub before_in : ℕ → ℕ × T → List (ℕ × T) → List (ℕ × T)
  before_in index entry [] = []
  before_in index entry (e ∷ l) =
      cond (e.0 == index) (entry ∷ e ∷ l) (e ∷ before_in index entry l)

  abbrev pub with_item_before : ℕ → ℕ × T → List (List (ℕ × T)) → List (List (ℕ × T))
  with_item_before index entry lists = map (before_in index entry) lists

  -- the index is none of the list's
  abbrev pub Lacks : Option ℕ → List (ℕ × T) → Type 0
  Lacks index [] = Unit {0}
  Lacks index (e ∷ l) = (Some e.0 ≢ index) × Lacks index l

  -- no index comes twice, in one list or in two
  abbrev pub AreDistinct : List (List (ℕ × T)) → Type 0
  AreDistinct lists =
      (number : ℕ) (a : List (ℕ × T)) (index : ℕ) (item : T) (b : List (ℕ × T))
      → list_at lists number ≡ a ++ (index, item) ∷ b
      → Lacks (Some index) (a ++ b) × ((other : ℕ) → other ≢ number → Lacks (Some index) (list_at lists other))

  -- without the first items of a list
  abbrev pub without_first : List (List (ℕ × T)) → ℕ → ℕ → List (List (ℕ × T))
  without_first lists number n = slice_set lists number (drop n (list_at lists number))

  -- with the last items of a list moved to the end of another one
  abbrev pub with_last_moved : List (List (ℕ × T)) → ℕ → ℕ → ℕ → List (List (ℕ × T))
  with_last_moved lists from n to =
      let l = list_at lists from in
      let left = slice_set lists from (take (length l - n) l) in
      slice_set left to (list_at left to ++ drop (length l - n) l)
