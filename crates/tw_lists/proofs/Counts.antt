-- How many nodes there are.
use Rattle.std.proofs.Common.{◌≡◌, ℕ, ◌+◌, ◌==◌, Bool, true, false, List, [], ◌∷◌, length, Some, cond, refl, arith}
use Rattle.std.proofs.lemmas.List.{length-map}
use Rattle.std.proofs.lemmas.List.Sums.{sum_by-cons}
use Rattle.tw_pool.specs.Lists.{list_at, live_count}
use Rattle.tw_heap.specs.declared.entries.Entry.{Entry}
use Rattle.tw_heap.specs.Order.{insert_by}
use Rattle.tw_heap.specs.Entries.{is_before, entry_of, without, message_of}
use Rattle.tw_lists.specs.Lists.{node_count}
use Rattle.tw_lists.specs.Nodes.{contents}
use Rattle.tw_lists.specs.Lists.{Nodes, message_at, item_at}

pub insert-length : (e : Entry) (es : List Entry) → length (insert_by is_before e es) ≡ length es + 1
insert-length e [] = refl
insert-length e (y ∷ es) = go (is_before y e) (insert-length e es)
  where
    go : (b : Bool) → length (insert_by is_before e es) ≡ length es + 1 → length (cond b (y ∷ insert_by is_before e es) (e ∷ y ∷ es)) ≡ length (y ∷ es) + 1
    go true rest = omega (arith, rest)
    go false rest = omega arith

pub without-length : (index : ℕ) (e : Entry) (es : List Entry) → entry_of index es ≡ Some e → length (without index es) + 1 ≡ length es
without-length index e [] is = absurd (cc)
without-length index e (y ∷ es) is = go (y.index == index) (λ i. without-length index e es i) is
  where
    go : (b : Bool) → (entry_of index es ≡ Some e → length (without index es) + 1 ≡ length es) → cond b (Some y) (entry_of index es) ≡ Some e → length (cond b es (y ∷ without index es)) + 1 ≡ length (y ∷ es)
    go true rest is = omega arith
    go false rest is = let more = rest is in omega (arith, more)

pub live_six : (lists : List Nodes) → length lists ≡ 6 → live_count lists ≡ length (list_at lists 0) + length (list_at lists 1) + length (list_at lists 2) + length (list_at lists 3) + length (list_at lists 4) + length (list_at lists 5)
live_six (a ∷ b ∷ c ∷ d ∷ e ∷ f ∷ []) six = omega (arith, sum_by-cons length a (b ∷ c ∷ d ∷ e ∷ f ∷ []), sum_by-cons length b (c ∷ d ∷ e ∷ f ∷ []), sum_by-cons length c (d ∷ e ∷ f ∷ []), sum_by-cons length d (e ∷ f ∷ []), sum_by-cons length e (f ∷ []), sum_by-cons length f [])
live_six [] six = absurd (omega (arith, six))
live_six (a ∷ []) six = absurd (omega (arith, six))
live_six (a ∷ b ∷ []) six = absurd (omega (arith, six))
live_six (a ∷ b ∷ c ∷ []) six = absurd (omega (arith, six))
live_six (a ∷ b ∷ c ∷ d ∷ []) six = absurd (omega (arith, six))
live_six (a ∷ b ∷ c ∷ d ∷ e ∷ []) six = absurd (omega (arith, six))
live_six (a ∷ b ∷ c ∷ d ∷ e ∷ f ∷ g ∷ more) six = absurd (omega (arith, six))

-- the six lists have as many messages as the pool has nodes
pub count_is : (lists : List Nodes) (room spare : ℕ) (entries : List Entry) → length lists ≡ 6 → length entries ≡ length (list_at lists 0) → node_count (contents lists room spare entries) ≡ live_count lists
count_is lists room spare entries six same =
    omega (arith, live_six lists six, same, length-map entries message_of, length-map (list_at lists 1) message_at, length-map (list_at lists 2) message_at, length-map (list_at lists 3) item_at, length-map (list_at lists 4) message_at, length-map (list_at lists 5) message_at)
