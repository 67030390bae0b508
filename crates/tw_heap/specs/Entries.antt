-- What a contract sees of an `EventHeap`: its entries in rising order.
--     is_before a b      a's message comes before b's, or the two are equal and a's index is less
--     entry_of index es      the entry under an index
--     IsKeyOf key index es      the entry under an index has this message
--     without index es      the entries without it
--     IsRising es, AreDistinct es, AreBelow es top      rising order, no index twice, each index below a bound
use Rattle.std.specs.Prelude.{◌≡◌, ℕ, ◌<◌, ◌==◌, Bool, true, List, [], ◌∷◌, Option, Some, None, if◌then◌else◌}
use Rattle.std.specs.Ordering.{nat_cmp, ordering_then, is_lt}
use Rattle.std.specs.declared.cmp.Ordering.{Ordering}
use Rattle.tw_msgs.specs.declared.message.Message.{Message}
use Rattle.tw_msgs.specs.Messages.{message_cmp}
use Rattle.tw_heap.specs.declared.entries.Entry.{Entry}

-- by message, then index
abbrev pub entry_cmp : Entry → Entry → Ordering
entry_cmp a b = ordering_then (message_cmp a.key b.key) (nat_cmp a.index b.index)

abbrev pub is_before : Entry → Entry → Bool
is_before a b = is_lt (entry_cmp a b)

-- the entries in rising order, how many more fit with no memory, and a bound on the indices that fit
pub record Events : Type 0 where
  pub entries : List Entry
  pub room : ℕ
  pub top : ℕ

-- the message of an entry
abbrev pub message_of : Entry → Message
message_of e = e.key

-- the entry under this index
abbrev pub entry_of : ℕ → List Entry → Option Entry
entry_of index [] = None
entry_of index (e ∷ es) = if e.index == index then Some e else entry_of index es

abbrev pub IsKeyOf : Message → ℕ → List Entry → Type 0
IsKeyOf key index es = entry_of index es ≡ Some (record { key = key; index = index })

-- without that entry
abbrev pub without : ℕ → List Entry → List Entry
without index [] = []
without index (e ∷ es) = if e.index == index then es else e ∷ without index es

abbrev pub first_of : List Entry → Option Entry
first_of [] = None
first_of (e ∷ es) = Some e

-- an entry is before the first of a list, or the list is empty
abbrev pub LeadsTo : Entry → List Entry → Type 0
LeadsTo e [] = Unit {0}
LeadsTo e (x ∷ xs) = is_before e x ≡ true

-- each entry is before the next
abbrev pub IsRising : List Entry → Type 0
IsRising [] = Unit {0}
IsRising (e ∷ es) = LeadsTo e es × IsRising es

-- no two entries have the same index
abbrev pub AreDistinct : List Entry → Type 0
AreDistinct [] = Unit {0}
AreDistinct (e ∷ es) = (entry_of e.index es ≡ None) × AreDistinct es

-- each index is below a bound
abbrev pub AreBelow : List Entry → ℕ → Type 0
AreBelow [] top = Unit {0}
AreBelow (e ∷ es) top = (e.index < top) × AreBelow es top
