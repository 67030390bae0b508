-- How the six lists lie in a pool and a heap. No public clause cites this module.
use Rattle.std.specs.Prelude.{ℤ, ◌≢◌, ◌++◌, take, drop, true, false, ◌≡◌, ℕ, ◌-◌, ◌<◌, ◌≤◌, nat_le, List, [], ◌∷◌, map, length, Option, Some, None, if◌then◌else◌}
use Rattle.tw_pool.specs.Lists.{list_at, with_item_last, without}
use Rattle.tw_heap.specs.declared.entries.Entry.{Entry}
use Rattle.tw_heap.specs.Entries.{Events, message_of}
use Rattle.tw_msgs.specs.Messages.{same_message}
use Rattle.tw_msgs.specs.declared.message.Message.{Message}
use Rattle.tw_msgs.specs.declared.message.Item.{Item}
use Rattle.tw_theory.specs.Bundles.{positive, anti, front, behind, items_of}
use Rattle.tw_vtime.specs.Stamps.{is_overdue}
use Rattle.tw_lists.specs.Lists.{Lists, Nodes, item_at, message_at, AreSame}

-- for how many messages the heap has room beside n, if no index can be too great for it
abbrev pub spare_of : ℕ → Events → ℕ → ℕ
spare_of top heap n = if nat_le top heap.top then heap.room - n else 0

abbrev pub contents : List Nodes → ℕ → ℕ → List Entry → Lists
contents lists room spare entries = record {
  pending = map message_of entries;
  consumed = map message_at (list_at lists 1);
  sent = map message_at (list_at lists 2);
  outgoing = map item_at (list_at lists 3);
  waiting = map message_at (list_at lists 4);
  owed = map message_at (list_at lists 5);
  room = room;
  spare = spare;
}

-- each index is less
abbrev pub IsBelow : ℕ → Nodes → Type 0
IsBelow top [] = Unit {0}
IsBelow top (node ∷ nodes) = (node.0 < top) × IsBelow top nodes

-- each item is this one of its message
abbrev pub AreOf : (Message → Item) → Nodes → Type 0
AreOf item nodes = map item_at nodes ≡ map item (map message_at nodes)

-- the sign of each item: a sent, a waiting and an owed message is kept as its anti-message
pub record AreSigned (lists : List Nodes) : Type 0 where
  pub pending : AreOf positive (list_at lists 0)
  pub consumed : AreOf positive (list_at lists 1)
  pub sent : AreOf anti (list_at lists 2)
  pub waiting : AreOf anti (list_at lists 4)
  pub owed : AreOf anti (list_at lists 5)

-- what the lists keep
pub record IsKept (lists : List Nodes) (heap : Events) : Type 0 where
  -- the heap has exactly the pending nodes, each under its own message
  pub same : AreSame (list_at lists 0) heap.entries
  pub count : length heap.entries ≡ length (list_at lists 0)
  -- what was consumed can be pending again without memory
  pub consumed_below : IsBelow heap.top (list_at lists 1)
  pub room : length (list_at lists 1) ≤ heap.room
  pub signed : AreSigned lists

-- the nodes whose message was sent before s, and the others
abbrev pub overdue_nodes : ℕ → Nodes → Nodes
overdue_nodes s [] = []
overdue_nodes s (node ∷ nodes) = if is_overdue node.1.message.stamp s then node ∷ overdue_nodes s nodes else overdue_nodes s nodes

abbrev pub not_overdue_nodes : ℕ → Nodes → Nodes
not_overdue_nodes s [] = []
not_overdue_nodes s (node ∷ nodes) = if is_overdue node.1.message.stamp s then not_overdue_nodes s nodes else node ∷ not_overdue_nodes s nodes

-- the first pending message is of this stamp, and carries this
abbrev pub IsNext : ℕ → ℕ × ℤ → List Message → Type 0
IsNext s item [] = ⊥
IsNext s item (m ∷ ms) = (m.stamp ≡ s) × (m.port ≡ item.0) × (m.value ≡ item.1)

-- the first n messages of stamp s are consumed, and they carry the first n of the bag
pub record IsPart (s n : ℕ) (bag : List (ℕ × ℤ)) (old new : Lists) : Type 0 where
  pub enough : n ≤ length (front s old.pending)
  pub carry : take n (items_of (front s old.pending)) ≡ take n bag
  pub consumed_is : new.consumed ≡ old.consumed ++ take n (front s old.pending)
  pub pending_is : new.pending ≡ drop n (front s old.pending) ++ behind s old.pending
  pub same : new ≡ record old { consumed = new.consumed; pending = new.pending }

-- of the first n owed nodes those overdue are in the outgoing list
pub record IsSettled (s n : ℕ) (lists now : List Nodes) : Type 0 where
  pub count : length now ≡ length lists
  pub owed_is : list_at now 5 ≡ not_overdue_nodes s (take n (list_at lists 5)) ++ drop n (list_at lists 5)
  pub outgoing_is : list_at now 3 ≡ list_at lists 3 ++ overdue_nodes s (take n (list_at lists 5))
  pub others : (k : ℕ) → k ≢ 3 → k ≢ 5 → list_at now k ≡ list_at lists k

-- a node is in the outgoing list, if it is overdue
pub record IsPosted (s index : ℕ) (item : Item) (lists now : List Nodes) : Type 0 where
  pub due : is_overdue item.message.stamp s ≡ true → now ≡ with_item_last (without index lists) 3 (index, item)
  pub early : is_overdue item.message.stamp s ≡ false → now ≡ lists

-- the first index in a list whose message equals m
abbrev pub index_of : Message → Nodes → Option ℕ
index_of m [] = None
index_of m (node ∷ nodes) = if same_message m node.1.message then Some node.0 else index_of m nodes
