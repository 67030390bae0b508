-- What a contract sees of the six lists of a process, and what the calls do to them.
--     node_count lists      how many nodes they have together
--     first_consumed, front_consumed s, restored n      the first pending message, all of stamp s at the front; the last n pending again
--     with_sent m, with_all_sent way ms, with_sent_again m      messages sent; one sent again that was owed
--     cancelled way n, with_overdue_posted s      the last n sent messages taken back; what was owed for too long
--     with_pending m, without_pending m, with_orphan m, without_orphan m      messages and anti-messages come and go
--     forgotten n k, without_outgoing      the oldest consumed and sent messages, and what was outgoing, are gone
--     SameButRoom was now      the same contents, with whatever room there is
--     but_last n xs, last_ones n xs      all but the last n, and the last n
--     Nodes, AreSame      the nodes of the pool and the entries of the heap, as they are lent
--     AreHeldIn lists nodes      the lists of the pool hold these contents
--     PoolHolds pending consumed sent outgoing waiting owed nodes      what the lists of the pool hold, each item with its sign
use Rattle.std.specs.Prelude.{ℕ, ◌+◌, ◌-◌, List, [], ◌∷◌, ◌++◌, length, map, take, drop, Option, Some, None, ◌≡◌, ◌==◌, IsPermutation}
use Rattle.std.specs.Map.{lookup}
use Rattle.tw_heap.specs.declared.entries.Entry.{Entry}
use Rattle.tw_heap.specs.Entries.{entry_of}
use Rattle.tw_msgs.specs.Messages.{place, without}
use Rattle.tw_msgs.specs.declared.message.Message.{Message}
use Rattle.tw_msgs.specs.declared.message.Item.{Item}
use Rattle.tw_pool.specs.Lists.{list_at}
use Rattle.tw_theory.specs.Bundles.{front, behind, positive, positives, overdue, not_overdue, antis}
use Rattle.tw_theory.specs.Contents.{Cancel, sent_out, owed_after, outgoing_undone, owed_undone}

-- the six lists, for how many more items there is room, and for how many more messages to come beside those that were consumed
pub record Lists : Type 0 where
  pub pending : List Message
  pub consumed : List Message
  pub sent : List Message
  pub outgoing : List Item
  pub waiting : List Message
  pub owed : List Message
  pub room : ℕ
  pub spare : ℕ

-- how many nodes they have together
abbrev pub node_count : Lists → ℕ
node_count l = length l.pending + length l.consumed + length l.sent + length l.outgoing + length l.waiting + length l.owed

abbrev pub first_of : List Message → Option Message
first_of [] = None
first_of (m ∷ ms) = Some m

-- the first pending message is consumed
abbrev pub consuming : Lists → List Message → Lists
consuming c [] = c
consuming c (m ∷ ms) = record c { pending = ms; consumed = c.consumed ++ m ∷ [] }

abbrev pub first_consumed : Lists → Lists
first_consumed c = consuming c c.pending

-- the pending messages at the front that have this stamp are consumed
abbrev pub front_consumed : ℕ → Lists → Lists
front_consumed s c = record c { pending = behind s c.pending; consumed = c.consumed ++ front s c.pending }

-- the last n consumed messages are pending again
abbrev pub restored : ℕ → Lists → Lists
restored n c = record c { pending = drop (length c.consumed - n) c.consumed ++ c.pending; consumed = take (length c.consumed - n) c.consumed }

-- the last n sent messages are taken back: by this way of cancelling they are anti-messages in the outgoing list, or owed
abbrev pub cancelled : Cancel → ℕ → Lists → Lists
cancelled way n c = record c {
  sent = take (length c.sent - n) c.sent;
  outgoing = outgoing_undone way c.outgoing (drop (length c.sent - n) c.sent);
  owed = owed_undone way c.owed (drop (length c.sent - n) c.sent);
}

abbrev pub with_room : ℕ → ℕ → Lists → Lists
with_room room spare c = record c { room = room; spare = spare }

abbrev pub SameButRoom : Lists → Lists → Type 0
SameButRoom was now = now ≡ with_room now.room now.spare was

abbrev pub but_last : {A : Type 0} → ℕ → List A → List A
but_last n xs = take (length xs - n) xs

abbrev pub last_ones : {A : Type 0} → ℕ → List A → List A
last_ones n xs = drop (length xs - n) xs

-- a message is sent: it goes out, and is kept
abbrev pub with_sent : Message → Lists → Lists
with_sent m c = record c { sent = c.sent ++ m ∷ []; outgoing = c.outgoing ++ positive m ∷ [] }

-- all are sent
abbrev pub with_all_sent : Cancel → List Message → Lists → Lists
with_all_sent way ms c = record c {
  sent = c.sent ++ ms;
  outgoing = c.outgoing ++ positives (sent_out way c.owed ms);
  owed = owed_after way c.owed ms;
}

-- an owed message is sent again
abbrev pub with_sent_again : Message → Lists → Lists
with_sent_again m c = record c { sent = c.sent ++ m ∷ []; owed = without m c.owed }

-- the owed messages that were sent before s are anti-messages in the outgoing list
abbrev pub with_overdue_posted : ℕ → Lists → Lists
with_overdue_posted s c = record c { outgoing = c.outgoing ++ antis (overdue s c.owed); owed = not_overdue s c.owed }

abbrev pub with_pending : Message → Lists → Lists
with_pending m c = record c { pending = place m c.pending }

abbrev pub without_pending : Message → Lists → Lists
without_pending m c = record c { pending = without m c.pending }

abbrev pub with_orphan : Message → Lists → Lists
with_orphan m c = record c { waiting = c.waiting ++ m ∷ [] }

abbrev pub without_orphan : Message → Lists → Lists
without_orphan m c = record c { waiting = without m c.waiting }

abbrev pub without_outgoing : Lists → Lists
without_outgoing c = record c { outgoing = [] }

-- the first n consumed and the first k sent messages are gone
abbrev pub forgotten : ℕ → ℕ → Lists → Lists
forgotten n k c = record c { consumed = drop n c.consumed; sent = drop k c.sent }

-- ---- Nodes of the pool and entries of the heap, as they are lent

abbrev pub Nodes : Type 0
Nodes = List (ℕ × Item)

abbrev pub item_at : ℕ × Item → Item
item_at node = node.1

abbrev pub message_at : ℕ × Item → Message
message_at node = node.1.message

-- the entry of a node
abbrev pub event : ℕ → Option Item → Option Entry
event index None = None
event index (Some item) = Some (record { key = item.message; index = index })

-- under each index both have nothing, or a node and its entry
abbrev pub AreSame : Nodes → List Entry → Type 0
AreSame nodes entries = (index : ℕ) → entry_of index entries ≡ event index (lookup (λ k. k == index) nodes)

-- what the lists of a pool hold: list 0 the pending messages in any order, the others theirs in order
pub record PoolHolds (pending consumed sent : List Message) (outgoing : List Item) (waiting owed : List Message) (lists : List Nodes) : Type 0 where
  pub pending_is : IsPermutation (positives pending) (map item_at (list_at lists 0))
  pub consumed_is : map item_at (list_at lists 1) ≡ positives consumed
  pub sent_is : map item_at (list_at lists 2) ≡ antis sent
  pub outgoing_is : map item_at (list_at lists 3) ≡ outgoing
  pub waiting_is : map item_at (list_at lists 4) ≡ antis waiting
  pub owed_is : map item_at (list_at lists 5) ≡ antis owed

abbrev pub AreHeldIn : Lists → List Nodes → Type 0
AreHeldIn c nodes = PoolHolds c.pending c.consumed c.sent c.outgoing c.waiting c.owed nodes
