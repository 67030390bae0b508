-- What a finder knows of a list. No public clause cites this module.
use Rattle.std.specs.Prelude.{ℕ, ◌+◌, ◌≡◌, ◌==◌, ◌&&◌, Bool, List, [], ◌∷◌, ◌++◌, length, map, Option, Some, None, if◌then◌else◌}
use Rattle.std.specs.Ordering.{int_eq}
use Rattle.std.specs.HashMap.{get, HashMap}
use Rattle.tw_msgs.specs.Counting.{total, one_at}
use Rattle.tw_msgs.specs.Messages.{same_message}
use Rattle.tw_msgs.specs.declared.message.Message.{Message}
use Rattle.tw_msgs.specs.declared.message.Item.{Item}
use Rattle.tw_lists.specs.declared.finder.Key.{Key}
use Rattle.tw_lists.specs.declared.finder.Equals.{Equals}
use Rattle.tw_lists.specs.declared.finder.Finder.{Finder}
use Rattle.tw_pool.specs.Lists.{list_at}
use Rattle.tw_lists.specs.Lists.{Nodes, message_at}

-- what a message is found by
abbrev pub key_of : Message → Key
key_of m = record { stamp = m.stamp; port = m.port; value = m.value; to = m.to }

abbrev pub same_key : Key → Key → Bool
same_key a b = (a.stamp == b.stamp) && ((a.port == b.port) && (int_eq a.value b.value && (a.to == b.to)))

-- the first of the nodes that have a message, and how many have it
abbrev pub equal_in : Message → Nodes → Option Equals
equal_in m [] = None
equal_in m (node ∷ nodes) = if same_message m node.1.message then Some (record { first = node.0; count = 1 + total (one_at m) (map message_at nodes) }) else equal_in m nodes

-- the nodes behind one
abbrev pub behind : ℕ → Nodes → Nodes
behind index [] = []
behind index (node ∷ nodes) = if node.0 == index then nodes else behind index nodes

module _ {S : Type 0} where
  -- of each message what a list has of it
  abbrev pub Knows : HashMap Key Equals S → Nodes → Type 0
  Knows known nodes = (m : Message) → get same_key known (key_of m) ≡ equal_in m nodes

  -- of a list all is known but the last nodes
  pub record Finds (known : HashMap Key Equals S) (late : ℕ) (nodes : Nodes) : Type 0 where
    pub front : Nodes
    pub back : Nodes
    pub split : nodes ≡ front ++ back
    pub late_is : length back ≡ late
    pub knows : Knows known front

  -- one more node at the end is known, of this message
  abbrev pub Learns : ℕ → Message → HashMap Key Equals S → HashMap Key Equals S → Type 0
  Learns index m old new = (nodes : Nodes) (item : Item) → item.message ≡ m → Knows old nodes → Knows new (nodes ++ (index, item) ∷ [])

  -- a list is found without its last node, of this message
  abbrev pub LosesLast : Message → HashMap Key Equals S → ℕ → HashMap Key Equals S → ℕ → Type 0
  LosesLast m old late new late' =
      (nodes : Nodes) (node : ℕ × Item) → node.1.message ≡ m → Finds old late (nodes ++ node ∷ []) → Finds new late' nodes

-- the waiting and the owed messages are found
abbrev pub AreFound : Finder → Finder → List Nodes → Type 0
AreFound waiting owed lists = Finds waiting.known waiting.late (list_at lists 4) × Finds owed.known owed.late (list_at lists 5)
