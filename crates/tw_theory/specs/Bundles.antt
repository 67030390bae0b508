-- Lists of messages and of items in transit.
--     first_stamp ms      the stamp of the first message, or never
--     front s ms, behind s ms      the messages of stamp s at the front, and those behind them
--     addressed c ms      the messages to component c
--     sent_anew owed ms, still_owed owed ms      of messages to be sent those that none owed matches, and what is owed then
use Rattle.std.specs.Prelude.{ℕ, ◌≤◌, min, List, [], ◌∷◌, map, ◌==◌, if◌then◌else◌}
use Rattle.tw_msgs.specs.Bags.{Bag}
use Rattle.tw_msgs.specs.Messages.{has, without}
use Rattle.tw_msgs.specs.declared.message.Item.{Item}
use Rattle.tw_msgs.specs.declared.message.Message.{Message}
use Rattle.tw_msgs.specs.declared.message.Sign.TheVariants.{Positive, Anti}
use Rattle.tw_vtime.specs.Stamps.{never, is_overdue}

-- ---- messages in order

-- of a list in order the least stamp
abbrev pub first_stamp : List Message → ℕ
first_stamp [] = never
first_stamp (m ∷ ms) = m.stamp

-- in the order of their stamps
abbrev pub Ascending : List Message → Type 0
Ascending [] = Unit {0}
Ascending (m ∷ ms) = (m.stamp ≤ first_stamp ms) × Ascending ms

abbrev pub front : ℕ → List Message → List Message
front s [] = []
front s (m ∷ ms) = if m.stamp == s then m ∷ front s ms else []

abbrev pub behind : ℕ → List Message → List Message
behind s [] = []
behind s (m ∷ ms) = if m.stamp == s then behind s ms else m ∷ ms

-- ---- receivers and bags

abbrev pub addressed : ℕ → List Message → List Message
addressed c [] = []
addressed c (m ∷ ms) = if m.to == c then m ∷ addressed c ms else addressed c ms

-- the ports and values alone
abbrev pub items_of : List Message → Bag
items_of [] = []
items_of (m ∷ ms) = (m.port, m.value) ∷ items_of ms

-- the messages of stamp s to component c that carry these items
abbrev pub messages_for : ℕ → ℕ → Bag → List Message
messages_for c s [] = []
messages_for c s (x ∷ xs) = record { stamp = s; port = x.0; value = x.1; to = c } ∷ messages_for c s xs

-- ---- items in transit

abbrev pub positive : Message → Item
positive m = record { sign = Positive; message = m }

abbrev pub anti : Message → Item
anti m = record { sign = Anti; message = m }

abbrev pub positives : List Message → List Item
positives ms = map positive ms

abbrev pub antis : List Message → List Item
antis ms = map anti ms

-- the least stamp of the items, positive and anti, or never
abbrev pub least_stamp : List Item → ℕ
least_stamp [] = never
least_stamp (i ∷ is) = min i.message.stamp (least_stamp is)

-- ---- messages owed: taken back without an anti-message, which they get where their sender passes them by without sending them again

-- each message to be sent takes the first equal one that is owed, if there is one; only the others are sent
abbrev pub sent_anew : List Message → List Message → List Message
sent_anew owed [] = []
sent_anew owed (m ∷ ms) = if has m owed then sent_anew (without m owed) ms else m ∷ sent_anew owed ms

abbrev pub still_owed : List Message → List Message → List Message
still_owed owed [] = owed
still_owed owed (m ∷ ms) = if has m owed then still_owed (without m owed) ms else still_owed owed ms

-- those that an output before s sent, and the others: a message for the transition of a time is sent by the output of that time
abbrev pub overdue : ℕ → List Message → List Message
overdue s [] = []
overdue s (m ∷ ms) = if is_overdue m.stamp s then m ∷ overdue s ms else overdue s ms

abbrev pub not_overdue : ℕ → List Message → List Message
not_overdue s [] = []
not_overdue s (m ∷ ms) = if is_overdue m.stamp s then not_overdue s ms else m ∷ not_overdue s ms

abbrev pub least_owed : List Message → ℕ
least_owed [] = never
least_owed (m ∷ ms) = min m.stamp (least_owed ms)
