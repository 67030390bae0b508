-- Messages and their order: by stamp, port, value and receiver.
--     at_or_before m n      whether m stands before n, or is n
--     message_cmp m n      how m stands to n in that order
--     ComesBefore m n      the order in the words of the subject
--     place m ms      the list with m at its place
--     sorted_messages ms      the same messages in order
--     Sorted ms      the list is in order
--     has m ms, without m ms      whether an equal message is in the list, and the list without the first such
use Rattle.std.specs.Prelude.{◌≡◌, ◌<◌, ◌<ℤ◌, ◌⊎◌, List, [], ◌∷◌, Bool, true, false, ◌&&◌, ◌||◌, ◌==◌, nat_lt, nat_le, int_lt, if◌then◌else◌}
use Rattle.std.specs.Ordering.{int_eq, nat_cmp, int_cmp, ordering_then}
use Rattle.std.specs.declared.cmp.Ordering.{Ordering}
use Rattle.tw_msgs.specs.declared.message.Message.{Message}

abbrev pub same_message : Message → Message → Bool
same_message m n = (m.to == n.to) && (m.port == n.port) && (m.stamp == n.stamp) && int_eq m.value n.value

abbrev pub at_or_before : Message → Message → Bool
at_or_before m n =
    nat_lt m.stamp n.stamp
    || (m.stamp == n.stamp) && (nat_lt m.port n.port || (m.port == n.port) && (int_lt m.value n.value || int_eq m.value n.value && nat_le m.to n.to))

abbrev pub place : Message → List Message → List Message
place m [] = m ∷ []
place m (n ∷ ns) = if at_or_before m n then m ∷ n ∷ ns else n ∷ place m ns

abbrev pub sorted_messages : List Message → List Message
sorted_messages [] = []
sorted_messages (m ∷ ms) = place m (sorted_messages ms)

abbrev pub has : Message → List Message → Bool
has m [] = false
has m (n ∷ ns) = same_message m n || has m ns

abbrev pub without : Message → List Message → List Message
without m [] = []
without m (n ∷ ns) = if same_message m n then ns else n ∷ without m ns

-- by stamp, port, value and receiver, as an order
abbrev pub message_cmp : Message → Message → Ordering
message_cmp m n =
    ordering_then (nat_cmp m.stamp n.stamp) (ordering_then (nat_cmp m.port n.port) (ordering_then (int_cmp m.value n.value) (nat_cmp m.to n.to)))

-- by stamp, then port, then value, then receiver
abbrev pub ComesBefore : Message → Message → Type 0
ComesBefore m n =
    (m.stamp < n.stamp)
    ⊎ ((m.stamp ≡ n.stamp) × ((m.port < n.port) ⊎ ((m.port ≡ n.port) × ((m.value <ℤ n.value) ⊎ ((m.value ≡ n.value) × (m.to < n.to))))))

-- whether a message stands at or before the first of a list, or the list is empty
abbrev pub IsBeforeFirst : Message → List Message → Type 0
IsBeforeFirst m [] = Unit {0}
IsBeforeFirst m (n ∷ ns) = at_or_before m n ≡ true

abbrev pub Sorted : List Message → Type 0
Sorted [] = Unit {0}
Sorted (m ∷ ms) = IsBeforeFirst m ms × Sorted ms
