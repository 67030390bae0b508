-- The balance of messages: whatever was sent is in transit, consumed, held or taken back.
--     Balance net w      for every weight of messages
--     BalancesAt net w m      the same for one message, as a signed count
use Rattle.std.specs.Prelude.{ℕ, ◌+◌, ◌≡◌, List, [], ◌∷◌, ◌++◌, pos, ◌+ℤ◌}
use Rattle.tw_msgs.specs.Counting.{total, when_positive, when_anti, one_at, signed_count}
use Rattle.tw_msgs.specs.declared.message.Item.{Item}
use Rattle.tw_msgs.specs.declared.message.Message.{Message}
use Rattle.tw_msgs.specs.declared.record.Record.{Record}
use Rattle.tw_msgs.specs.declared.record_kind.RecordKind.TheVariants.{Out, Int, Ext, Con}
use Rattle.tw_theory.specs.Bundles.{messages_for}
use Rattle.tw_theory.specs.Contents.{Process, inputs, sent_by}
use Rattle.tw_theory.specs.Executive.{World}
use Rattle.tw_theory.specs.Network.{Network}
use Rattle.tw_theory.specs.Simulator.{all_sent}

-- what a record consumed
abbrev pub consumed_in : Record → List Message
consumed_in r = elim r.kind [ Out ↦ [] | Int ↦ messages_for r.component r.stamp r.bag | Ext ↦ messages_for r.component r.stamp r.bag | Con ↦ messages_for r.component r.stamp r.bag ]

abbrev pub all_consumed : List Record → List Message
all_consumed [] = []
all_consumed (r ∷ rs) = consumed_in r ++ all_consumed rs

-- what the contents of a process put on each side
abbrev pub issued : {S : Type 0} → (Message → ℕ) → Process S → ℕ
issued weight p = total weight (sent_by p.history) + total weight p.owed + total weight p.waiting + total (when_anti weight) p.outgoing

abbrev pub held : {S : Type 0} → (Message → ℕ) → Process S → ℕ
held weight p = total weight (inputs p) + total (when_positive weight) p.outgoing

-- Whatever weight each message has: the weight of what was sent (by the outside, by committed outputs and in histories) and of what is owed, of the anti-messages in transit and of those that wait
-- is the weight of the positive messages in transit, of what was consumed in the columns, and of the inputs
abbrev pub Balance : {S : Type 0} → Network S → World S → Type 0
Balance net w =
    (weight : Message → ℕ)
    → total weight net.inputs + total (λ column. total weight (all_sent net column)) w.columns + total (issued weight) w.processes + total (total (when_anti weight)) w.mail
    ≡ total (λ column. total weight (all_consumed column)) w.columns + total (held weight) w.processes + total (total (when_positive weight)) w.mail

-- ---- message by message

-- all items in transit: in outgoing lists, and in mailboxes
abbrev pub all_outgoing : {S : Type 0} → List (Process S) → List Item
all_outgoing [] = []
all_outgoing (p ∷ ps) = p.outgoing ++ all_outgoing ps

abbrev pub all_mail : List (List Item) → List Item
all_mail [] = []
all_mail (box ∷ mail) = box ++ all_mail mail

abbrev pub in_transit : {S : Type 0} → World S → List Item
in_transit w = all_outgoing w.processes ++ all_mail w.mail

-- how often a message was sent: by the outside, by committed outputs, by the steps of histories; what is owed counts as sent
abbrev pub times_sent : {S : Type 0} → Network S → World S → Message → ℕ
times_sent net w m =
    total (one_at m) net.inputs + total (λ column. total (one_at m) (all_sent net column)) w.columns
    + total (λ p. total (one_at m) (sent_by p.history) + total (one_at m) p.owed) w.processes

-- how often it was consumed in columns, is among inputs, and waits as an anti-message
abbrev pub times_consumed : {S : Type 0} → World S → Message → ℕ
times_consumed w m = total (λ column. total (one_at m) (all_consumed column)) w.columns

abbrev pub times_held : {S : Type 0} → World S → Message → ℕ
times_held w m = total (λ p. total (one_at m) (inputs p)) w.processes

abbrev pub times_waiting : {S : Type 0} → World S → Message → ℕ
times_waiting w m = total (λ p. total (one_at m) p.waiting) w.processes

-- times sent, and waiting = signed count in transit + times consumed + times among the inputs
abbrev pub BalancesAt : {S : Type 0} → Network S → World S → Message → Type 0
BalancesAt net w m = pos (times_sent net w m + times_waiting w m) ≡ signed_count m (in_transit w) +ℤ pos (times_consumed w m + times_held w m)
