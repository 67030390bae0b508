-- The contents of a process, and what steps, rollback and receipts do to them (Jefferson 1985). How steps taken back are cancelled (`Cancel`), and what comes of an item (`Received`), are the enums of tw_actions.
--     inputs p      all messages that still count: those consumed since the commit line and those pending
--     Stands net c from p      its history is the beginning of the run by itself on its inputs
--     with_step p made      a step more
--     cut s p, undo_last p      the steps at or after s taken back, the last step taken back
--     receive p item      a message or an anti-message comes
--     settle p      the anti-messages of owed messages whose time is past are made
--     harvested g p      the steps before g leave the history
use Rattle.std.specs.Prelude.{ℕ, suc, ◌-◌, List, [], ◌∷◌, ◌++◌, length, take, drop, ◌==◌, nat_lt, if◌then◌else◌}
use Rattle.tw_msgs.specs.Messages.{place, has, without}
use Rattle.tw_msgs.specs.declared.message.Item.{Item}
use Rattle.tw_msgs.specs.declared.message.Message.{Message}
use Rattle.tw_msgs.specs.declared.message.Sign.{Sign}
use Rattle.tw_msgs.specs.declared.message.Sign.TheVariants.{Positive, Anti}
use Rattle.tw_msgs.specs.declared.record.Record.{Record}
pub use Rattle.tw_actions.specs.declared.cancel.Cancel.{Cancel}
pub use Rattle.tw_actions.specs.declared.cancel.Cancel.TheVariants.{Aggressive, Lazy}
pub use Rattle.tw_actions.specs.declared.action.Received.{Received}
pub use Rattle.tw_actions.specs.declared.action.Received.TheVariants.{Placed, Straggler, Annihilated, Waiting}
use Rattle.tw_theory.specs.Bundles.{sent_anew, still_owed, overdue, not_overdue, positives, antis}
use Rattle.tw_theory.specs.LocalRun.{Step, Made, Leads, next_of}
use Rattle.tw_theory.specs.Network.{Network}
use Rattle.tw_theory.specs.Transitions.{Moment}

pub record Process (S : Type 0) : Type 0 where
  -- state, last time, and due: the stamp of its own next step
  pub now : Moment S
  -- messages to come, in order
  pub pending : List Message
  -- the uncommitted steps, the oldest first
  pub history : List (Step S)
  -- anti-messages whose message has not come, in order of arrival
  pub waiting : List Message
  -- what is to be posted, in order
  pub outgoing : List Item
  -- messages of steps taken back whose anti-messages are not yet made
  pub owed : List Message
  -- the commit line
  pub line : ℕ
  pub cancel : Cancel

abbrev pub next : {S : Type 0} → Process S → ℕ
next p = next_of p.now p.pending

-- what steps consumed, and what they sent
abbrev pub consumed_by : {S : Type 0} → List (Step S) → List Message
consumed_by [] = []
consumed_by (step ∷ steps) = step.consumed ++ consumed_by steps

abbrev pub sent_by : {S : Type 0} → List (Step S) → List Message
sent_by [] = []
sent_by (step ∷ steps) = step.sent ++ sent_by steps

abbrev pub inputs : {S : Type 0} → Process S → List Message
inputs p = consumed_by p.history ++ p.pending

abbrev pub Stands : {S : Type 0} → Network S → ℕ → Moment S → Process S → Type 0
Stands net c from p = Leads net c from (inputs p) p.history p.now p.pending

-- ---- what a step sends, and what steps taken back leave: the clauses that look at the way of cancelling

-- of the messages of a step those that go out, and what is owed then
abbrev pub sent_out : Cancel → List Message → List Message → List Message
sent_out Aggressive owed ms = ms
sent_out Lazy owed ms = sent_anew owed ms

abbrev pub owed_after : Cancel → List Message → List Message → List Message
owed_after Aggressive owed ms = owed
owed_after Lazy owed ms = still_owed owed ms

-- the outgoing list, and what is owed, when these messages are taken back
abbrev pub outgoing_undone : Cancel → List Item → List Message → List Item
outgoing_undone Aggressive outgoing ms = outgoing ++ antis ms
outgoing_undone Lazy outgoing ms = outgoing

abbrev pub owed_undone : Cancel → List Message → List Message → List Message
owed_undone Aggressive owed ms = owed
owed_undone Lazy owed ms = owed ++ ms

-- ---- a step made

abbrev pub with_step : {S : Type 0} → Process S → Made S → Process S
with_step p made = record p {
  now = made.after;
  pending = made.left;
  history = p.history ++ made.step ∷ [];
  outgoing = p.outgoing ++ positives (sent_out p.cancel p.owed made.step.sent);
  owed = owed_after p.cancel p.owed made.step.sent;
}

-- ---- steps taken back

-- where the component stood before these steps, if it stands at now after them
abbrev pub before_all : {S : Type 0} → List (Step S) → Moment S → Moment S
before_all [] now = now
before_all (step ∷ steps) now = step.before

-- what steps sent: the last step's first, and those of one step in the order in which they were sent
abbrev pub unsent_by : {S : Type 0} → List (Step S) → List Message
unsent_by [] = []
unsent_by (step ∷ steps) = unsent_by steps ++ step.sent

-- all steps but the first n are taken back
unfoldable pub back_to_first : {S : Type 0} → ℕ → Process S → Process S
back_to_first n p = record p {
  now = before_all (drop n p.history) p.now;
  pending = consumed_by (drop n p.history) ++ p.pending;
  history = take n p.history;
  outgoing = outgoing_undone p.cancel p.outgoing (unsent_by (drop n p.history));
  owed = owed_undone p.cancel p.owed (unsent_by (drop n p.history));
}

-- how many steps at the front stand before s
abbrev pub steps_before : {S : Type 0} → ℕ → List (Step S) → ℕ
steps_before s [] = 0
steps_before s (step ∷ steps) = if nat_lt step.entry.stamp s then suc (steps_before s steps) else 0

-- how many steps stand at or after s
abbrev pub steps_from : {S : Type 0} → ℕ → Process S → ℕ
steps_from s p = length p.history - steps_before s p.history

abbrev pub cut : {S : Type 0} → ℕ → Process S → Process S
cut s p = back_to_first (steps_before s p.history) p

abbrev pub undo_last : {S : Type 0} → Process S → Process S
undo_last p = back_to_first (length p.history - 1) p

-- ---- receipts

abbrev pub with_pending : {S : Type 0} → Process S → List Message → Process S
with_pending p pending = record p { pending = pending }

abbrev pub with_waiting : {S : Type 0} → Process S → List Message → Process S
with_waiting p waiting = record p { waiting = waiting }

abbrev pub with_outgoing : {S : Type 0} → Process S → List Item → Process S
with_outgoing p outgoing = record p { outgoing = outgoing }

abbrev pub with_lists : {S : Type 0} → Process S → List Item → List Message → Process S
with_lists p outgoing owed = record p { outgoing = outgoing; owed = owed }

abbrev pub placed : {S : Type 0} → Process S → Message → Process S
placed p m = with_pending p (place m p.pending)

abbrev pub removed : {S : Type 0} → Process S → Message → Process S
removed p m = with_pending p (without m p.pending)

-- A message comes. If its anti-message waits, both are gone; if a step at or after its stamp was made, it is a straggler
abbrev pub receive_message : {S : Type 0} → Process S → Message → Received × Process S
receive_message p m =
    if has m p.waiting then (Annihilated 0, with_waiting p (without m p.waiting))
    else if steps_from m.stamp p == 0 then (Placed, placed p m)
    else (Straggler (steps_from m.stamp p), placed (cut m.stamp p) m)

-- An anti-message comes. If its message is pending, both are gone; if it was consumed, the steps from its stamp on are taken back first; else it waits
abbrev pub receive_anti : {S : Type 0} → Process S → Message → Received × Process S
receive_anti p m =
    if has m p.pending then (Annihilated 0, removed p m)
    else if has m (consumed_by p.history) then (Annihilated (steps_from m.stamp p), removed (cut m.stamp p) m)
    else (Waiting, with_waiting p (p.waiting ++ m ∷ []))

abbrev pub receive_signed : {S : Type 0} → Process S → Sign → Message → Received × Process S
receive_signed p Positive m = receive_message p m
receive_signed p Anti m = receive_anti p m

abbrev pub receive : {S : Type 0} → Process S → Item → Received × Process S
receive p i = receive_signed p i.sign i.message

-- ---- messages owed whose time is past

-- each message owed that was sent before the next step becomes an anti-message
abbrev pub settled_as : {S : Type 0} → Cancel → Process S → Process S
settled_as Aggressive p = p
settled_as Lazy p = with_lists p (p.outgoing ++ antis (overdue (next p) p.owed)) (not_overdue (next p) p.owed)

abbrev pub settle : {S : Type 0} → Process S → Process S
settle p = settled_as p.cancel p

-- ---- commitment

abbrev pub harvested : {S : Type 0} → ℕ → Process S → Process S
harvested g p = record p { history = drop (steps_before g p.history) p.history; line = g }

abbrev pub records_of : {S : Type 0} → List (Step S) → List Record
records_of [] = []
records_of (step ∷ steps) = step.entry ∷ records_of steps
