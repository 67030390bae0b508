-- What contracts see of a process, and what its calls make of it.
--     Held M S      the contents of the theory (`process`), beside the network and the number of the component
--     next_made meaning p      the component's next step by itself
--     IsStepped, IsStop      its next step was made; why it was not
--     IsFullBy n p      n more nodes would be too many
--     CanCome p m      a message that can be pending now
--     SameButSpare was now      the same, with room for whatever many more messages
--     with_.., without_..      the same process, changed in one part
--     consumed_in step, sent_in step      how many messages a step consumed and sent
--     IsPoolOf p nodes      what the lists of its pool hold
use Rattle.std.specs.Prelude.{◌≡◌, ℕ, ◌+◌, ◌<◌, ◌≤◌, List, [], ◌∷◌, ◌++◌, length, take, take_while, drop, nat_lt, slice_get, Option, None, Some, Ok, Err, Result, ⊤}
use Rattle.tw_atomic.specs.Atomic.{Meaning}
use Rattle.tw_msgs.specs.declared.message.Message.{Message}
use Rattle.tw_msgs.specs.Messages.{without}
use Rattle.tw_msgs.specs.declared.record.Record.{Record}
use Rattle.tw_msgs.specs.declared.record_kind.RecordKind.{RecordKind}
use Rattle.tw_network.specs.Contents.{Contents, network_of}
use Rattle.tw_theory.specs.Chains.{Start}
use Rattle.tw_lists.specs.Lists.{Nodes, PoolHolds}
use Rattle.tw_theory.specs.Contents.{Process, Cancel, with_step, undo_last, settle, cut, placed, removed, with_waiting, harvested, steps_before, consumed_by, sent_by}
use Rattle.tw_theory.specs.Installing.{IsFullFor}
use Rattle.tw_theory.specs.Memory.{live, max_nodes}
use Rattle.tw_theory.specs.Soundness.{new_process}
use Rattle.tw_theory.specs.LocalRun.{Made, NoStep, NothingDue as nothing_due, OverLimit as over_limit, local_step, Step}
use Rattle.tw_theory.specs.Standing.{CanTake, floor_after}
use Rattle.tw_process.specs.declared.refused.StepRefused.{StepRefused}
use Rattle.tw_process.specs.declared.refused.StepRefused.TheVariants.{OutOfMemory, Full, NothingDue, OverLimit}

pub record Held (M S : Type 0) : Type 0 where
  pub network : Contents M
  pub component : ℕ
  pub process : Process S
  -- one past the last step that was committed: no message comes before it
  pub floor : ℕ
  -- for how many more messages there is room
  pub spare : ℕ

-- ---- The next step

-- what the component does next, if nothing comes
abbrev pub next_made : {M S : Type 0} → (M → Meaning S) → Held M S → Result (Made S) NoStep
next_made meaning p = local_step (network_of meaning p.network) p.component p.process.now p.process.pending

-- its next step was made: this is its stamp and kind
pub record IsStepped {M S : Type 0} (meaning : M → Meaning S) (old new : Held M S) (stamp : ℕ) (kind : RecordKind) : Type 0 where
  pub made : Made S
  pub is : next_made meaning old ≡ Ok made
  pub process : new ≡ record old { process = with_step old.process made; spare = new.spare }
  pub stamp_is : stamp ≡ made.step.entry.stamp
  pub kind_is : kind ≡ made.step.entry.kind

-- with n more nodes it would pass the greatest number
abbrev pub IsFullBy : {S : Type 0} → ℕ → Process S → Type 0
IsFullBy n p = max_nodes < live p + n

-- why the next step was not made; of refused memory nothing is said
abbrev pub IsStop : {M S : Type 0} → (M → Meaning S) → Held M S → StepRefused → Type 0
IsStop meaning p OutOfMemory = ⊤
IsStop meaning p Full = IsFullFor (network_of meaning p.network) p.component p.process
IsStop meaning p NothingDue = next_made meaning p ≡ Err nothing_due
IsStop meaning p (OverLimit limit) = next_made meaning p ≡ Err (over_limit limit)

-- ---- Changes

-- the last step is taken back, if there is one
abbrev pub with_last_undone : {M S : Type 0} → Held M S → Held M S
with_last_undone p = record p { process = undo_last p.process }

-- all steps at or after s are taken back
abbrev pub with_cut : {M S : Type 0} → ℕ → Held M S → Held M S
with_cut s p = record p { process = cut s p.process }

-- what is owed from before the next step is in the outgoing list, as anti-messages
abbrev pub with_settled : {M S : Type 0} → Held M S → Held M S
with_settled p = record p { process = settle p.process }

-- with room for so many more messages
abbrev pub with_spare : {M S : Type 0} → ℕ → Held M S → Held M S
with_spare spare p = record p { spare = spare }

abbrev pub SameButSpare : {M S : Type 0} → Held M S → Held M S → Type 0
SameButSpare was now = now ≡ with_spare now.spare was

abbrev pub with_placed : {M S : Type 0} → Message → Held M S → Held M S
with_placed m p = record p { process = placed p.process m }

abbrev pub with_removed : {M S : Type 0} → Message → Held M S → Held M S
with_removed m p = record p { process = removed p.process m }

-- the first anti-message of m waits no more
abbrev pub with_cleared : {M S : Type 0} → Message → Held M S → Held M S
with_cleared m p = record p { process = with_waiting p.process (without m p.process.waiting) }

-- the anti-message of m waits
abbrev pub with_noted : {M S : Type 0} → Message → Held M S → Held M S
with_noted m p = record p { process = with_waiting p.process (p.process.waiting ++ m ∷ []) }

-- a message that can be pending now: the component can take it, and it is after all steps
pub record CanCome {M S : Type 0} (p : Held M S) (m : Message) : Type 0 where
  pub fits : CanTake p.component m
  pub after : floor_after p.floor p.process.history ≤ m.stamp

-- nothing is outgoing
abbrev pub outgoing_cleared : {S : Type 0} → Process S → Process S
outgoing_cleared p = record p { outgoing = [] }

abbrev pub with_posted : {M S : Type 0} → Held M S → Held M S
with_posted p = record p { process = outgoing_cleared p.process }

abbrev pub line_set : {S : Type 0} → ℕ → Process S → Process S
line_set line p = record p { line = line }

abbrev pub with_line : {M S : Type 0} → ℕ → Held M S → Held M S
with_line line p = record p { process = line_set line p.process }

-- ---- The history

-- the stamp of the last step
abbrev pub last_stamp_of : {S : Type 0} → List (Step S) → Option ℕ
last_stamp_of [] = None
last_stamp_of (step ∷ []) = Some step.entry.stamp
last_stamp_of (step ∷ next ∷ steps) = last_stamp_of (next ∷ steps)

-- how many messages a step consumed, and how many it sent
abbrev pub consumed_in : {S : Type 0} → Step S → ℕ
consumed_in step = length step.consumed

abbrev pub sent_in : {S : Type 0} → Step S → ℕ
sent_in step = length step.sent

-- the record of the oldest step
abbrev pub oldest_of : {S : Type 0} → List (Step S) → Option Record
oldest_of [] = None
oldest_of (step ∷ steps) = Some step.entry

abbrev pub with_history : {S : Type 0} → Process S → List (Step S) → Process S
with_history p steps = record p { history = steps }

abbrev pub left_by : {M S : Type 0} → Held M S → List (Step S) → Held M S
left_by p [] = p
left_by p (step ∷ steps) = record p { process = with_history p.process steps; floor = step.entry.stamp + 1 }

-- the oldest step has left the history, if there is one
abbrev pub without_oldest : {M S : Type 0} → Held M S → Held M S
without_oldest p = left_by p p.process.history

-- the first n steps have left the history
abbrev pub without_first : {M S : Type 0} → ℕ → Held M S → Held M S
without_first n p = record p { process = with_history p.process (drop n p.process.history); floor = floor_after p.floor (take n p.process.history) }

-- the steps before g have left the history
abbrev pub with_harvested : {M S : Type 0} → ℕ → Held M S → Held M S
with_harvested g p = record p { process = harvested g p.process; floor = floor_after p.floor (take (steps_before g p.process.history) p.process.history) }

-- ---- The lists themselves

-- what the lists of its pool hold
abbrev pub IsPoolOf : {S : Type 0} → Process S → List Nodes → Type 0
IsPoolOf p lists = PoolHolds p.pending (consumed_by p.history) (sent_by p.history) p.outgoing p.waiting p.owed lists

-- ---- The start

-- a process at the start of its component
pub record IsNew {M S : Type 0} (meaning : M → Meaning S) (network : Contents M) (way : Cancel) (c : ℕ) (p : Held M S) : Type 0 where
  pub model : M
  pub there : slice_get network.models c ≡ Some model
  pub network_is : p.network ≡ network
  pub component_is : p.component ≡ c
  pub process_is : p.process ≡ new_process (network_of meaning network) way c (meaning model)
  pub floor_is : p.floor ≡ 0

-- what a chain is worked out from, of at most burst steps before a bound
abbrev pub start_of : {M S : Type 0} → ℕ → ℕ → Held M S → Start S
start_of before burst p = record {
  component = p.component;
  now = p.process.now;
  micro_limit = p.network.micro_limit;
  messages = take_while (λ m. nat_lt m.stamp before) p.process.pending;
  before = before;
  burst = burst;
}
