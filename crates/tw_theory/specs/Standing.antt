-- Where a component stands between its steps, so that its next step can be made.
--     IsTied advance last due      the next own step comes as long after the last transition as the state waits
--     IsStanding IsValid model now floor      its state is valid, its next own step is tied to it, and it is not before floor
--     CanTake c m      a message that component c can take
--     IsReady IsValid model c now messages      it stands so, and these messages are to come
--     floor_after floor steps, floor_of column      one past the last of these steps; of a column's records
--     IsRunning IsValid model net c floor p      process p of component c began where it was ready, and made its steps by itself
use Rattle.std.specs.Prelude.{◌≡◌, ℕ, ◌+◌, ◌<◌, ◌≤◌, ◌⊎◌, List, [], ◌∷◌, Option, Some, None}
use Rattle.std.specs.List.{AllByRecursion as Each}
use Rattle.tw_atomic.specs.Atomic.{Meaning, FitsItem}
use Rattle.tw_msgs.specs.Messages.{Sorted}
use Rattle.tw_msgs.specs.declared.message.Message.{Message}
use Rattle.tw_msgs.specs.declared.record.Record.{Record}
use Rattle.tw_vtime.specs.Stamps.{stamp, never, max_microstep, tick_of, phase_of}
use Rattle.tw_theory.specs.Bundles.{first_stamp}
use Rattle.tw_theory.specs.Contents.{Process, inputs, Stands}
use Rattle.tw_theory.specs.LocalRun.{Step}
use Rattle.tw_theory.specs.Network.{Network, model_of}
use Rattle.tw_theory.specs.Transitions.{Moment}

-- a state that waits zero is due in the tick of its last transition; one that waits longer, that many ticks later, at microstep 0.
-- Once its output is made, the transition of that time is due instead
abbrev pub IsTied : Option ℕ → ℕ → ℕ → Type 0
IsTied None last due = due ≡ never
IsTied (Some advance) last due =
    ((advance ≡ 0) × (tick_of due ≡ tick_of last)) ⊎ ((0 < advance) × (due ≡ stamp (tick_of last + advance) 0 (phase_of due)))

pub record IsStanding {S : Type 0} (IsValid : S → Type 0) (model : Meaning S) (now : Moment S) (floor : ℕ) : Type 0 where
  pub valid : IsValid now.state
  pub last_is : now.last < never
  pub tied : IsTied (model.ta now.state) now.last now.due
  -- a state that waits zero is due at once: no message can come before its next own step
  pub soon : model.ta now.state ≡ Some 0 → now.due ≤ floor
  pub from : floor ≤ now.due

-- a message to c, for a transition before the end, whose port and value are numbers of their size
pub record CanTake (c : ℕ) (m : Message) : Type 0 where
  pub to : m.to ≡ c
  pub phase : phase_of m.stamp ≡ 1
  pub before_end : m.stamp < never
  pub fits : FitsItem (m.port, m.value)

pub record IsReady {S : Type 0} (IsValid : S → Type 0) (model : Meaning S) (c : ℕ) (now : Moment S) (messages : List Message) : Type 0 where
  -- no step and no message comes before it
  pub floor : ℕ
  pub stands : IsStanding IsValid model now floor
  pub sorted : Sorted messages
  pub takes : Each (CanTake c) messages
  pub from : floor ≤ first_stamp messages

abbrev pub floor_after : {S : Type 0} → ℕ → List (Step S) → ℕ
floor_after floor [] = floor
floor_after floor (step ∷ steps) = floor_after (step.entry.stamp + 1) steps

abbrev pub floor_of_records : ℕ → List Record → ℕ
floor_of_records floor [] = floor
floor_of_records floor (r ∷ rs) = floor_of_records (r.stamp + 1) rs

-- one past the last of the committed records, 0 where there is none
abbrev pub floor_of : List Record → ℕ
floor_of column = floor_of_records 0 column

-- ---- a process

-- component c of a network is of this model, and its microsteps are those of stamps
pub record IsOf {S : Type 0} (model : Meaning S) (net : Network S) (c : ℕ) : Type 0 where
  pub model_is : (s : S) → model_of net c s ≡ model
  pub micro_limit : net.micro_limit ≤ max_microstep

-- it is ready, and no step and no message comes before this stamp
abbrev pub IsReadyFrom : {S : Type 0} → (S → Type 0) → Meaning S → ℕ → Moment S → List Message → ℕ → Type 0
IsReadyFrom IsValid model c now messages floor = (ready : IsReady IsValid model c now messages) × (ready.floor ≡ floor)

-- A process that runs on its own: its uncommitted steps began where it was ready for all its inputs; no step and no message comes before the floor, which is one past its last committed step
pub record IsRunning {S : Type 0} (IsValid : S → Type 0) (model : Meaning S) (net : Network S) (c floor : ℕ) (p : Process S) : Type 0 where
  pub from : Moment S
  pub ready : IsReadyFrom IsValid model c from (inputs p) floor
  pub runs : Stands net c from p
