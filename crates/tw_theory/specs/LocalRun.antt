-- The run of one component by itself: its steps, if only given messages come.
--     local_step net c now pending      the next step that c makes if no messages come but those pending
--     Leads net c now pending steps now' pending'      these steps are the beginning of the run that c makes by itself
use Rattle.std.specs.Prelude.{ℕ, ◌+◌, ◌≡◌, min, List, [], ◌∷◌, ◌==◌, nat_le, if◌then◌else◌, Result, Ok, Err}
use Rattle.tw_msgs.specs.declared.message.Message.{Message}
use Rattle.tw_msgs.specs.declared.record.Record.{Record}
use Rattle.tw_vtime.specs.Stamps.{never, phase_of}
use Rattle.tw_vtime.specs.declared.limits.Limit.{Limit}
use Rattle.tw_theory.specs.Bundles.{first_stamp, front, behind, items_of}
use Rattle.tw_theory.specs.Network.{Network, routed}
use Rattle.tw_theory.specs.Transitions.{Moment, Move, output, transition}

-- A step that was made: its record, where the component stood before it, and the messages that it consumed and sent
pub record Step (S : Type 0) : Type 0 where
  pub entry : Record
  pub before : Moment S
  pub consumed : List Message
  pub sent : List Message

-- A step, where the component stands after it, and the pending messages that it left
pub record Made (S : Type 0) : Type 0 where
  pub step : Step S
  pub after : Moment S
  pub left : List Message

-- why no step is made
pub data NoStep : Type 0 where
  NothingDue : NoStep
  OverLimit : Limit → NoStep

abbrev pub next_of : {S : Type 0} → Moment S → List Message → ℕ
next_of now pending = min now.due (first_stamp pending)

abbrev pub output_made : {S : Type 0} → Network S → ℕ → Moment S → List Message → ℕ → Move S → Made S
output_made net c now pending s move = record {
  step = record { entry = move.entry; before = now; consumed = []; sent = routed net c (s + 1) move.entry.bag };
  after = move.after;
  left = pending;
}

abbrev pub transition_made : {S : Type 0} → Moment S → List Message → ℕ → Move S → Made S
transition_made now pending s move = record {
  step = record { entry = move.entry; before = now; consumed = front s pending; sent = [] };
  after = move.after;
  left = behind s pending;
}

abbrev pub if_moved : {S : Type 0} → (Move S → Made S) → Result (Move S) Limit → Result (Made S) NoStep
if_moved made (Ok move) = Ok (made move)
if_moved made (Err limit) = Err (OverLimit limit)

-- at phase 0 an output, at phase 1 the transition that consumes all pending messages of that stamp as its bag
unfoldable pub step_at : {S : Type 0} → Network S → ℕ → Moment S → List Message → ℕ → Result (Made S) NoStep
step_at net c now pending s =
    if nat_le never s then Err NothingDue
    else if phase_of s == 0 then Ok (output_made net c now pending s (output net c now s))
    else if_moved (transition_made now pending s) (transition net c now s (items_of (front s pending)))

unfoldable pub local_step : {S : Type 0} → Network S → ℕ → Moment S → List Message → Result (Made S) NoStep
local_step net c now pending = step_at net c now pending (next_of now pending)

-- From now, with these messages to come and no others, c makes these steps, stands then at now', and has pending' left
abbrev pub Leads : {S : Type 0} → Network S → ℕ → Moment S → List Message → List (Step S) → Moment S → List Message → Type 0
Leads net c now pending [] now' pending' = (now ≡ now') × (pending ≡ pending')
Leads {S} net c now pending (step ∷ steps) now' pending' =
    (made : Made S) × (local_step net c now pending ≡ Ok made) × (made.step ≡ step) × Leads net c made.after made.left steps now' pending'
