-- The sequential abstract simulator (Chow and Zeigler 1994): rounds of the whole network.
--     round net run t      one round more, of time t
--     sequential net until      all rounds of a time before (until, 0), up to the first fault
--     records_before net until c s      the records of component c before stamp s
--     moment_at net until c s      where component c stands after its transitions before stamp s
use Rattle.std.specs.Prelude.{ℕ, zero, suc, ◌+◌, ◌-◌, min, List, [], ◌∷◌, ◌++◌, map, Bool, true, false, ◌&&◌, ◌==◌, nat_lt, if◌then◌else◌, Option, Some, None, Result, Ok, Err, slice_get, filter}
pub use Rattle.tw_actions.specs.declared.fault.Fault.{Fault}
use Rattle.tw_msgs.specs.Bags.{Bag, sorted_bag}
use Rattle.tw_msgs.specs.declared.message.Message.{Message}
use Rattle.tw_msgs.specs.declared.record.Record.{Record}
use Rattle.tw_msgs.specs.declared.record_kind.RecordKind.TheVariants.{Out, Int, Ext, Con}
use Rattle.tw_vtime.specs.Stamps.{stamp, never}
use Rattle.tw_vtime.specs.declared.limits.Limit.{Limit}
use Rattle.tw_theory.specs.Bundles.{items_of, addressed}
use Rattle.tw_theory.specs.Network.{Network, routed}
use Rattle.tw_theory.specs.Transitions.{Moment, start_moment, Move, output, transition}

-- Where the network stands between rounds: each component, and the inputs not yet given
pub record Configuration (S : Type 0) : Type 0 where
  pub moments : List (Moment S)
  pub inputs : List Message

abbrev pub start_moments : {S : Type 0} → Network S → List (Moment S)
start_moments net = map start_moment net.models

-- ---- the time of a round, as the stamp of its outputs

abbrev pub least_due : {S : Type 0} → List (Moment S) → ℕ
least_due [] = never
least_due (now ∷ moments) = min now.due (least_due moments)

-- an input for the transition of a time makes a round of that time
abbrev pub least_input : List Message → ℕ
least_input [] = never
least_input (m ∷ ms) = min (m.stamp - 1) (least_input ms)

abbrev pub round_time : {S : Type 0} → Configuration S → ℕ
round_time at = min (least_due at.moments) (least_input at.inputs)

-- ---- outputs, and where they go

-- the outputs of all components that are imminent at t, from component c on
abbrev pub outputs : {S : Type 0} → Network S → ℕ → ℕ → List (Moment S) → List Record
outputs net t c [] = []
outputs net t c (now ∷ moments) =
    if now.due == t then (output net c now t).entry ∷ outputs net t (suc c) moments else outputs net t (suc c) moments

-- what a record sends
abbrev pub sent_in : {S : Type 0} → Network S → Record → List Message
sent_in net r = elim r.kind [ Out ↦ routed net r.component (r.stamp + 1) r.bag | Int ↦ [] | Ext ↦ [] | Con ↦ [] ]

abbrev pub all_sent : {S : Type 0} → Network S → List Record → List Message
all_sent net [] = []
all_sent net (r ∷ rs) = sent_in net r ++ all_sent net rs

-- the inputs due at a stamp, and those after it
abbrev pub with_stamp : ℕ → List Message → List Message
with_stamp s ms = filter (λ m. m.stamp == s) ms

abbrev pub past_stamp : ℕ → List Message → List Message
past_stamp s ms = filter (λ m. nat_lt s m.stamp) ms

-- ---- transitions

-- what a component does at the transition of a round
pub data RoundTurn (S : Type 0) : Type 0 where
  Stays : RoundTurn S
  Moves : Move S → RoundTurn S
  Stops : Limit → RoundTurn S

abbrev pub turn_of_result : {S : Type 0} → Result (Move S) Limit → RoundTurn S
turn_of_result (Ok move) = Moves move
turn_of_result (Err limit) = Stops limit

-- it makes a transition where it is imminent or receives something
abbrev pub take_turn : {S : Type 0} → Network S → ℕ → Moment S → ℕ → Bool → Bag → RoundTurn S
take_turn net c now s false [] = Stays
take_turn net c now s false (x ∷ xs) = turn_of_result (transition net c now s (x ∷ xs))
take_turn net c now s true bag = turn_of_result (transition net c now s bag)

-- the component after its output, if it made one
abbrev pub after_output : {S : Type 0} → Network S → ℕ → Moment S → ℕ → Moment S
after_output net c now t = if now.due == t then (output net c now t).after else now

-- the bag of each component is all that comes to it, sorted
abbrev pub turns : {S : Type 0} → Network S → ℕ → List Message → ℕ → List (Moment S) → List (RoundTurn S)
turns net t messages c [] = []
turns net t messages c (now ∷ moments) =
    take_turn net c (after_output net c now t) (t + 1) (now.due == t) (sorted_bag (items_of (addressed c messages)))
    ∷ turns net t messages (suc c) moments

-- the least component that meets a limit
abbrev pub first_stop : {S : Type 0} → ℕ → List (RoundTurn S) → Option (ℕ × Limit)
first_stop c [] = None
first_stop c (Stays ∷ turns) = first_stop (suc c) turns
first_stop c (Moves move ∷ turns) = first_stop (suc c) turns
first_stop c (Stops limit ∷ turns) = Some (c, limit)

abbrev pub turn_records : {S : Type 0} → List (RoundTurn S) → List Record
turn_records [] = []
turn_records (Stays ∷ turns) = turn_records turns
turn_records (Moves move ∷ turns) = move.entry ∷ turn_records turns
turn_records (Stops limit ∷ turns) = turn_records turns

abbrev pub turned_moments : {S : Type 0} → List (Moment S) → List (RoundTurn S) → List (Moment S)
turned_moments [] turns = []
turned_moments (now ∷ moments) [] = now ∷ moments
turned_moments (now ∷ moments) (Stays ∷ turns) = now ∷ turned_moments moments turns
turned_moments (now ∷ moments) (Moves move ∷ turns) = move.after ∷ turned_moments moments turns
turned_moments (now ∷ moments) (Stops limit ∷ turns) = now ∷ turned_moments moments turns

-- ---- rounds

-- where the network stands, all records so far, and the fault that ended the run
pub record Run (S : Type 0) : Type 0 where
  pub at : Configuration S
  pub records : List Record
  pub fault : Option Fault

-- with a fault the outputs of the round count and none of its transitions
abbrev pub round_end : {S : Type 0} → Run S → ℕ → List Record → List (RoundTurn S) → Option (ℕ × Limit) → Run S
round_end run t outs turns None = record {
  at = record { moments = turned_moments run.at.moments turns; inputs = past_stamp (t + 1) run.at.inputs };
  records = run.records ++ (outs ++ turn_records turns);
  fault = None;
}
round_end run t outs turns (Some stop) = record { at = run.at; records = run.records ++ outs; fault = Some (record { component = stop.0; stamp = t + 1; limit = stop.1 }) }

-- first all outputs, then their routing together with the inputs due, then all transitions
unfoldable pub round : {S : Type 0} → Network S → Run S → ℕ → Run S
round net run t =
    let outs = outputs net t 0 run.at.moments in
    let messages = all_sent net outs ++ with_stamp (t + 1) run.at.inputs in
    let all = turns net t messages 0 run.at.moments in
    round_end run t outs all (first_stop 0 all)

-- at most n rounds, each of a time before the bound
abbrev pub rounds_from : {S : Type 0} → Network S → ℕ → ℕ → Run S → Option Fault → Run S
rounds_from net bound zero run fault = run
rounds_from net bound (suc n) run (Some fault) = run
rounds_from net bound (suc n) run None =
    if nat_lt (round_time run.at) bound
    then rounds_from net bound n (round net run (round_time run.at)) (round net run (round_time run.at)).fault
    else run

abbrev pub start_run : {S : Type 0} → Network S → Run S
start_run net = record { at = record { moments = start_moments net; inputs = net.inputs }; records = []; fault = None }

-- All rounds of a time before the bound, up to the first fault. Their times rise, so there are no more of them than numbers below the bound
unfoldable pub rounds : {S : Type 0} → Network S → ℕ → Run S
rounds net bound = rounds_from net bound bound (start_run net) None

unfoldable pub sequential : {S : Type 0} → Network S → ℕ → Run S
sequential net until = rounds net (stamp until 0 0)

-- ---- one component of it

-- s, but no stamp after the end of the run
abbrev pub up_to : ℕ → ℕ → ℕ
up_to until s = min s (stamp until 0 0)

abbrev pub records_before : {S : Type 0} → Network S → ℕ → ℕ → ℕ → List Record
records_before net until c s = filter (λ r. (r.component == c) && nat_lt r.stamp (up_to until s)) (sequential net until).records

-- its next own step is the first of its next time's two stamps that is not before s
abbrev pub due_from : {S : Type 0} → ℕ → Option (Moment S) → Option (Moment S)
due_from s None = None
due_from s (Some now) = Some (record { state = now.state; last = now.last; due = if nat_lt now.due s then now.due + 1 else now.due })

-- the rounds whose transitions stand before s are those of a time before s - 1
abbrev pub moment_at : {S : Type 0} → Network S → ℕ → ℕ → ℕ → Option (Moment S)
moment_at net until c s = due_from (up_to until s) (slice_get (rounds net (up_to until s - 1)).at.moments c)
