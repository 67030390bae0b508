-- The network by the clock: every component acts at every stamp, on the bag of what was sent before.
use Rattle.std.proofs.Common.{ℕ, zero, suc, ◌+◌, ◌<◌, ◌≤◌, ◌&&◌, ◌==◌, if◌then◌else◌, length, List, [], ◌∷◌, ◌++◌, Option, Some, None, slice_get}
use Rattle.std.specs.Option.{option_map}
use Rattle.tw_msgs.specs.Bags.{Bag, sorted_bag}
use Rattle.tw_msgs.specs.declared.message.Message.{Message}
use Rattle.tw_msgs.specs.declared.record.Record.{Record}
use Rattle.tw_vtime.specs.Stamps.{phase_of}
use Rattle.tw_theory.specs.Bundles.{items_of}
use Rattle.tw_theory.specs.Network.{Network}
use Rattle.tw_theory.specs.Simulator.{RoundTurn, Stays, Moves, Stops, take_turn, all_sent}
use Rattle.tw_theory.specs.Transitions.{Moment, output, start_moment}

-- those to component c of stamp s
unfoldable pub arrived : ℕ → ℕ → List Message → List Message
arrived c s [] = []
arrived c s (m ∷ ms) = if (c == m.to) && (s == m.stamp) then m ∷ arrived c s ms else arrived c s ms

abbrev pub bag_of : ℕ → ℕ → List Message → Bag
bag_of c s ms = sorted_bag (items_of (arrived c s ms))

-- what a component does at stamp s with this bag
unfoldable pub act : {S : Type 0} → Network S → ℕ → ℕ → Bag → Moment S → RoundTurn S
act net c s bag now =
    if phase_of s == 0 then (if now.due == s then Moves (output net c now s) else Stays) else take_turn net c now s (now.due == s) bag

unfoldable pub act_if : {S : Type 0} → Network S → ℕ → ℕ → Bag → Option (Moment S) → RoundTurn S
act_if net c s bag None = Stays
act_if net c s bag (Some now) = act net c s bag now

unfoldable pub moment_after : {S : Type 0} → Moment S → RoundTurn S → Moment S
moment_after now Stays = now
moment_after now (Moves move) = move.after
moment_after now (Stops limit) = now

unfoldable pub record_after : {S : Type 0} → RoundTurn S → List Record
record_after Stays = []
record_after (Moves move) = move.entry ∷ []
record_after (Stops limit) = []

unfoldable pub place_after : {S : Type 0} → Option (Moment S) → RoundTurn S → Option (Moment S)
place_after None move = None
place_after (Some now) move = Some (moment_after now move)

unfoldable pub NoLimit : {S : Type 0} → RoundTurn S → Type 0
NoLimit Stays = Unit {0}
NoLimit (Moves move) = Unit {0}
NoLimit (Stops limit) = ⊥

-- what the first n components' records send
unfoldable pub sent_below : {S : Type 0} → Network S → (ℕ → List Record) → ℕ → List Message
sent_below net records zero = []
sent_below net records (suc c) = sent_below net records c ++ all_sent net (records c)

abbrev pub sent_in_all : {S : Type 0} → Network S → (ℕ → List Record) → List Message
sent_in_all net records = net.inputs ++ sent_below net records (length net.models)

-- where all components stand, and each one's records so far
pub record Clock (S : Type 0) : Type 0 where
  pub place : ℕ → Option (Moment S)
  pub records : ℕ → List Record

-- what component c does at stamp s in the whole network
abbrev pub step_in : {S : Type 0} → Network S → ℕ → ℕ → Clock S → RoundTurn S
step_in net c s m = act_if net c s (bag_of c s (sent_in_all net m.records)) (m.place c)

-- before stamp s
unfoldable pub clock : {S : Type 0} → Network S → ℕ → Clock S
clock net zero = record { place = λ c. option_map start_moment (slice_get net.models c); records = λ c. [] }
clock net (suc s) =
    let m = clock net s in
    record {
      place = λ c. place_after (m.place c) (step_in net c s m);
      records = λ c. m.records c ++ record_after (step_in net c s m);
    }

abbrev pub clock_step : {S : Type 0} → Network S → ℕ → ℕ → RoundTurn S
clock_step net c s = step_in net c s (clock net s)

-- one component alone
pub record Alone (S : Type 0) : Type 0 where
  pub place : Option (Moment S)
  pub records : List Record

abbrev pub alone_step : {S : Type 0} → Network S → ℕ → List Message → ℕ → Alone S → RoundTurn S
alone_step net c heard s a = act_if net c s (bag_of c s heard) a.place

-- component c alone on these messages, from stamp `line` at this place, before stamp `line + k`
unfoldable pub alone : {S : Type 0} → Network S → ℕ → List Message → Option (Moment S) → ℕ → ℕ → Alone S
alone net c heard p line zero = record { place = p; records = [] }
alone net c heard p line (suc k) =
    let a = alone net c heard p line k in
    record {
      place = place_after a.place (alone_step net c heard (line + k) a);
      records = a.records ++ record_after (alone_step net c heard (line + k) a);
    }

-- each record is at or after a stamp, or before it
abbrev pub AllFrom : ℕ → List Record → Type 0
AllFrom s [] = Unit {0}
AllFrom s (r ∷ rs) = (s ≤ r.stamp) × AllFrom s rs

abbrev pub AllBefore : ℕ → List Record → Type 0
AllBefore s [] = Unit {0}
AllBefore s (r ∷ rs) = (r.stamp < s) × AllBefore s rs

-- what the components hold, by their records
pub record Kept : Type 0 where
  pub line : ℕ → ℕ
  pub column : ℕ → List Record
  pub history : ℕ → List Record
  pub inputs : ℕ → List Message
  pub waiting : ℕ → List Message
