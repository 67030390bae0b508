-- What a component does at a stamp: its output, and its transition. The rounds of the simulator and the runs of one component by itself are both made of these.
--     start_moment model      where a component of this model stands at the start
--     output net c now s      the output of component c at stamp s
--     transition net c now s bag      its transition at stamp s with this bag, or the limit that it meets
use Rattle.std.specs.Prelude.{ℕ, ◌+◌, ◌-◌, [], ◌∷◌, Bool, true, false, ◌==◌, Option, None, Some, Result, Ok, Err}
use Rattle.tw_atomic.specs.Atomic.{Meaning, turned}
use Rattle.tw_atomic.specs.declared.Turn.{Turn}
use Rattle.tw_atomic.specs.declared.Turn.TheVariants as turns
use Rattle.tw_msgs.specs.Bags.{Bag, sorted_bag}
use Rattle.tw_msgs.specs.declared.record.Record.{Record}
use Rattle.tw_msgs.specs.declared.record_kind.RecordKind.{RecordKind}
use Rattle.tw_msgs.specs.declared.record_kind.RecordKind.TheVariants.{Out, Int, Ext, Con}
use Rattle.tw_vtime.specs.Advance.{advanced}
use Rattle.tw_vtime.specs.Stamps.{stamp, never, tick_of}
use Rattle.tw_vtime.specs.declared.limits.Limit.{Limit}
use Rattle.tw_theory.specs.Network.{Network, model_of}

-- Where a component stands: its state, the time of its last transition (as the stamp of that time's output), and the stamp of its next own step
pub record Moment (S : Type 0) : Type 0 where
  pub state : S
  pub last : ℕ
  pub due : ℕ

-- the first own step of a component with this time advance in its start state
abbrev pub first_due : Option ℕ → ℕ
first_due None = never
first_due (Some d) = stamp d 0 0

abbrev pub start_moment : {S : Type 0} → Meaning S → Moment S
start_moment model = record { state = model.start; last = stamp 0 0 0; due = first_due (model.ta model.start) }

-- What a component does at a stamp: its record, and where it stands after it
pub record Move (S : Type 0) : Type 0 where
  pub entry : Record
  pub after : Moment S

-- The output function is applied to the state just before a transition of the same time; then that transition is due
unfoldable pub output : {S : Type 0} → Network S → ℕ → Moment S → ℕ → Move S
output net c now s = record {
  entry = record { component = c; stamp = s; kind = Out; bag = sorted_bag ((model_of net c now.state).out now.state); words = [] };
  after = record { state = now.state; last = now.last; due = s + 1 };
}

-- the turn of a component that is imminent or not, with this bag
abbrev pub turn : Bool → Bag → Turn
turn true [] = turns.Int
turn true (x ∷ xs) = turns.Con
turn false bag = turns.Ext

abbrev pub kind_of : Turn → RecordKind
kind_of turns.Int = Int
kind_of turns.Ext = Ext
kind_of turns.Con = Con

-- a transition of stamp s to this state, and the next own step then
unfoldable pub moved : {S : Type 0} → Network S → ℕ → ℕ → RecordKind → Bag → S → ℕ → Move S
moved net c s kind bag state due = record {
  entry = record { component = c; stamp = s; kind = kind; bag = bag; words = (model_of net c state).words state };
  after = record { state = state; last = s - 1; due = due };
}

-- a passive component is due never
abbrev pub due_of : Option ℕ → ℕ
due_of None = never
due_of (Some s) = s

abbrev pub if_within : {S : Type 0} → (ℕ → Move S) → Result (Option ℕ) Limit → Result (Move S) Limit
if_within move (Ok due) = Ok (move (due_of due))
if_within move (Err limit) = Err limit

-- the transition of stamp s with this bag; the time elapsed since the last one is in ticks
unfoldable pub transition : {S : Type 0} → Network S → ℕ → Moment S → ℕ → Bag → Result (Move S) Limit
transition net c now s bag =
    let model = model_of net c now.state in
    let taken = turn (now.due == s) bag in
    let state = turned model taken now.state (tick_of s - tick_of now.last) bag in
    if_within (moved net c s (kind_of taken) bag state) (advanced s (model.ta state) net.micro_limit)
