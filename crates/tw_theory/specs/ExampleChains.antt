-- A chain, computed by hand: worked out apart from its process, and installed while nobody has acted, after a message came for its last time, and after one came before its first.
use Rattle.std.specs.Prelude.{ℕ, pos, Some, None, List, [], ◌∷◌, ◌++◌, slice_index_or}
use Rattle.tw_msgs.specs.declared.message.Message.{Message}
use Rattle.tw_msgs.specs.declared.record.Record.{Record}
use Rattle.tw_vtime.specs.Stamps.{stamp, never}
use Rattle.tw_theory.specs.Chains.{Start, SoloRun, IsSoloRun, All, EndsBy}
use Rattle.tw_theory.specs.Contents.{Process, Aggressive}
use Rattle.tw_theory.specs.ExampleActions.{after, fresh_tally}
use Rattle.tw_theory.specs.ExampleModels.{State, relay}
use Rattle.tw_theory.specs.ExampleNetworks.{slow_three}
use Rattle.tw_theory.specs.ExampleTraces.{out, int, ext, item}
use Rattle.tw_theory.specs.Executive.{Action, Step, Post, Deliver}
use Rattle.tw_theory.specs.Installing.{Stop, Ended, Stale, IsInstalled}
use Rattle.tw_theory.specs.LocalRun as local
use Rattle.tw_theory.specs.Network.{input}
use Rattle.tw_theory.specs.Transitions.{Moment, start_moment}

-- the relay of slow_three, and its message
abbrev pub eight : Message
eight = input 4 1 0 (pos 8)

abbrev pub holding : ℕ → ℕ → Moment State
holding last due = record { state = record { numbers = pos 0 ∷ pos 8 ∷ []; left = Some 2 }; last = last; due = due }

abbrev pub emptied : Moment State
emptied = record { state = record { numbers = pos 0 ∷ []; left = None }; last = stamp 6 0 0; due = never }

abbrev pub from_start : Start State
from_start = record { component = 1; now = start_moment (relay 2); micro_limit = 100; messages = eight ∷ []; before = stamp 10 0 0; burst = 8 }

-- it takes the message at tick 4, sends it on at tick 6, and is passive then
abbrev pub step : Record → Moment State → List Message → local.Step State
step entry before consumed = record { entry = entry; before = before; consumed = consumed; sent = [] }

abbrev pub relayed : SoloRun State
relayed = record {
  start = from_start;
  steps =
      step (ext 4 0 1 (item 8) (pos 0 ∷ pos 8 ∷ [])) (start_moment (relay 2)) (eight ∷ [])
      ∷ step (out 6 0 1 (item 8)) (holding (stamp 4 0 0) (stamp 6 0 0)) []
      ∷ step (int 6 0 1 (pos 0 ∷ [])) (holding (stamp 4 0 0) (stamp 6 0 1)) [] ∷ [];
  after = emptied;
  left = [];
}

-- ---- installing it

-- the relay's process after these actions of slow_three
abbrev pub relay_after : List Action → Process State
relay_after actions = slice_index_or (after slow_three Aggressive actions).processes 1 fresh_tally

-- after these actions it makes so many steps of the chain, and stops so; it is then where as many Step actions lead
abbrev pub Installs : List Action → List Action → ℕ → Stop → Type 0
Installs before steps n stop = IsInstalled slow_three relayed All (relay_after before) (relay_after (before ++ steps)) (record { installed = n; stop = stop })

-- the generator sends at ticks 3 and 6
abbrev pub generates : List Action
generates = Step 0 ∷ Step 0 ∷ Step 0 ∷ Post 0 ∷ []

pub record ChainOfRelay : Type 0 where
  pub run : IsSoloRun (relay 2) relayed
  pub ends : EndsBy (relay 2) relayed All
  -- nobody has acted
  pub fresh : Installs [] (Step 1 ∷ Step 1 ∷ Step 1 ∷ []) 3 (Ended All)
  -- the message of tick 6 has come: the transition of that tick has another bag
  pub other_bag : Installs (generates ++ Deliver 1 1 ∷ []) (Step 1 ∷ Step 1 ∷ []) 2 Stale
  -- the message of tick 3 has come: the next step is no longer the chain's first
  pub overtaken : Installs (generates ++ Deliver 1 0 ∷ []) [] 0 Stale
  -- the relay has made the chain's first step itself
  pub moved : Installs (Step 1 ∷ []) [] 0 Stale
