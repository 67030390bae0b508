-- Sweeps and outcomes on concrete networks: what a sweep is as a list, and two runs driven to their end.
use Rattle.std.specs.Prelude.{ℕ, ◌≡◌, List, [], ◌∷◌, ◌++◌, true, false, Ok}
use Rattle.tw_msgs.specs.declared.record.Record.{Record}
use Rattle.tw_vtime.specs.Stamps.{stamp}
use Rattle.tw_theory.specs.Contents.{Cancel, Aggressive, Lazy, Placed, Straggler, Annihilated}
use Rattle.tw_theory.specs.ExampleModels.{State}
use Rattle.tw_theory.specs.ExampleNetworks.{three, gen_tally, lone}
use Rattle.tw_theory.specs.ExampleTraces.{out, item}
use Rattle.tw_theory.specs.Exchange.{sweep, IsDrawn}
use Rattle.tw_theory.specs.Executive.{World, Action, Step, Post, Deliver, Raise, Harvest, Posted, Received, Raised, Harvested, replay, answers}
use Rattle.tw_theory.specs.Network.{Network}
use Rattle.tw_theory.specs.Outcomes.{state, Complete, Fault as InFault, IsOutcome}
use Rattle.tw_theory.specs.Soundness.{new_world}
use Rattle.tw_laws.specs.Applied.{after, stuck, driven_trace, out_of_ticks}
use Rattle.tw_laws.specs.Exchange.{IsAfterSweep}

abbrev pub swept : Network State → ℕ → World State → World State
swept net until w = replay net until w (sweep net until w)

-- the relay has gone ahead with the input of tick 3, and the generator has made its output of tick 2
abbrev pub ahead : Cancel → World State
ahead cancel = after cancel (Step 1 ∷ Step 1 ∷ Step 1 ∷ Step 0 ∷ [])

abbrev pub posts_of_three : List Action
posts_of_three = Post 0 ∷ Post 1 ∷ Post 2 ∷ []

abbrev pub end_of_three : List Action
end_of_three = Raise ∷ Harvest 0 ∷ Harvest 1 ∷ Harvest 2 ∷ []

-- generator and tally, driven to tick 3: output and transition, sweep, the tally's transition, sweep
abbrev pub made : Cancel → World State
made cancel = swept gen_tally 3 (replay gen_tally 3 (new_world gen_tally cancel) (Step 0 ∷ Step 0 ∷ []))

abbrev pub driven : Cancel → World State
driven cancel = swept gen_tally 3 (replay gen_tally 3 (made cancel) (Step 1 ∷ []))

-- what a generator records that meets the greatest tick
abbrev pub last_output : List Record
last_output = out 1099511627773 0 0 (item 1) ∷ []

-- the generator that meets the greatest tick, its output committed
abbrev pub ended : Cancel → World State
ended cancel = swept (lone 1099511627773) 1099511627774 (stuck cancel)

pub record Driven : Type 0 where
  -- the generator's message takes back the relay's steps; their message is cancelled in a second pass
  pub aggressive : sweep three 10 (ahead Aggressive) ≡ posts_of_three ++ Deliver 1 0 ∷ Deliver 2 0 ∷ posts_of_three ++ Deliver 2 0 ∷ end_of_three
  pub aggressive_answers : answers three 10 (ahead Aggressive) (sweep three 10 (ahead Aggressive))
      ≡ Ok (Posted 1) ∷ Ok (Posted 1) ∷ Ok (Posted 0) ∷ Ok (Received (Straggler 3)) ∷ Ok (Received Placed) ∷ Ok (Posted 0) ∷ Ok (Posted 1) ∷ Ok (Posted 0) ∷ Ok (Received (Annihilated 0))
      ∷ Ok (Raised (stamp 2 0 1)) ∷ Ok (Harvested 1) ∷ Ok (Harvested 0) ∷ Ok (Harvested 0) ∷ []
  -- or stays owed, since it is not overdue
  pub lazy : sweep three 10 (ahead Lazy) ≡ posts_of_three ++ Deliver 1 0 ∷ Deliver 2 0 ∷ end_of_three
  pub after : (cancel : Cancel) → IsAfterSweep (ahead cancel) (swept three 10 (ahead cancel))
  pub gvt : (cancel : Cancel) → (swept three 10 (ahead cancel)).gvt ≡ stamp 2 0 1
  -- then the generator is given out first, and after it the relay
  pub first : (cancel : Cancel) → IsDrawn 10 (stamp 2 0 1) 5 (false ∷ false ∷ false ∷ []) (swept three 10 (ahead cancel)).processes 0
  pub second : (cancel : Cancel) → IsDrawn 10 (stamp 2 0 1) 5 (true ∷ false ∷ false ∷ []) (swept three 10 (ahead cancel)).processes 1
  pub complete : (cancel : Cancel) → (state gen_tally 3 (driven cancel) ≡ Complete)
      × IsOutcome gen_tally 3 Complete driven_trace
  pub fault : (cancel : Cancel) → (state (lone 1099511627773) 1099511627774 (ended cancel) ≡ InFault out_of_ticks)
      × IsOutcome (lone 1099511627773) 1099511627774 (InFault out_of_ticks) last_output
