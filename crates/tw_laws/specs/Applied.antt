-- The laws applied to concrete networks, so that none has a premise that nothing meets: generator, relay and tally in a row; a run that is driven to its end; one that a limit stops.
use Rattle.std.specs.Prelude.{ℕ, ◌<◌, ◌≤◌, ◌≡◌, pos, length, List, [], ◌∷◌, None, Some, slice_get, Ok}
use Rattle.tw_msgs.specs.declared.record.Record.{Record}
use Rattle.tw_msgs.specs.declared.record_kind.RecordKind.TheVariants.{Out, Int, Ext}
use Rattle.tw_vtime.specs.Stamps.{stamp}
use Rattle.tw_vtime.specs.declared.limits.Limit.TheVariants.{Tick}
use Rattle.tw_theory.specs.Contents.{Process, Cancel, Placed}
use Rattle.tw_theory.specs.ExampleModels.{State}
use Rattle.tw_theory.specs.ExampleNetworks.{three, lone, gen_tally}
use Rattle.tw_theory.specs.ExampleTraces.{out, int, ext, item}
use Rattle.tw_theory.specs.Exchange.{work}
use Rattle.tw_theory.specs.Executive.{World, Action, Step, Post, Deliver, Back, Raise, Harvest, Stepped, Posted, Received, Raised, Harvested, act, replay, answers}
use Rattle.tw_theory.specs.Marks.{marks, rewind}
use Rattle.tw_theory.specs.Network.{IsNetwork}
use Rattle.tw_theory.specs.Outcomes.{state, Complete, Fault as InFault, Going}
use Rattle.tw_theory.specs.Simulator.{Fault, sequential, round_time, up_to}
use Rattle.tw_theory.specs.Soundness.{IsSound, new_world}
use Rattle.tw_theory.specs.Traces.{IsTrace}
use Rattle.tw_laws.specs.Committed.{HasCommitted, Grow}
use Rattle.tw_laws.specs.Ending.{HasAll}
use Rattle.tw_laws.specs.Headline.{Command, after_commands, IsTimeWarp}
use Rattle.tw_laws.specs.History.{Holdings, IsRunTo, IsCommitted}
use Rattle.tw_laws.specs.Inverse.{IsRestored, IsOneRestored, steps_of, stepped_and_rewound, stepped_and_back}
use Rattle.tw_laws.specs.Rewinding.{IsParted, IsRewound, IsOneCut}
use Rattle.tw_laws.specs.Sweeping.{AllProgress}

-- a generator met the greatest tick
abbrev pub out_of_ticks : Fault
out_of_ticks = record { component = 0; stamp = stamp 1099511627773 0 1; limit = Tick }

abbrev pub start : Cancel → World State
start cancel = new_world three cancel

abbrev pub after : Cancel → List Action → World State
after cancel actions = replay three 10 (start cancel) actions

-- the generator has stepped and posted
abbrev pub posted : Cancel → World State
posted cancel = after cancel (Step 0 ∷ Post 0 ∷ [])

-- a generator and a tally, driven until tick 3: the generator sends, its message is delivered, both make their transitions, and all of it is committed
abbrev pub drive : List Action
drive = Step 0 ∷ Post 0 ∷ Deliver 1 0 ∷ Step 0 ∷ Step 1 ∷ Raise ∷ Harvest 0 ∷ Harvest 1 ∷ []

abbrev pub driven : Cancel → World State
driven cancel = replay gen_tally 3 (new_world gen_tally cancel) drive

abbrev pub driven_trace : List Record
driven_trace = out 2 0 0 (item 5) ∷ int 2 0 0 (pos 1 ∷ []) ∷ ext 2 0 1 (item 5) (pos 1 ∷ pos 5 ∷ pos 5 ∷ []) ∷ []

pub record DrivenRun (cancel : Cancel) : Type 0 where
  pub answers_are : answers gen_tally 3 (new_world gen_tally cancel) drive
      ≡ Ok (Stepped (stamp 2 0 0) Out) ∷ Ok (Posted 1) ∷ Ok (Received Placed) ∷ Ok (Stepped (stamp 2 0 1) Int) ∷ Ok (Stepped (stamp 2 0 1) Ext) ∷ Ok (Raised (stamp 4 0 0)) ∷ Ok (Harvested 2) ∷ Ok (Harvested 1) ∷ []
  pub columns : (driven cancel).columns ≡ (out 2 0 0 (item 5) ∷ int 2 0 0 (pos 1 ∷ []) ∷ []) ∷ (ext 2 0 1 (item 5) (pos 1 ∷ pos 5 ∷ pos 5 ∷ []) ∷ []) ∷ []
  pub complete : state gen_tally 3 (driven cancel) ≡ Complete
  -- by the laws: the simulator has no fault, its records are the columns, and those merged are its trace
  pub no_fault : (sequential gen_tally 3).fault ≡ None
  pub has_all : HasAll gen_tally 3 (driven cancel)
  pub merged : driven_trace ≡ (sequential gen_tally 3).records
  pub all_rounds : stamp 3 0 0 ≤ round_time (sequential gen_tally 3).at

-- one generator has stepped, and gvt was raised to its transition
abbrev pub stuck : Cancel → World State
stuck cancel = replay (lone 1099511627773) 1099511627774 (new_world (lone 1099511627773) cancel) (Step 0 ∷ Raise ∷ [])

pub record LawsOfThree (cancel : Cancel) : Type 0 where
  pub network : IsNetwork three
  pub time_warp : (commands : List Command) → IsTimeWarp three cancel 10 (after_commands three 10 (start cancel) commands)
  pub sound : IsSound three 10 (start cancel)
  pub kept : (actions : List Action) → IsSound three 10 (after cancel actions)
  -- after any actions, at gvt
  pub run_to : (actions : List Action) → (h : Holdings State) × IsRunTo three 10 (up_to 10 (after cancel actions).gvt) h × IsCommitted three 10 (up_to 10 (after cancel actions).gvt) h
  pub committed : (actions : List Action) → HasCommitted three 10 (after cancel actions)
  pub restored : (cs : List ℕ) → IsRestored (start cancel) (after cancel (steps_of cs)) (stepped_and_rewound three 10 (start cancel) cs)
  pub rewound : IsRewound (posted cancel) (marks (start cancel).processes) (rewind (posted cancel) (marks (start cancel).processes)).1
  pub restored_by_back : (cs : List ℕ) (c : ℕ) (p : Process State) → slice_get (start cancel).processes c ≡ Some p
      → IsOneRestored (start cancel) (after cancel (steps_of cs)) (stepped_and_back three 10 (start cancel) cs c p) c p
  pub cut_back_to : IsOneCut (posted cancel) 0 0 1 (act three 10 (posted cancel) (Back 0 0)).1
  -- whatever was done, a cut of any process at any stamp takes back what stands at or after it
  pub parts : (actions : List Action) (c s : ℕ) (p : Process State) → slice_get (after cancel actions).processes c ≡ Some p → IsParted s p
  pub rises : (first more : List Action) → (after cancel first).gvt ≤ (replay three 10 (after cancel first) more).gvt
  pub grows : (first more : List Action) → Grow (after cancel first).columns (replay three 10 (after cancel first) more).columns
  pub sweeps_end : (first more : List Action) → AllProgress three 10 (after cancel first) more → length more ≤ work (after cancel first)
  pub less_work : work (act three 10 (posted cancel) (Deliver 1 0)).1 < work (posted cancel)
  pub going : state three 10 (start cancel) ≡ Going
  -- with nothing to do, all is complete, and the simulator has no fault
  pub complete : (state three 0 (start cancel) ≡ Complete) × ((sequential three 0).fault ≡ None)
  -- a generator whose second period would be past the greatest tick: at gvt, with nothing in transit, it meets that limit, and this is the simulator's fault
  pub fault : (state (lone 1099511627773) 1099511627774 (stuck cancel) ≡ InFault out_of_ticks)
      × ((sequential (lone 1099511627773) 1099511627774).fault ≡ Some out_of_ticks)
  -- whatever was done to that generator, no line is past the fault
  pub lines : (actions : List Action) (c : ℕ) (p : Process State) → slice_get (replay (lone 1099511627773) 1099511627774 (new_world (lone 1099511627773) cancel) actions).processes c ≡ Some p
      → p.line ≤ stamp 1099511627773 0 1
  pub driven_run : DrivenRun cancel
  pub traced : IsTrace (sequential three 10).records
