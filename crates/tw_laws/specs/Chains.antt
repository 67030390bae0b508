-- What a chain has to do with the process of its component, and what installing one does to an executive.
use Rattle.std.specs.Prelude.{ℕ, ◌<◌, ◌≤◌, ◌≡◌, List, ◌++◌, map, take, drop, replicate, Ok, Some, slice_get}
use Rattle.std.specs.List.{AllByRecursion as Each}
use Rattle.tw_atomic.specs.Atomic.{Meaning}
use Rattle.tw_msgs.specs.declared.message.Message.{Message}
use Rattle.tw_vtime.specs.Stamps.{stamp}
use Rattle.tw_theory.specs.Bundles.{first_stamp}
use Rattle.tw_theory.specs.Chains.{Start, SoloRun, IsSoloRun, Cause, IsHome, Agrees, alone, own_steps, made_anew}
use Rattle.tw_theory.specs.Contents.{Process, before_all}
use Rattle.tw_theory.specs.Executive.{World, Action, Answer, Stepped, with_process, replay, answers}
use Rattle.tw_theory.specs.Installing.{Finished, IsFresh, IsInstalled, TakesFrom}
use Rattle.tw_theory.specs.LocalRun.{Step, Made, Leads, local_step}
use Rattle.tw_theory.specs.Network.{Network}
use Rattle.tw_theory.specs.Transitions.{Moment}

pub record ChainLaw (S : Type 0) : Type 0 where
  -- where a component stands at the start of a chain and has its messages before the bound, the steps of the chain are its next ones
  pub next_steps : (net : Network S) (model : Meaning S) (k : SoloRun S) (later : List Message) → IsHome net model k.start → IsSoloRun model k
      → k.start.before ≤ first_stamp later
      → Leads net k.start.component k.start.now (k.start.messages ++ later) (own_steps net k.start.component k.steps) k.after (k.left ++ later)
  -- whatever messages it has: where a step of a chain agrees with its next one in stamp and bag, it is its next one, and it stands after it where the chain does
  pub same_step : (net : Network S) (model : Meaning S) (start : Start S) (now : Moment S) (messages pending : List Message) (made : Made S) → IsHome net model start
      → local_step (alone model start) start.component now messages ≡ Ok made → Agrees now pending made.step
      → local_step net start.component now pending ≡ Ok (made_anew net start.component pending made)

-- ---- installing

-- so many Step actions of one component
abbrev pub steps_of_one : ℕ → ℕ → List Action
steps_of_one c n = replicate n (Action.Step c)

-- each answered as the chain's step is
abbrev pub answers_of : {S : Type 0} → List (Step S) → List Answer
answers_of steps = map (λ step. Ok (Stepped step.entry.stamp step.entry.kind)) steps

-- Installing the first n steps of a chain is n Step actions of its component, p being its process before, and q after
pub record IsStepped {S : Type 0} (net : Network S) (until : ℕ) (w : World S) (r : SoloRun S) (n : ℕ) (p q : Process S) : Type 0 where
  pub world : replay net until w (steps_of_one r.start.component n) ≡ with_process w r.start.component q
  pub answers : answers net until w (steps_of_one r.start.component n) ≡ answers_of (take n r.steps)
  -- it stands where the chain stands after these steps
  pub now : 0 < n → q.now ≡ before_all (drop n r.steps) r.after
  -- and its history gains them as its own
  pub history : Each (λ m. m.to ≡ r.start.component) r.start.messages → Each (λ m. m.to ≡ r.start.component) p.pending
      → q.history ≡ p.history ++ own_steps net r.start.component (take n r.steps)

pub record InstallLaw (S : Type 0) : Type 0 where
  -- of a chain of the component's model whose bound is not after the end of the run
  pub steps : (net : Network S) (until : ℕ) (w : World S) (model : Meaning S) (r : SoloRun S) (cause : Cause) (p q : Process S) (finished : Finished)
      → IsHome net model r.start → IsSoloRun model r → r.start.before ≤ stamp until 0 0 → slice_get w.processes r.start.component ≡ Some p
      → IsInstalled net r cause p q finished → IsStepped net until w r finished.installed p q
  -- a process that has not changed finds no step stale
  pub undisturbed : (net : Network S) (model : Meaning S) (r : SoloRun S) (n : ℕ) (later : List Message) (p q : Process S) (step : Step S) → IsHome net model r.start → IsSoloRun model r
      → p.now ≡ r.start.now → p.pending ≡ r.start.messages ++ later → r.start.before ≤ first_stamp later
      → TakesFrom net r.start 0 (take n r.steps) p q → slice_get r.steps n ≡ Some step → IsFresh r.start n q step
