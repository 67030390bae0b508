-- One step of a component, kept with what takes it back.
--     before_of step      where the component stood before it
--     Linked undone step after      it led to this state, from which what is kept of it gives the state before it
--     AllLinked undone steps after      so each of these steps led to the next one, and the last of them to this state
--     IsAt net model home      in this network the component is of this model, and this is the greatest microstep
--     IsOutput model c now s step      this is the output of component c at stamp s, where it stands so
--     CanMove IsValid model now s bag      where it stands so, it can make its transition of stamp s with this bag
--     moved_to model now s bag      the state after that
--     IsPassed model limit now s bag after      it has made it, and stands so then
--     IsPassedAs model limit now s bag after passed      it has, with a record of this kind; or it meets this limit
--     IsTransition model home now s bag step after      this step is that transition, and it stands so then
--     IsStopped model home now s bag refused      why it is not made; of want of memory nothing is said
use Rattle.std.specs.Prelude.{◌≡◌, ℕ, ◌+◌, ◌-◌, ◌<◌, ◌==◌, List, [], ◌∷◌, Option, Some, None, Result, Ok, Err, ⊤}
use Rattle.tw_atomic.specs.Atomic.{Bag, Meaning, CanTurn, turned}
use Rattle.tw_atomic.specs.declared.Turn.{Turn}
use Rattle.tw_msgs.specs.declared.record_kind.RecordKind.{RecordKind}
use Rattle.tw_step.specs.declared.refused.TurnRefused.{TurnRefused}
use Rattle.tw_step.specs.declared.refused.TurnRefused.TheVariants.{OutOfMemory, OverLimit}
use Rattle.tw_step.specs.declared.step.Home.{Home}
use Rattle.tw_step.specs.declared.step.Step.{Step}
use Rattle.tw_step.specs.Turns.{IsDueBy}
use Rattle.tw_theory.specs.Network.{Network, model_of}
use Rattle.tw_theory.specs.Transitions.{Moment, output, transition, turn}
use Rattle.tw_vtime.specs.Advance.{advanced}
use Rattle.tw_vtime.specs.Stamps.{never, tick_of}
use Rattle.tw_vtime.specs.declared.limits.Limit.{Limit}

-- ---- what is kept of a step

abbrev pub before_of : {S R : Type 0} → Step S R → Moment S
before_of step = record { state = step.before.value; last = step.last; due = step.due }

-- from this state the residue of its turn gives the state before it
pub record IsUndone {S R : Type 0} (undone : Turn → S → ℕ → Bag → R → S) (step : Step S R) (kept : Turn × R) (after : S) : Type 0 where
  pub is_due : step.done.stamp < never
  pub last_is : step.last < never
  pub back : undone kept.0 after (tick_of step.done.stamp - tick_of step.last) step.done.bag kept.1 ≡ step.before.value

-- an output leaves the state; a transition is undone by its residue
abbrev pub LinkedBy : {S R : Type 0} → (Turn → S → ℕ → Bag → R → S) → Step S R → Option (Turn × R) → S → Type 0
LinkedBy undone step None after = after ≡ step.before.value
LinkedBy undone step (Some kept) after = IsUndone undone step kept after

abbrev pub Linked : {S R : Type 0} → (Turn → S → ℕ → Bag → R → S) → Step S R → S → Type 0
Linked undone step after = LinkedBy undone step step.residue after

-- the state before the first of these steps, if this one is after them
abbrev pub state_before : {S R : Type 0} → List (Step S R) → S → S
state_before [] after = after
state_before (step ∷ steps) after = step.before.value

abbrev pub AllLinked : {S R : Type 0} → (Turn → S → ℕ → Bag → R → S) → List (Step S R) → S → Type 0
AllLinked undone [] after = ⊤
AllLinked undone (step ∷ steps) after = Linked undone step (state_before steps after) × AllLinked undone steps after

-- ---- the steps that a component makes

pub record IsAt {S : Type 0} (net : Network S) (model : Meaning S) (home : Home) : Type 0 where
  pub model_is : (s : S) → model_of net home.component s ≡ model
  pub limit_is : net.micro_limit ≡ home.micro_limit

-- in each network with this component it is the output that the definition makes
pub record IsOutput {S R : Type 0} (model : Meaning S) (c : ℕ) (now : Moment S) (s : ℕ) (step : Step S R) : Type 0 where
  pub before_is : before_of step ≡ now
  pub makes : (net : Network S) → ((x : S) → model_of net c x ≡ model) → output net c now s ≡ record { entry = step.done; after = record now { due = s + 1 } }

abbrev pub CanMove : {S : Type 0} → (S → Type 0) → Meaning S → Moment S → ℕ → Bag → Type 0
CanMove IsValid model now s bag = CanTurn IsValid model (turn (now.due == s) bag) now.state (tick_of s - tick_of now.last) bag

abbrev pub moved_to : {S : Type 0} → Meaning S → Moment S → ℕ → Bag → S
moved_to model now s bag = turned model (turn (now.due == s) bag) now.state (tick_of s - tick_of now.last) bag

pub record IsPassed {S : Type 0} (model : Meaning S) (limit : ℕ) (now : Moment S) (s : ℕ) (bag : Bag) (after : Moment S) : Type 0 where
  pub state_is : after.state ≡ moved_to model now s bag
  pub last_is : after.last ≡ s - 1
  pub due_is : IsDueBy (advanced s (model.ta after.state) limit) after.due

-- in each network with such a component the definition makes the transition so, or meets the limit
abbrev pub IsPassedAs : {S : Type 0} → Meaning S → ℕ → Moment S → ℕ → Bag → Moment S → Result RecordKind Limit → Type 0
IsPassedAs model limit now s bag after (Ok kind) = IsPassed model limit now s bag after × ((net : Network _) (c : ℕ) → IsAt net model (record { component = c; micro_limit = limit })
    → transition net c now s bag ≡ Ok (record { entry = record { component = c; stamp = s; kind = kind; bag = bag; words = model.words after.state }; after = after }))
IsPassedAs model limit now s bag after (Err met) = (net : Network _) (c : ℕ) → IsAt net model (record { component = c; micro_limit = limit }) → transition net c now s bag ≡ Err met

-- in each network with this component it is the transition that the definition makes
pub record IsTransition {S R : Type 0} (model : Meaning S) (home : Home) (now : Moment S) (s : ℕ) (bag : Bag) (step : Step S R) (after : Moment S) : Type 0 where
  pub before_is : before_of step ≡ now
  pub passed : IsPassed model home.micro_limit now s bag after
  pub makes : (net : Network S) → IsAt net model home → transition net home.component now s bag ≡ Ok (record { entry = step.done; after = after })

abbrev pub IsStopped : {S : Type 0} → Meaning S → Home → Moment S → ℕ → Bag → TurnRefused → Type 0
IsStopped model home now s bag OutOfMemory = ⊤
IsStopped model home now s bag (OverLimit limit) = (net : Network _) → IsAt net model home → transition net home.component now s bag ≡ Err limit
