-- What stays true from round to round.
--     StandsIn valid meaning round c s now      component c of a round stands so; AllStandIn: each does
--     HaveTimes inputs      each input to come has the time of a transition
--     IsBetween valid model s now      a component that stands between two rounds, the next of which is not before s
--     AllStand valid meaning models s moments      each component of the network
--     IsUnderway valid meaning contents s run      the network, and the inputs to come, in order
use Rattle.std.specs.Prelude.{◌≡◌, ℕ, ◌<◌, ◌⊎◌, List, length, slice_get, Some}
use Rattle.std.specs.List.{AllByRecursion as Each}
use Rattle.tw_atomic.specs.Atomic.{Meaning}
use Rattle.tw_msgs.specs.declared.message.Message.{Message}
use Rattle.tw_network.specs.Contents.{Contents}
use Rattle.tw_rounds.specs.Dealing.{Carried}
use Rattle.tw_rounds.specs.declared.round.Round.{Round}
use Rattle.tw_theory.specs.Bundles.{Ascending}
use Rattle.tw_theory.specs.Transitions.{Moment}
use Rattle.tw_theory.specs.Simulator.{Run}
use Rattle.tw_theory.specs.Standing.{IsStanding}
use Rattle.tw_vtime.specs.Stamps.{never, phase_of}

-- between rounds the last time and the next own step are those of outputs
pub record IsBetween {S : Type 0} (IsValid : S → Type 0) (model : Meaning S) (s : ℕ) (now : Moment S) : Type 0 where
  pub stands : IsStanding IsValid model now s
  pub last_even : phase_of now.last ≡ 0
  pub due_even : (phase_of now.due ≡ 0) ⊎ (now.due ≡ never)

pub record AllStand {M S : Type 0} (valid : M → S → Type 0) (meaning : M → Meaning S) (models : List M) (s : ℕ) (moments : List (Moment S)) : Type 0 where
  pub size : length moments ≡ length models
  pub each : (c : ℕ) (model : M) (now : Moment S) → slice_get models c ≡ Some model → slice_get moments c ≡ Some now → IsBetween (valid model) (meaning model) s now

-- the same, of the network of a round
abbrev pub StandsIn : {M S R : Type 0} → (M → S → Type 0) → (M → Meaning S) → Round M S R → ℕ → ℕ → Moment S → Type 0
StandsIn {M} valid meaning round c s now = (model : M) → slice_get round.network.now.models c ≡ Some model → IsBetween (valid model) (meaning model) s now

abbrev pub AllStandIn : {M S R : Type 0} → (M → S → Type 0) → (M → Meaning S) → Round M S R → ℕ → List (Moment S) → Type 0
AllStandIn valid meaning round s moments = AllStand valid meaning round.network.now.models s moments

-- ---- inputs

abbrev pub HaveTimes : List Message → Type 0
HaveTimes inputs = Each (λ m. (m.stamp < never) × (phase_of m.stamp ≡ 1)) inputs

-- a message to come, for a component below n
pub record IsToCome (n s : ℕ) (m : Message) : Type 0 where
  pub after : s < m.stamp
  pub phase : phase_of m.stamp ≡ 1
  pub before_end : m.stamp < never
  pub to : m.to < n
  pub carried : Carried m

pub record IsUnderway {M S : Type 0} (valid : M → S → Type 0) (meaning : M → Meaning S) (contents : Contents M) (s : ℕ) (run : Run S) : Type 0 where
  pub even : phase_of s ≡ 0
  pub moments : AllStand valid meaning contents.models s run.at.moments
  pub inputs : Each (IsToCome (length contents.models) s) run.at.inputs
  pub order : Ascending run.at.inputs
