-- What the figures of the built-in models are of a state: the values of their names.
use Rattle.std.specs.Prelude.{◌≡◌, ℕ, ℤ, pos, List, [], ◌∷◌, codes, length, map}
use Rattle.tw_figures.specs.Figures.{value_of}
use Rattle.tw_models.specs.Model.{model_meaning}
use Rattle.tw_models.specs.declared.generator.GenState.{GenState}
use Rattle.tw_models.specs.declared.tally.TallyState.{TallyState}
use Rattle.tw_models.specs.declared.relay.RelayState.{RelayState}
use Rattle.tw_models.specs.declared.queue.QueueState.{QueueState}
use Rattle.tw_models.specs.declared.model.Model.{Model}
use Rattle.tw_models.specs.declared.model.Model.TheVariants.{Gen, Tally, Relay, Queue}
use Rattle.tw_models.specs.declared.model.State.{State}
use Rattle.tw_models.specs.declared.model.State.TheVariants.{OfGen, OfTally, OfRelay, OfQueue}
use Rattle.tw_models.specs.Parameters.{GenParameters, RelayParameters, QueueParameters}
use Rattle.tw_figure_names.specs.Labels.{figures_in}

-- the values of a model's figures in a state, each with its name
abbrev pub shown : Model → State → List (List ℕ × ℤ)
shown m s = map (λ f. (f.0, value_of f.1 ((model_meaning m).words s))) (figures_in m)

pub record FiguresLaw : Type 0 where
  pub gen : (g : GenParameters) (s : GenState) → shown (Gen g) (OfGen s) ≡ (codes "count", pos s.count) ∷ []
  pub tally : (s : TallyState) → shown Tally (OfTally s) ≡ (codes "count", pos s.count) ∷ (codes "sum", s.sum) ∷ (codes "last", s.last) ∷ []
  pub relay : (r : RelayParameters) (s : RelayState) → shown (Relay r) (OfRelay s) ≡ (codes "dropped", pos s.dropped) ∷ (codes "held", pos (length s.held.items)) ∷ []
  pub queue : (q : QueueParameters) (s : QueueState) → shown (Queue q) (OfQueue s) ≡ (codes "dropped", pos s.dropped) ∷ (codes "jobs", pos (length s.jobs.items)) ∷ []
