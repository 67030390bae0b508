-- What the built-in models are called, and their figures; they have no observations.
--     figures_in m      its figures, each by its name and what it tells
--     built_in m      its name and its figures; it has no observations
use Rattle.std.specs.Prelude.{ℕ, List, [], ◌∷◌, codes}
use Rattle.tw_figures.specs.Labelled.{Label}
use Rattle.tw_figures.specs.declared.figure.Measure.{Measure}
use Rattle.tw_figures.specs.declared.figure.Measure.TheVariants.{Word, Beyond}
use Rattle.tw_models.specs.Kinds.{kind_name}
use Rattle.tw_models.specs.declared.model.Model.{Model}
use Rattle.tw_models.specs.declared.model.Model.TheVariants.{Gen, Tally, Relay, Queue, Hop}

abbrev pub figures_in : Model → List (List ℕ × Measure)
figures_in (Gen g) = (codes "count", Word 0) ∷ []
figures_in Tally = (codes "count", Word 0) ∷ (codes "sum", Word 1) ∷ (codes "last", Word 2) ∷ []
figures_in (Relay r) = (codes "dropped", Word 0) ∷ (codes "held", Beyond 1) ∷ []
figures_in (Queue q) = (codes "dropped", Word 0) ∷ (codes "jobs", Beyond 1) ∷ []
figures_in (Hop h) = []

abbrev pub built_in : Model → Label
built_in m = record { model = kind_name m; figures = figures_in m; observations = [] }
