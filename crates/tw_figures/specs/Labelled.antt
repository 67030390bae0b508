-- What a component's model is called, its figures and its observations, without where they lie in memory.
--     Label      the name of a model, its figures, each by its name and what it tells, and its observations, each by its name and its place among the words
--     figure f, observation o, label l      those of the values that hold them
use Rattle.std.specs.Prelude.{ℕ, List, map, string_bytes}
use Rattle.tw_figures.specs.declared.figure.Figure.{Figure}
use Rattle.tw_figures.specs.declared.figure.Measure.{Measure}
use Rattle.tw_figures.specs.declared.labels.Labels.{Labels}
use Rattle.tw_figures.specs.declared.labels.Observation.{Observation}

pub record Label : Type 0 where
  pub model : List ℕ
  pub figures : List (List ℕ × Measure)
  pub observations : List (List ℕ × ℕ)

abbrev pub figure : Figure → List ℕ × Measure
figure f = (string_bytes f.name, f.measure)

abbrev pub observation : Observation → List ℕ × ℕ
observation o = (string_bytes o.name, o.place)

abbrev pub label : Labels → Label
label l = record { model = string_bytes l.model; figures = map figure l.figures.items; observations = map observation l.observations.items }
