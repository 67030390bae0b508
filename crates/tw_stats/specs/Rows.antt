-- What a report says of each component, beside its name.
--     Row      a component: its name and that of its model, its counts, its figures and its observations, each beside its name
--     row_of name label part      that of a name, a label and what is told
--     rows_of name_of labels parts      all components, numbered from 0, by their labels and what is told of them
--     shown_rows rows shown      those of the components that are shown
--     row r, told_figure f, told_observation o      those of the values that hold them
use Rattle.std.specs.Prelude.{◌+◌, ◌∷◌, [], ℕ, List, Bool, filter, map}
use Rattle.std.specs.List.{zip}
use Rattle.std.proofs.Common.{Bor}
use Rattle.tw_figures.specs.Labelled.{Label}
use Rattle.tw_figures.specs.declared.counts.Counts.{Counts}
use Rattle.tw_figures.specs.declared.observed.Observed.{Observed}
use Rattle.tw_figures.specs.declared.told.Told.{Told}
use Rattle.tw_stats.specs.declared.report.Part.{Part}
use Rattle.tw_stats.specs.declared.rows.Row as rust

pub record Row : Type 0 where
  pub name : List ℕ
  pub model : List ℕ
  pub counts : Counts
  pub figures : List (List ℕ × Told)
  pub observations : List (List ℕ × Observed)

abbrev pub row_of : List ℕ → Label → Part → Row
row_of name label part = record {
  name = name;
  model = label.model;
  counts = part.counts;
  figures = zip (map (λ f. f.0) label.figures) part.figures.items;
  observations = zip (map (λ o. o.0) label.observations) part.observations.items;
}

-- from the component of a number on
abbrev pub rows_from : (ℕ → List ℕ) → ℕ → List (Label × Part) → List Row
rows_from name_of component [] = []
rows_from name_of component (x ∷ xs) = row_of (name_of component) x.0 x.1 ∷ rows_from name_of (component + 1) xs

abbrev pub rows_of : (ℕ → List ℕ) → List Label → List Part → List Row
rows_of name_of labels parts = rows_from name_of 0 (zip labels parts)

abbrev pub shown_rows : List Row → List Bool → List Row
shown_rows rows shown = map (λ x. x.0) (filter (λ x. x.1) (zip rows shown))

abbrev pub told_figure : Bor (List ℕ) × Told → List ℕ × Told
told_figure f = (f.0.now, f.1)

abbrev pub told_observation : Bor (List ℕ) × Observed → List ℕ × Observed
told_observation o = (o.0.now, o.1)

abbrev pub row : rust.Row → Row
row r = record { name = r.name.now; model = r.model.now; counts = r.counts; figures = map told_figure r.figures.items; observations = map told_observation r.observations.items }
