use Rattle.std.proofs.Common.{◌≡◌, ◌∙◌, map, string_bytes, ap, sym}
use Rattle.std.proofs.lemmas.Simd.{map-map}
use Rattle.std.specs.List.{zip}
use Rattle.tw_figures.specs.Labelled.{figure, observation}
use Rattle.tw_figures.specs.declared.figure.Figure.{Figure}
use Rattle.tw_figures.specs.declared.labels.Observation.{Observation}
use Rattle.tw_stats.specs.Rows.{told_figure, told_observation}
use Rattle.tw_stats.proofs.rows.row_of.Goals as goal

pub returns : goal.returns
returns c =
    let label = c.args.label.now in
    let part = c.args.part.now in
    let figures : map told_figure c.in_ok-told_figures.field-0.items ≡ zip (map (λ f. f.0) (map figure label.figures.items)) part.figures.items =
    c.in_ok-told_figures.ensures ∙ (λ i. zip (map (λ (f : Figure). string_bytes f.name) (c.as_slice.ensures.value i)) (c.as_slice-2.ensures.value i))
    ∙ ap (λ l. zip l part.figures.items) (sym (map-map (λ f. f.0) figure label.figures.items)) in
    let observations : map told_observation c.in_ok-told_observations.field-0.items ≡ zip (map (λ o. o.0) (map observation label.observations.items)) part.observations.items =
    c.in_ok-told_observations.ensures ∙ (λ i. zip (map (λ (o : Observation). string_bytes o.name) (c.as_slice-3.ensures.value i)) (c.as_slice-4.ensures.value i))
    ∙ ap (λ l. zip l part.observations.items) (sym (map-map (λ o. o.0) observation label.observations.items)) in
    λ i. record { name = c.args.name.now; model = c.as_str.ensures.value i; counts = part.counts; figures = figures i; observations = observations i }
