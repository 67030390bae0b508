-- One component more has its name and its figures.
use Rattle.std.proofs.Common.{◌∙◌, ◌+◌, ◌++◌, List, ap, append-nil, arith, drop, map, slice_index_or, sym}
use Rattle.std.proofs.lemmas.List.{drop_all}
use Rattle.std.proofs.lemmas.Option.{get_or_from_slice_get, slice_get_within}
use Rattle.serde_json.specs.Data.{null}
use Rattle.serde_json.specs.View.{view, items_view}
use Rattle.tw_any_model.specs.declared.any_model.AnyModel.{AnyModel}
use Rattle.tw_figures.specs.Labelled.{label}
use Rattle.tw_figures.specs.declared.labels.Labels.{Labels}
use Rattle.tw_machine_file.specs.Seen.{machine}
use Rattle.tw_figure_names.specs.Said.{label_said, labels_from}
use Rattle.tw_figure_names.proofs.Labelling.{one_label_more}
use Rattle.tw_figure_names.proofs.network.labels_in.Goals as goal

pub loop-component-preserved : goal.loop-component-preserved
loop-component-preserved c =
    let machines = map machine c.in_ok-machines.machines.items in
    let values = items_view c.items_in-values.result.now in
    let said = map (λ a. view a.now) c.in_ok-atoms.atoms.items in
    let models = c.args.network.now.models in
    let at = c.loop-component.component in
    let model = c.model-model.result.now in
    let labelled =
    c.in_ok-label.ensures
    ∙ (λ i. label_said (map machine (c.deref.ensures.value i)) values model (slice_index_or (map (λ a. view a.now) (c.deref-in-loop-component.ensures.value i)) at null)) in
    ap (λ (ls : List Labels). map label ls ++ labels_from machines values said (at + 1) (drop (at + 1) models)) c.in_ok-push.ensures.items
    ∙ one_label_more machines values said models at model c.loop-component.labels.items c.in_ok-label.label
    (slice_get_within models at model c.model-model.ensures) (sym (get_or_from_slice_get models at model model c.model-model.ensures)) labelled
    ∙ c.loop-component.invariant

pub returns : goal.returns
returns c =
    let machines = map machine c.in_ok-machines.machines.items in
    let values = items_view c.items_in-values.result.now in
    let said = map (λ a. view a.now) c.in_ok-atoms.atoms.items in
    let models = c.args.network.now.models in
    let at = c.loop-component.component in
    let labels = map label c.loop-component.labels.items in
    sym (append-nil labels)
    ∙ ap (λ (ms : List AnyModel). labels ++ labels_from machines values said at ms) (sym (drop_all at models (omega arith)))
    ∙ c.loop-component.invariant
    ∙ (λ i. labels_from (c.in_ok-machines.ensures i) (c.items_in-values.ensures i) (c.in_ok-atoms.ensures i) 0 models)
