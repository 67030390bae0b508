-- One component more has its name and its figures.
use Rattle.std.proofs.Common.{◌≡◌, ◌∙◌, ◌+◌, ◌<◌, ◌++◌, ◌∷◌, [], ℕ, List, ap, append_assoc, drop, get_or, length, map, slice_index_or, sym}
use Rattle.std.proofs.lemmas.List.{drop_more, map_push}
use Rattle.serde_json.specs.Data.{Data, null, Items}
use Rattle.tw_any_model.specs.declared.any_model.AnyModel.{AnyModel}
use Rattle.tw_figures.specs.Labelled.{label}
use Rattle.tw_figures.specs.declared.labels.Labels.{Labels}
use Rattle.tw_machine_file.specs.Seen.{Machine}
use Rattle.tw_figure_names.specs.Said.{label_said, labels_from}

pub one_label_more : (machines : List Machine) (values : Items) (said : List Data) (models : List AnyModel) (i : ℕ) (model : AnyModel) (done : List Labels) (l : Labels)
    → i < length models → model ≡ get_or models i model → label l ≡ label_said machines values model (slice_index_or said i null)
    → map label (done ++ l ∷ []) ++ labels_from machines values said (i + 1) (drop (i + 1) models) ≡ map label done ++ labels_from machines values said i (drop i models)
one_label_more machines values said models i model done l below is labelled =
    let behind = labels_from machines values said (i + 1) (drop (i + 1) models) in
    ap (λ ls. ls ++ behind) (map_push label done l) ∙ append_assoc (map label done) (label l ∷ []) behind
    ∙ ap (λ x. map label done ++ (x ∷ behind)) labelled
    ∙ ap (λ ms. map label done ++ labels_from machines values said i ms) (sym (drop_more models i model below ∙ ap (λ m. m ∷ drop (i + 1) models) (sym is)))
