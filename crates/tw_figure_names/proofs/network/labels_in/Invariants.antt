use Rattle.std.proofs.Common.{◌≡◌, ◌++◌, drop, map}
use Rattle.serde_json.specs.View.{view, items_view}
use Rattle.tw_machine_file.specs.Seen.{machine}
use Rattle.tw_figures.specs.Labelled.{label}
use Rattle.tw_figure_names.specs.Said.{labels_from}
use Rattle.tw_figure_names.proofs.network.labels_in.Given as goal

-- what has come and what is to come
abbrev pub invariant-loop-component : goal.invariant-loop-component
invariant-loop-component l =
    map label l.labels.items
    ++ labels_from (map machine l.machines.items) (items_view l.values) (map (λ a. view a.now) l.atoms.items) l.component (drop l.component l.network.models)
    ≡ labels_from (map machine l.machines.items) (items_view l.values) (map (λ a. view a.now) l.atoms.items) 0 l.network.models
