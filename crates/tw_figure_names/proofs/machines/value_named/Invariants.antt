use Rattle.std.proofs.Common.{◌≡◌, drop}
use Rattle.serde_json.specs.View.{items_view}
use Rattle.tw_figure_names.specs.Said.{value_named}
use Rattle.tw_figure_names.proofs.machines.value_named.Given as goal

-- none of those before has the name
abbrev pub invariant-loop-value : goal.invariant-loop-value
invariant-loop-value l = value_named (items_view l.values) l.name ≡ value_named (items_view (drop l.value-index l.values)) l.name
