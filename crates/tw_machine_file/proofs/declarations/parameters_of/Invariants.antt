use Rattle.std.proofs.Common.{◌≡◌, drop}
use Rattle.std.specs.Prelude.{option_map}
use Rattle.serde_json.specs.View.{view, items_view}
use Rattle.tw_machine_file.specs.Declares.{parameters_of}
use Rattle.tw_machine_file.specs.Seen.{scope}
use Rattle.tw_machine_file.proofs.declarations.parameters_of.Given as goal

-- what has come, and what is to come
abbrev pub invariant-loop-value : goal.invariant-loop-value
invariant-loop-value l =
    parameters_of (option_map (λ v. view v.now) l.tables) (scope l.all) (items_view (drop l.value-index l.values))
    ≡ parameters_of (option_map (λ v. view v.now) l.tables) (scope l.fn.so_far) (items_view l.values)
