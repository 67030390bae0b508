use Rattle.std.proofs.Common.{◌≡◌, drop}
use Rattle.serde_json.specs.View.{items_view}
use Rattle.tw_machine_file.specs.Declares.{observations_of}
use Rattle.tw_machine_file.specs.Seen.{scope}
use Rattle.tw_machine_file.proofs.declarations.observations_of.Given as goal

-- what has come, and what is to come
abbrev pub invariant-loop-value : goal.invariant-loop-value
invariant-loop-value l = observations_of (scope l.all) (items_view (drop l.value-index l.values)) ≡ observations_of (scope l.fn.so_far) (items_view l.values)
