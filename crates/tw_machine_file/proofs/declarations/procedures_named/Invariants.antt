use Rattle.std.proofs.Common.{◌≡◌, drop}
use Rattle.serde_json.specs.View.{items_view}
use Rattle.tw_machine_file.specs.Declares.{procedures_named}
use Rattle.tw_machine_file.specs.Seen.{scope}
use Rattle.tw_machine_file.proofs.declarations.procedures_named.Given as goal

-- what has come, and what is to come
abbrev pub invariant-loop-place : goal.invariant-loop-place
invariant-loop-place l = procedures_named l.place (scope l.all) (items_view (drop l.place l.values)) ≡ procedures_named 0 (scope l.fn.so_far) (items_view l.values)
