use Rattle.std.proofs.Common.{◌≡◌, drop}
use Rattle.serde_json.specs.View.{items_view}
use Rattle.tw_file_settings.specs.Reseeded.{first_named}
use Rattle.tw_file_settings.proofs.reseeding.first_named.Given as goal

-- none of those before has the name
abbrev pub invariant-loop-machine : goal.invariant-loop-machine
invariant-loop-machine l = first_named l.name (items_view (drop l.machine-index l.machines)) ≡ first_named l.name (items_view l.machines)
