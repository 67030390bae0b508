use Rattle.std.proofs.Common.{◌≡◌, drop}
use Rattle.serde_json.specs.View.{items_view}
use Rattle.tw_file_settings.specs.Assigned.{place_named}
use Rattle.tw_file_settings.proofs.assigning.place_named.Given as goal

-- none of those before has the name
abbrev pub invariant-loop-place : goal.invariant-loop-place
invariant-loop-place l = place_named l.place l.name (items_view (drop l.place l.components)) ≡ place_named 0 l.name (items_view l.components)
