use Rattle.std.proofs.Common.{◌≡◌, drop}
use Rattle.serde_json.specs.View.{items_view}
use Rattle.tw_file_settings.specs.Reseeded.{is_among}
use Rattle.tw_file_settings.proofs.reseeding.is_among.Given as goal

-- none of those before is it
abbrev pub invariant-loop-text : goal.invariant-loop-text
invariant-loop-text l = is_among l.name (items_view (drop l.text-index l.texts)) ≡ is_among l.name (items_view l.texts)
