use Rattle.std.proofs.Common.{◌≡◌, [], drop, map}
use Rattle.serde_json.specs.View.{items_view}
use Rattle.tw_machine_file.specs.Shared.{fields_above, file_field}
use Rattle.tw_machine_file.proofs.reading.fields_read.Given as goal

-- what has come, and what is to come
abbrev pub invariant-loop-value : goal.invariant-loop-value
invariant-loop-value l = fields_above l.low (map file_field l.fields.items) (items_view (drop l.value-index l.values)) ≡ fields_above 0 [] (items_view l.values)
