use Rattle.std.proofs.Common.{◌≡◌, drop, map}
use Rattle.tw_machine_file.specs.Names.{is_among}
use Rattle.tw_machine_file.specs.Shared.{field_texts, file_field}
use Rattle.tw_machine_file.proofs.reading.is_said.Given as goal

abbrev pub invariant-loop-field : goal.invariant-loop-field
invariant-loop-field l = is_among (field_texts (map file_field (drop l.field-index l.fields))) l.text ≡ is_among (field_texts (map file_field l.fields)) l.text
