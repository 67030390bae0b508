use Rattle.std.proofs.Common.{◌≡◌, drop, map}
use Rattle.tw_machine_file.specs.Shared.{field_named, file_field}
use Rattle.tw_machine_file.proofs.hiding.field_named.Given as goal

abbrev pub invariant-loop-field : goal.invariant-loop-field
invariant-loop-field l = field_named (map file_field (drop l.field-index l.fields)) l.text ≡ field_named (map file_field l.fields) l.text
