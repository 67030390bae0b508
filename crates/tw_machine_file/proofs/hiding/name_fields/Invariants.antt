use Rattle.std.proofs.Common.{◌≡◌, ◌++◌, drop, map}
use Rattle.serde_json.specs.View.{view}
use Rattle.tw_machine_declaration.specs.Seen.{name}
use Rattle.tw_machine_file.specs.Constants.{file_constant}
use Rattle.tw_machine_file.specs.Shared.{fields_left, file_field}
use Rattle.tw_machine_file.proofs.hiding.name_fields.Given as goal

-- what has come and what is to come
abbrev pub invariant-loop-field : goal.invariant-loop-field
invariant-loop-field l =
    map name l.names.items ++ fields_left (view l.machine) (map file_constant l.constants) (map file_field (drop l.field-index l.fields))
    ≡ map name l.fn.names.items ++ fields_left (view l.machine) (map file_constant l.constants) (map file_field l.fields)
