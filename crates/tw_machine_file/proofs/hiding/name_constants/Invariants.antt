use Rattle.std.proofs.Common.{◌≡◌, ◌++◌, drop, map}
use Rattle.tw_machine_declaration.specs.Seen.{name}
use Rattle.tw_machine_file.specs.Constants.{file_constant}
use Rattle.tw_machine_file.specs.Shared.{constant_name}
use Rattle.tw_machine_file.proofs.hiding.name_constants.Given as goal

-- what has come and what is to come
abbrev pub invariant-loop-one : goal.invariant-loop-one
invariant-loop-one l =
    map name l.names.items ++ map constant_name (map file_constant (drop l.one-index l.constants))
    ≡ map name l.fn.names.items ++ map constant_name (map file_constant l.constants)
