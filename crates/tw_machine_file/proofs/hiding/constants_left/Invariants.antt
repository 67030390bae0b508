use Rattle.std.proofs.Common.{◌≡◌, ◌++◌, drop, map}
use Rattle.serde_json.specs.View.{view}
use Rattle.tw_machine_file.specs.Constants.{file_constant}
use Rattle.tw_machine_file.specs.Shared.{constants_left}
use Rattle.tw_machine_file.proofs.hiding.constants_left.Given as goal

-- what has come and what is to come
abbrev pub invariant-loop-one : goal.invariant-loop-one
invariant-loop-one l =
    map file_constant l.left.items ++ constants_left (view l.machine) (map file_constant (drop l.one-index l.constants))
    ≡ constants_left (view l.machine) (map file_constant l.constants)
