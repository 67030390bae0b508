use Rattle.std.proofs.Common.{◌≡◌, drop, map}
use Rattle.tw_machine_file.specs.Constants.{file_constant, number_named}
use Rattle.tw_machine_file.proofs.constants.number_named.Given as goal

abbrev pub invariant-loop-one : goal.invariant-loop-one
invariant-loop-one l = number_named (map file_constant (drop l.one-index l.constants)) l.name ≡ number_named (map file_constant l.constants) l.name
