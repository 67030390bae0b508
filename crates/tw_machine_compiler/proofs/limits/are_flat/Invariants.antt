use Rattle.std.proofs.Common.{◌≡◌, drop, map}
use Rattle.std.specs.List.{list_all}
use Rattle.tw_machine_declaration.specs.Seen.{output}
use Rattle.tw_machine_compiler.specs.Limits.{is_flat}
use Rattle.tw_machine_compiler.proofs.limits.are_flat.Given as goal

-- what is to come decides
abbrev pub invariant-loop-output : goal.invariant-loop-output
invariant-loop-output l = list_all is_flat (map output (drop l.output-index l.outputs)) ≡ list_all is_flat (map output l.outputs)
