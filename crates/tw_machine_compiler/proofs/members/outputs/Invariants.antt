use Rattle.std.proofs.Common.{◌≡◌, ◌++◌, drop, map}
use Rattle.tw_machine_declaration.specs.Seen as plain
use Rattle.tw_machine.specs.Seen.{seen_output}
use Rattle.tw_machine_compiler.specs.Program.{output}
use Rattle.tw_machine_compiler.proofs.members.outputs.Given as goal

-- what has come and what is to come
abbrev pub invariant-loop-text : goal.invariant-loop-text
invariant-loop-text l = map seen_output l.outputs.items ++ map (output l.standings) (map plain.output (drop l.text-index l.texts)) ≡ map (output l.standings) (map plain.output l.texts)
