use Rattle.std.proofs.Common.{◌≡◌, ◌++◌, drop, map}
use Rattle.std.specs.Prelude.{flat_map}
use Rattle.tw_machine_declaration.specs.Seen.{given, name}
use Rattle.tw_machine_declaration.specs.Names.{given_numbers, numbers, things}
use Rattle.tw_machine_compiler.proofs.starts.all_numbers.Given as goal

-- what has come and what is to come
abbrev pub invariant-loop-named : goal.invariant-loop-named
invariant-loop-named l = l.out.items ++ flat_map numbers (things (map name (drop l.named-index l.names))) ≡ given_numbers (given l.given) ++ flat_map numbers (things (map name l.names))
