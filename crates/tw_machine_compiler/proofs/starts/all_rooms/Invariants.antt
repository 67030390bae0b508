use Rattle.std.proofs.Common.{◌≡◌, ◌++◌, drop, map}
use Rattle.std.specs.Prelude.{flat_map}
use Rattle.tw_machine_declaration.specs.Seen.{given, name}
use Rattle.tw_machine_declaration.specs.Names.{rooms, things}
use Rattle.tw_machine_compiler.proofs.starts.all_rooms.Given as goal

-- what has come and what is to come
abbrev pub invariant-loop-named : goal.invariant-loop-named
invariant-loop-named l = l.out.items ++ flat_map (rooms (given l.given)) (things (map name (drop l.named-index l.names))) ≡ flat_map (rooms (given l.given)) (things (map name l.names))
