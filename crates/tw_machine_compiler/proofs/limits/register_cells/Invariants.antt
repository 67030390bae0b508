use Rattle.std.proofs.Common.{◌≡◌, ◌+◌, ◌≤◌, min, drop, map}
use Rattle.tw_machine_declaration.specs.Seen.{name}
use Rattle.tw_machine_compiler.specs.Limits.{register_cells}
use Rattle.tw_machine_compiler.proofs.limits.register_cells.Given as goal

-- what has come and what is to come
abbrev pub invariant-loop-named : goal.invariant-loop-named
invariant-loop-named l =
    record {
      rest : min (l.total + register_cells (map name (drop l.named-index l.names))) 257 ≡ min (register_cells (map name l.names)) 257;
      small : l.total ≤ 257;
    }
