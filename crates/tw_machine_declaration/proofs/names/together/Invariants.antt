use Rattle.std.proofs.Common.{◌≡◌, ◌+◌, ◌≤◌, min, drop, length, map}
use Rattle.std.specs.Prelude.{sum_by}
use Rattle.tw_machine_declaration.specs.Names.{together}
use Rattle.tw_machine_declaration.proofs.names.together.Given as goal

-- what has been counted and what is to be counted
abbrev pub invariant-loop-list : goal.invariant-loop-list
invariant-loop-list l =
    record {
      rest : min (l.total + sum_by length (map (λ list. list.items) (drop l.list-index l.lists))) 65537 ≡ together (map (λ list. list.items) l.lists);
      small : l.total ≤ 65537;
    }
