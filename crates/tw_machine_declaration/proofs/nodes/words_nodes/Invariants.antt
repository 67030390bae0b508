use Rattle.std.proofs.Common.{◌≡◌, ◌+◌, ◌≤◌, min, drop, map}
use Rattle.std.specs.Prelude.{sum_by}
use Rattle.tw_machine_declaration.specs.Seen.{value}
use Rattle.tw_machine_declaration.specs.Members.{value_nodes}
use Rattle.tw_machine_declaration.proofs.nodes.words_nodes.Given as goal

-- what has come and what is to come
abbrev pub invariant-loop-text : goal.invariant-loop-text
invariant-loop-text l =
    record {
      rest : min (l.total + sum_by value_nodes (map value (drop l.text-index l.texts))) 4097 ≡ min (sum_by value_nodes (map value l.texts)) 4097;
      small : l.total ≤ 4097;
    }
