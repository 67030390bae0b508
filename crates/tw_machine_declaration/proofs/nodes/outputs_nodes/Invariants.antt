use Rattle.std.proofs.Common.{◌≡◌, ◌+◌, ◌≤◌, min, drop, map}
use Rattle.std.specs.Prelude.{sum_by}
use Rattle.tw_machine_declaration.specs.Seen.{output}
use Rattle.tw_machine_declaration.specs.Members.{output_nodes}
use Rattle.tw_machine_declaration.proofs.nodes.outputs_nodes.Given as goal

-- what has come and what is to come
abbrev pub invariant-loop-text : goal.invariant-loop-text
invariant-loop-text l =
    record {
      rest : min (l.total + sum_by output_nodes (map output (drop l.text-index l.texts))) 4097 ≡ min (sum_by output_nodes (map output l.texts)) 4097;
      small : l.total ≤ 4097;
    }
