use Rattle.std.proofs.Common.{◌≡◌, ◌+◌, ◌≤◌, min, drop, map}
use Rattle.std.specs.Prelude.{sum_by}
use Rattle.tw_machine_declaration.specs.Seen.{output}
use Rattle.tw_machine_declaration.specs.Members.{output_work}
use Rattle.tw_machine_declaration.proofs.computing.outputs_work.Given as goal

-- what has come and what is to come
abbrev pub invariant-loop-text : goal.invariant-loop-text
invariant-loop-text l =
    record {
      rest : min (l.total + sum_by (output_work l.standings) (map output (drop l.text-index l.texts))) 262145 ≡ min (sum_by (output_work l.standings) (map output l.texts)) 262145;
      small : l.total ≤ 262145;
    }
