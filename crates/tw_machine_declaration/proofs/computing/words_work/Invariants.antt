use Rattle.std.proofs.Common.{◌≡◌, ◌+◌, ◌≤◌, min, drop, map}
use Rattle.std.specs.Prelude.{sum_by}
use Rattle.tw_machine_declaration.specs.Seen.{value}
use Rattle.tw_machine_declaration.specs.Members.{word_work}
use Rattle.tw_machine_declaration.proofs.computing.words_work.Given as goal

-- what has come and what is to come
abbrev pub invariant-loop-text : goal.invariant-loop-text
invariant-loop-text l =
    record {
      rest : min (l.total + sum_by (word_work l.standings) (map value (drop l.text-index l.texts))) 262145 ≡ min (sum_by (word_work l.standings) (map value l.texts)) 262145;
      small : l.total ≤ 262145;
    }
