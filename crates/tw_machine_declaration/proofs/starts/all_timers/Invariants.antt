use Rattle.std.proofs.Common.{◌≡◌, ◌+◌, ◌≤◌, min, drop}
use Rattle.std.specs.Prelude.{sum_by}
use Rattle.tw_machine_declaration.specs.Seen.{given}
use Rattle.tw_machine_declaration.specs.Names.{timer_count}
use Rattle.tw_machine_declaration.proofs.starts.all_timers.Given as goal

-- what has come and what is to come
abbrev pub invariant-loop-timer : goal.invariant-loop-timer
invariant-loop-timer l =
    record {
      rest : min (l.total + sum_by (timer_count (given l.given)) (drop l.timer-index l.timers)) 257 ≡ min (sum_by (timer_count (given l.given)) l.timers) 257;
      small : l.total ≤ 257;
    }
