use Rattle.std.proofs.Common.{◌≡◌, ◌++◌, replicate}
use Rattle.tw_machine_declaration.proofs.starts.push_ticks.Given as goal

abbrev pub invariant-loop-i : goal.invariant-loop-i
invariant-loop-i l = l.ticks.items ≡ l.initial.ticks.items ++ replicate l.i l.tick
