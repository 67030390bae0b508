use Rattle.std.proofs.Common.{◌≡◌}
use Rattle.std.specs.Prelude.{reverse}
use Rattle.tw_machine.specs.Running.{turns}
use Rattle.tw_machine.specs.Undoing.{past, returned}
use Rattle.tw_machine.proofs.undoing.refill.Given as goal

-- those so far are put back
abbrev pub invariant-loop-at : goal.invariant-loop-at
invariant-loop-at l = past l.memory (reverse l.log.items) ≡ turns l.at (returned l.line) (past l.fn.memory (reverse l.fn.log.items))
