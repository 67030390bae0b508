use Rattle.std.proofs.Common.{◌≡◌}
use Rattle.tw_machine.specs.Running.{at_turn, turns, run}
use Rattle.tw_machine.proofs.running.+run.Given as goal

-- the turns so far
abbrev pub invariant-loop-turn : goal.invariant-loop-turn
invariant-loop-turn l = l.state ≡ turns l.turn (λ k r. run l.inner.value l.numbers (at_turn l.input k) r) l.initial.state
