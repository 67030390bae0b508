use Rattle.std.proofs.Common.{◌≡◌, ◌≤◌, ◌+◌, ◌*◌, vec_len, vec_capacity}
use Rattle.std.specs.Prelude.{reverse}
use Rattle.tw_machine.specs.Running.{at_turn, turns, run}
use Rattle.tw_machine.specs.Undoing.{kept, kept_turns, needs}
use Rattle.tw_machine.proofs.logging.+run_logged.Given as goal

-- the turns so far, and what they logged
abbrev pub invariant-loop-turn : goal.invariant-loop-turn
invariant-loop-turn l = record {
  state : l.state ≡ turns l.turn (λ k r. run l.inner.value l.numbers (at_turn l.input k) r) l.initial.state;
  log : reverse l.log.items ≡ kept_turns l.turn (λ k r. run l.inner.value l.numbers (at_turn l.input k) r) (λ k r t. kept l.inner.value l.numbers (at_turn l.input k) r t) l.initial.state (reverse l.initial.log.items);
  len : vec_len l.log ≤ vec_len l.initial.log + l.turn * needs l.inner.value;
  capacity : vec_capacity l.log ≡ vec_capacity l.initial.log;
}
