use Rattle.std.proofs.Common.{◌≡◌, ◌≤◌, ◌+◌, ◌++◌, drop, length, vec_len, vec_capacity}
use Rattle.std.specs.Prelude.{reverse}
use Rattle.tw_machine.proofs.logging.note_values.Given as goal

-- those behind are logged
abbrev pub invariant-loop-more : goal.invariant-loop-more
invariant-loop-more l = record {
  within : l.more ≤ length l.values;
  log : reverse l.log.items ≡ drop l.more l.values ++ reverse l.fn.log.items;
  len : vec_len l.log + l.more ≡ vec_len l.fn.log + length l.values;
  capacity : vec_capacity l.log ≡ vec_capacity l.fn.log;
}

abbrev pub decreases-loop-more : goal.decreases-loop-more
decreases-loop-more l = l.more
