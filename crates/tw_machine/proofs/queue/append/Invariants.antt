use Rattle.std.proofs.Common.{◌≡◌, ◌+◌, ◌++◌, take, vec_len, vec_capacity}
use Rattle.tw_machine.proofs.queue.append.Given as goal

abbrev pub invariant-loop-value : goal.invariant-loop-value
invariant-loop-value l = record {
  items : l.copy.items ≡ l.fn.copy.items ++ take l.value-index l.values;
  len : vec_len l.copy ≡ vec_len l.fn.copy + l.value-index;
  capacity : vec_capacity l.copy ≡ vec_capacity l.fn.copy;
}
