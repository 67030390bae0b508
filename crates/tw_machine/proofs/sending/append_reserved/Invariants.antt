use Rattle.std.proofs.Common.{◌≡◌, ◌+◌, ◌++◌, take, vec_len, vec_capacity}
use Rattle.tw_machine.proofs.sending.append_reserved.Given as goal

abbrev pub invariant-loop-value : goal.invariant-loop-value
invariant-loop-value l = record {
  items : l.words.items ≡ l.fn.words.items ++ take l.value-index l.values;
  len : vec_len l.words ≡ vec_len l.fn.words + l.value-index;
  capacity : vec_capacity l.words ≡ vec_capacity l.fn.words;
}
