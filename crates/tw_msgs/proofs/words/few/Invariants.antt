use Rattle.std.proofs.Common.{◌≡◌, ◌≤◌, length, take}
use Rattle.arrayvec.specs.ArrayVec.{array_vec_len}
use Rattle.tw_msgs.proofs.words.few.Given as goal

abbrev pub invariant-loop-number : goal.invariant-loop-number
invariant-loop-number l = record {
  items : l.few.items ≡ take l.number-index l.numbers;
  count : array_vec_len l.few ≡ l.number-index;
  short : length l.numbers ≤ 3;
}
