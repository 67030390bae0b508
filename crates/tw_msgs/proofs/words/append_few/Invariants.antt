use Rattle.std.proofs.Common.{◌≡◌, ◌++◌, take}
use Rattle.tw_msgs.proofs.words.append_few.Given as goal

abbrev pub invariant-loop-number : goal.invariant-loop-number
invariant-loop-number l = record {
  items : l.numbers.items ≡ l.initial.numbers.items ++ take l.number-index l.few;
}
