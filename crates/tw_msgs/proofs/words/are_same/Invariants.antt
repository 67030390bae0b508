use Rattle.std.proofs.Common.{◌≡◌, length, take}
use Rattle.tw_msgs.proofs.words.are_same.Given as goal

abbrev pub invariant-loop-index : goal.invariant-loop-index
invariant-loop-index l = record {
  lengths : length l.few ≡ length l.many;
  same : take l.index l.few ≡ take l.index l.many;
}
