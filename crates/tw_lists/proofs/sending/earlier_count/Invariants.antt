use Rattle.std.proofs.Common.{◌≡◌, ◌≤◌, take}
use Rattle.tw_msgs.specs.Counting.{total, one_at}
use Rattle.tw_lists.proofs.sending.earlier_count.Given as goal

abbrev pub invariant-loop-earlier : goal.invariant-loop-earlier
invariant-loop-earlier l = record {
  count_is : l.count ≡ total (one_at l.message) (take l.earlier-index (take l.number l.messages));
  within : l.count ≤ l.earlier-index;
}
