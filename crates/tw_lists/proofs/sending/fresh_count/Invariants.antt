use Rattle.std.proofs.Common.{◌≡◌, ◌≤◌, take, map, length}
use Rattle.tw_pool.specs.Lists.{list_at}
use Rattle.tw_theory.specs.Bundles.{sent_anew}
use Rattle.tw_lists.specs.Lists.{message_at}
use Rattle.tw_lists.proofs.sending.fresh_count.Given as goal

abbrev pub invariant-loop-number : goal.invariant-loop-number
invariant-loop-number l = record {
  count_is : l.count ≡ length (sent_anew (map message_at (list_at l.pool.lists 5)) (take l.number l.messages));
  within : l.count ≤ l.number;
}
