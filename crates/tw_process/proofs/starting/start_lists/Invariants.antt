use Rattle.std.proofs.Common.{◌≡◌, drop, map, []}
use Rattle.std.specs.List.{AllByRecursion as Each}
use Rattle.tw_msgs.specs.Messages.{sorted_messages}
use Rattle.tw_network.specs.Contents.{message_of}
use Rattle.tw_theory.specs.Bundles.{addressed}
use Rattle.tw_theory.specs.Standing.{CanTake}
use Rattle.tw_process.proofs.Starts.{folded}
use Rattle.tw_process.proofs.starting.start_lists.Given as goal

abbrev pub invariant-loop-input : goal.invariant-loop-input
invariant-loop-input g l = record {
  pending : folded l.lists.pending (addressed l.component (map message_of (drop l.input-index l.input-items))) ≡ sorted_messages (addressed l.component (map message_of l.input-items));
  fit : Each (CanTake l.component) l.lists.pending;
  consumed : l.lists.consumed ≡ [];
  sent : l.lists.sent ≡ [];
  outgoing : l.lists.outgoing ≡ [];
  waiting : l.lists.waiting ≡ [];
  owed : l.lists.owed ≡ [];
}
