use Rattle.std.proofs.Common.{◌≡◌, ◌++◌, length, map}
use Rattle.tw_heap.specs.Entries.{message_of}
use Rattle.tw_lists.proofs.lists.EventLists.pending.Given as goal

abbrev pub invariant-loop-entry : goal.invariant-loop-entry
invariant-loop-entry l = record {
  all : l.messages.items ++ map message_of l.rest.entries ≡ l.self.pending;
}

abbrev pub decreases-loop-entry : goal.decreases-loop-entry
decreases-loop-entry l = length l.rest.entries
