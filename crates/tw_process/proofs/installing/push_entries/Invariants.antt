use Rattle.std.proofs.Common.{◌≡◌, ◌+◌, ◌≤◌, ◌++◌, length}
use Rattle.std.specs.VecDeque.{deque_capacity, deque_len}
use Rattle.tw_process.specs.Installing.{entries_with}
use Rattle.tw_process.proofs.installing.push_entries.Given as goal

abbrev pub invariant-loop-step : goal.invariant-loop-step
invariant-loop-step g l = record {
  all : l.history.items ++ entries_with l.counts.items l.steps.items ≡ l.fn.history.items ++ entries_with l.fn.counts.items l.fn.steps.items;
  room : deque_len l.history + deque_len l.steps ≤ deque_capacity l.history;
}

abbrev pub decreases-loop-step : goal.decreases-loop-step
decreases-loop-step g l = length l.steps.items
