use Rattle.std.proofs.Common.{◌≡◌, ◌+◌, ◌≤◌, None, length, take}
use Rattle.std.specs.VecDeque.{deque_capacity, deque_len}
use Rattle.tw_lists.specs.Lists.{with_room}
use Rattle.tw_network.specs.Contents.{network_of}
use Rattle.tw_process.specs.Installing.{AreNext, after_steps, sent_counts}
use Rattle.tw_process.proofs.taking.take_steps.Given as goal

abbrev pub invariant-loop-step : goal.invariant-loop-step
invariant-loop-step g l = record {
  counted : length l.taken.counts.items ≡ l.step-index;
  counts : l.taken.counts.items ≡ sent_counts (network_of g.M.Atomic.meaning l.place.network.now) l.place.component (take l.step-index l.steps);
  lists : l.lists ≡ with_room l.lists.room l.lists.spare (after_steps (network_of g.M.Atomic.meaning l.place.network.now) l.place.component l.place.cancel (take l.step-index l.steps) l.fn.lists);
  next : AreNext (network_of g.M.Atomic.meaning l.place.network.now) l.place.component l.place.cancel (take l.step-index l.steps) l.fn.lists;
  history : l.history.items ≡ l.fn.history.items;
  room : deque_len l.history + l.step-index ≤ deque_capacity l.history;
  going : l.taken.stop ≡ None;
}
