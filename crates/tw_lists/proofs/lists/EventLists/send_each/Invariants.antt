use Rattle.std.proofs.Common.{◌≡◌, ◌+◌, ◌*◌, ◌≤◌, take}
use Rattle.tw_theory.specs.Contents.{Aggressive}
use Rattle.tw_lists.specs.Lists.{with_room, with_all_sent}
use Rattle.tw_lists.proofs.lists.EventLists.send_each.Given as goal

abbrev pub invariant-loop-message : goal.invariant-loop-message
invariant-loop-message l = record {
  sent : l.self ≡ with_room l.self.room l.self.spare (with_all_sent Aggressive (take l.message-index l.messages) l.fn.self);
  room : l.fn.self.room ≤ l.self.room + 2 * l.message-index;
}
