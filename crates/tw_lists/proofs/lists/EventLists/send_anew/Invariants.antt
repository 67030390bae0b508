use Rattle.std.proofs.Common.{◌≡◌, ◌*◌, ◌≤◌, length, take, drop}
use Rattle.tw_theory.specs.Bundles.{sent_anew, still_owed}
use Rattle.tw_theory.specs.Contents.{Lazy}
use Rattle.tw_lists.specs.Lists.{with_room, with_all_sent}
use Rattle.tw_lists.proofs.lists.EventLists.send_anew.Given as goal

abbrev pub invariant-loop-message : goal.invariant-loop-message
invariant-loop-message l = record {
  sent : l.self ≡ with_room l.self.room l.self.spare (with_all_sent Lazy (take l.message-index l.messages) l.fn.self);
  room : 2 * length (sent_anew (still_owed l.fn.self.owed (take l.message-index l.messages)) (drop l.message-index l.messages)) ≤ l.self.room;
}
