-- The receivers so far are marked.
use Rattle.std.proofs.Common.{◌≡◌, drop, length}
use Rattle.tw_exchange.specs.Queues.{marked}
use Rattle.tw_exchange.proofs.queues.Queues.note_posted.Given as goal

abbrev pub invariant-loop-item : goal.invariant-loop-item
invariant-loop-item l = record {
  count : length l.self.delivering ≡ length l.fn.self.delivering;
  rest : marked l.self.delivering (drop l.item-index l.items) ≡ marked l.fn.self.delivering l.items;
  free : l.self.free ≡ l.fn.self.free;
  posting : l.self.posting ≡ l.fn.self.posting;
  standing : l.self.standing ≡ l.fn.self.standing;
}
