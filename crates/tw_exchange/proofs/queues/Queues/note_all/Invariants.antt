-- Those of the components so far are looked at.
use Rattle.std.proofs.Common.{◌≡◌}
use Rattle.tw_exchange.specs.Queues.{AreMarkedUpTo}
use Rattle.tw_exchange.proofs.queues.Queues.note_all.Given as goal

abbrev pub invariant-loop-component : goal.invariant-loop-component
invariant-loop-component g l = record {
  marks : AreMarkedUpTo l.component l.self l.executive.world;
  free : l.self.free ≡ l.fn.self.free;
}
