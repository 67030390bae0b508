-- The components so far are posted.
use Rattle.std.proofs.Common.{◌≡◌}
use Rattle.tw_exec.specs.Running.{IsSoundly}
use Rattle.tw_exchange.proofs.Marking.{standing}
use Rattle.tw_exchange.proofs.Skipping.{ArePosted}
use Rattle.tw_exchange.specs.Exchanged.{busy_in}
use Rattle.tw_exchange.specs.Queues.{IsKept}
use Rattle.tw_exchange.proofs.sweeping.post_all.Given as goal

abbrev pub invariant-loop-sender : goal.invariant-loop-sender
invariant-loop-sender g l = record {
  sound : IsSoundly g.M.Atomic.meaning l.executive;
  kept : IsKept l.queues l.executive.world;
  posted : ArePosted g.M.Atomic.meaning l.fn.executive l.executive;
  busy : busy_in l.queues.free ≡ busy_in l.fn.queues.free;
}

abbrev pub decreases-loop-sender : goal.decreases-loop-sender
decreases-loop-sender g l = standing l.queues.posting
