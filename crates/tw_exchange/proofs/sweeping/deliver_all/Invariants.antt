-- What was delivered so far.
use Rattle.std.proofs.Common.{◌≡◌}
use Rattle.tw_exec.specs.Running.{IsSoundly}
use Rattle.tw_theory.specs.Exchange.{deliveries}
use Rattle.tw_exchange.proofs.Marking.{standing}
use Rattle.tw_exchange.specs.Exchanged.{busy_in}
use Rattle.tw_exchange.specs.Queues.{IsKept}
use Rattle.tw_exchange.specs.Sweeping.{IsUnderWay}
use Rattle.tw_exchange.proofs.sweeping.deliver_all.Given as goal

abbrev pub invariant-loop-receiver : goal.invariant-loop-receiver
invariant-loop-receiver g l = record {
  sound : IsSoundly g.M.Atomic.meaning l.executive;
  kept : IsKept l.queues l.executive.world;
  under : IsUnderWay g.M.Atomic.meaning (deliveries 0 l.fn.executive.world.mail) (deliveries 0 l.executive.world.mail) l.fn.executive l.executive;
  busy : busy_in l.queues.free ≡ busy_in l.fn.queues.free;
}

abbrev pub decreases-loop-receiver : goal.decreases-loop-receiver
decreases-loop-receiver g l = standing l.queues.delivering
