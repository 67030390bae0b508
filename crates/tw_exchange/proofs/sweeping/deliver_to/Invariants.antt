-- What was delivered so far.
use Rattle.std.proofs.Common.{◌≡◌}
use Rattle.tw_exec.specs.Running.{IsSoundly}
use Rattle.tw_theory.specs.Exchange.{work}
use Rattle.tw_exchange.specs.Queues.{IsElsewhereSame}
use Rattle.tw_exchange.specs.Sweeping.{IsUnderWay, deliveries_from}
use Rattle.tw_exchange.proofs.sweeping.deliver_to.Given as goal

abbrev pub invariant-loop-executive : goal.invariant-loop-executive
invariant-loop-executive g l = record {
  sound : IsSoundly g.M.Atomic.meaning l.executive;
  network : l.executive.network ≡ l.fn.executive.network;
  elsewhere : IsElsewhereSame l.receiver l.fn.executive.world l.executive.world;
  under : IsUnderWay g.M.Atomic.meaning (deliveries_from l.receiver l.fn.executive) (deliveries_from l.receiver l.executive) l.fn.executive l.executive;
}

abbrev pub decreases-loop-executive : goal.decreases-loop-executive
decreases-loop-executive g l = work l.executive.world
