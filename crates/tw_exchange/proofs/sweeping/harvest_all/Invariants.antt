-- The components so far are harvested.
use Rattle.std.proofs.Common.{◌-◌, length}
use Rattle.tw_theory.specs.Exchange.{harvests}
use Rattle.tw_exchange.specs.Queues.{LooksSame}
use Rattle.tw_exchange.specs.Sweeping.{IsUnderWay}
use Rattle.tw_exchange.proofs.sweeping.harvest_all.Given as goal

abbrev pub invariant-loop-component : goal.invariant-loop-component
invariant-loop-component g l = record {
  under : IsUnderWay g.M.Atomic.meaning (harvests 0 (length l.fn.executive.world.processes)) (harvests l.component (length l.fn.executive.world.processes - l.component)) l.fn.executive l.executive;
  looks : LooksSame l.fn.executive.world l.executive.world;
}
