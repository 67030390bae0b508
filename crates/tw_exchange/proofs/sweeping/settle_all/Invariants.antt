-- The passes so far: as many may follow as there was work at first.
use Rattle.std.proofs.Common.{◌≡◌, ◌≤◌}
use Rattle.tw_exec.specs.Running.{IsSoundly}
use Rattle.tw_theory.specs.Exchange.{work}
use Rattle.tw_exchange.specs.Exchanged.{busy_in}
use Rattle.tw_exchange.specs.Queues.{IsKept}
use Rattle.tw_exchange.specs.Sweeping.{IsUnderWay, passes_left, passes_of}
use Rattle.tw_exchange.proofs.sweeping.settle_all.Given as goal

abbrev pub invariant-loop-executive : goal.invariant-loop-executive
invariant-loop-executive g l = record {
  sound : IsSoundly g.M.Atomic.meaning l.executive;
  work_le : work l.executive.world ≤ work l.fn.executive.world;
  under : IsUnderWay g.M.Atomic.meaning (passes_of g.M.Atomic.meaning l.fn.executive) (passes_left g.M.Atomic.meaning (work l.fn.executive.world) l.executive) l.fn.executive l.executive;
  kept : IsKept l.queues l.executive.world;
  busy : busy_in l.queues.free ≡ busy_in l.fn.queues.free;
}

abbrev pub decreases-loop-executive : goal.decreases-loop-executive
decreases-loop-executive g l = work l.executive.world
