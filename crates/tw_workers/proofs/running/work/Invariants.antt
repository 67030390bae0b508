use Rattle.std.specs.Arc.{arc_value}
use Rattle.tw_exchange.specs.Ends.{IsDue}
use Rattle.tw_workers.proofs.running.work.Given as goal

abbrev pub invariant-loop : goal.invariant-loop
invariant-loop g l =
    (goal.iterator-loop g).can_next l.iterator' × (goal.iterator-loop g).is_finite l.iterator'
    × IsDue g.M.Atomic.valid g.M.Atomic.meaning (arc_value l.shared.network) l.shared.until l.order
