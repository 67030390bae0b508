use Rattle.std.specs.Vec.Iter.{into_iter_items}
use Rattle.tw_network.proofs.Taking.{AreTaken}
use Rattle.tw_network.proofs.checks.take_components.Given as goal

abbrev pub invariant-loop-component : goal.invariant-loop-component
invariant-loop-component g l =
    (goal.iterator-loop-component g).can_next l.component-iterator
    × (goal.iterator-loop-component g).is_finite l.component-iterator
    × AreTaken g.M.Atomic.meaning l.fn.components.items l.yielded (into_iter_items l.component-iterator) l.names.keys l.models.items
