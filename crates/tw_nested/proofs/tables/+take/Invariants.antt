use Rattle.std.proofs.Common.{◌≡◌, ◌+◌, ◌-◌, ◌++◌}
use Rattle.std.specs.Vec.Iter.{into_iter_items}
use Rattle.tw_nested.specs.Tree.{parts_of}
use Rattle.tw_nested.proofs.Taking.{StillTo}
use Rattle.tw_nested.proofs.tables.+take.Given as goal

-- each part is counted before what is in it, and fewer than 4,096 are
abbrev pub decreases-take : goal.decreases-take
decreases-take g l = 4096 - l.tables.now.count + (4096 - l.tables.now.count) + 1

abbrev pub decreases-take_part : goal.decreases-take_part
decreases-take_part g l = 4096 - l.tables.now.count + (4096 - l.tables.now.count)

abbrev pub invariant-take-loop-name : goal.invariant-take-loop-name
invariant-take-loop-name g l =
    (goal.iterator-take-loop-name g).can_next l.name-iterator ×
    (goal.iterator-take-loop-name g).is_finite l.name-iterator ×
    (l.fn.nested.parts.items ≡ l.yielded ++ into_iter_items l.name-iterator) ×
    StillTo (parts_of l.fn.nested.parts.items) l.fn.prefix l.initial.tables l.tables l.parts.items (parts_of (into_iter_items l.name-iterator))
