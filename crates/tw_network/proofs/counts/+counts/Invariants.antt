use Rattle.std.proofs.Common.{◌+◌, length, drop}
use Rattle.tw_nested.specs.Tree.{parts_of}
use Rattle.tw_network.proofs.TreeCounting.{StillCounts}
use Rattle.tw_network.proofs.counts.+counts.Given as goal

abbrev pub invariant-with_model-loop-part : goal.invariant-with_model-loop-part
invariant-with_model-loop-part g l = StillCounts l.room l.fn.before l.counts (parts_of l.nested.parts.items) (length l.nested.couplings.items) (parts_of (drop l.part-index l.nested.parts.items))

-- a part is one level below the model that it stands in
abbrev pub decreases-with_model : goal.decreases-with_model
decreases-with_model g l = l.room + l.room + 1

abbrev pub decreases-with_part : goal.decreases-with_part
decreases-with_part g l = l.room + l.room
