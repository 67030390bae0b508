use Rattle.std.proofs.Common.{◌≡◌, length}
use Rattle.tw_machine_text.specs.Machine.{reduce}
use Rattle.tw_machine_text.specs.Views.{tree, held}
use Rattle.tw_machine_text.proofs.reading.reduce.Given as goal

abbrev pub decreases-more : goal.decreases-more
decreases-more l = length (held l.stack.frames.items)

-- what is left to be completed is what there was
abbrev pub invariant-more : goal.invariant-more
invariant-more l = reduce l.rank (held l.stack.frames.items) (tree l.operand) ≡ reduce l.fn.rank (held l.fn.stack.frames.items) (tree l.fn.operand)
