-- The bag holds the items so far.
use Rattle.std.proofs.Common.{◌≡◌, take}
use Rattle.tw_step.proofs.outputs.fill_output.Given as goal

abbrev pub invariant-loop-item : goal.invariant-loop-item
invariant-loop-item g l = l.bag ≡ take l.item-index l.item-items
