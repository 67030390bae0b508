use Rattle.std.proofs.Common.{◌≡◌, drop}
use Rattle.tw_nested.specs.Tree.{parts_of}
use Rattle.tw_network.specs.TreeFaults.{inner_fault}
use Rattle.tw_network.proofs.tree_checks.+models.Given as goal

abbrev pub invariant-check_inner-loop-part : goal.invariant-check_inner-loop-part
invariant-check_inner-loop-part g l = inner_fault g.M.Atomic.meaning (parts_of l.nested.parts.items) ≡ inner_fault g.M.Atomic.meaning (parts_of (drop l.part-index l.nested.parts.items))
