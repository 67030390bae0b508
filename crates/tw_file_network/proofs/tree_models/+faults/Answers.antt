use Rattle.std.proofs.Common.{◌∙◌, ◌+◌, ap, drop, sym}
use Rattle.std.specs.Option.{option_or}
use Rattle.std.specs.Result.{result_err}
use Rattle.tw_nested.specs.Tree.{parts_of}
use Rattle.tw_file_network.specs.TreeShape.{tree_made}
use Rattle.tw_file_network.proofs.ManyAtoms.{fault_here}
use Rattle.tw_file_network.proofs.tree_models.+faults.Goals as goal

pub tree_fault-returns-in-Some : goal.tree_fault-returns-in-Some
tree_fault-returns-in-Some t c =
    sym (c.loop-part.invariant
    ∙ fault_here c.args.draft.now.parts.items c.deref-part-items.result.now c.loop-part.part-index c.loop-part-item.result c.deref-part-items.ensures.value c.loop-part-test.true c.loop-part-item.is
    c.part_fault.result c.part_fault.ensures
    ∙ ap (λ o. option_or o (result_err (tree_made (parts_of (drop (c.loop-part.part-index + 1) c.args.draft.now.parts.items))))) c.in-Some.is)

pub tree_fault-loop-part-preserved : goal.tree_fault-loop-part-preserved
tree_fault-loop-part-preserved t c =
    c.loop-part.invariant
    ∙ fault_here c.args.draft.now.parts.items c.deref-part-items.result.now c.loop-part.part-index c.loop-part-item.result c.deref-part-items.ensures.value c.loop-part-test.true c.loop-part-item.is
    c.part_fault.result c.part_fault.ensures
    ∙ ap (λ o. option_or o (result_err (tree_made (parts_of (drop (c.loop-part.part-index + 1) c.args.draft.now.parts.items))))) c.in_default.is
