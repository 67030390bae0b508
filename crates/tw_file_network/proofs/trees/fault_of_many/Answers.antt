use Rattle.std.proofs.Common.{◌∙◌, sym}
use Rattle.tw_file_network.specs.TreeDraft.{tree_view}
use Rattle.tw_file_network.proofs.ManyAtoms.{a_parameter, only_too_many}
use Rattle.tw_file_network.proofs.trees.fault_of_many.Goals as goal

pub returns-in-Some : goal.returns-in-Some
returns-in-Some c = a_parameter (tree_view c.args.tree.now) c.in-Some.fault (sym c.tree_fault.ensures ∙ c.in-Some.is)

pub returns-in-None : goal.returns-in-None
returns-in-None c = only_too_many (tree_view c.args.tree.now) c.requires (sym c.tree_fault.ensures ∙ c.in-None.is)
