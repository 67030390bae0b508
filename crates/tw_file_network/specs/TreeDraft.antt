-- The draft of a file of format tw-2 as what the file says.
use Rattle.tw_nested.specs.Tree.{parts_of}
use Rattle.tw_file_network.specs.Draft.{inputs_view}
use Rattle.tw_file_network.specs.TreeShape.{TreeFile}
use Rattle.tw_file_network.specs.declared.draft.TreeDraft.{TreeDraft}

abbrev pub tree_view : TreeDraft → TreeFile
tree_view d = record {
  micro_limit = d.micro_limit;
  parts = parts_of d.root.parts.items;
  links = d.root.couplings.items;
  inputs = inputs_view d.inputs.items;
}
