use Rattle.std.proofs.Common.{◌≡◌, map, take}
use Rattle.tw_file_network.specs.Draft.{inputs_view}
use Rattle.tw_file_network.specs.Numbers.{number_of, numbered_input}
use Rattle.tw_file_network.proofs.trees.inputs_named.Given as goal

abbrev pub invariant-loop-draft : goal.invariant-loop-draft
invariant-loop-draft l = l.inputs.items ≡ map (numbered_input (number_of l.network.names)) (inputs_view (take l.draft-index l.drafts))
