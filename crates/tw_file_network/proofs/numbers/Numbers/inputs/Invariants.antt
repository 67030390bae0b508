use Rattle.std.proofs.Common.{◌≡◌, map, take}
use Rattle.tw_file_network.specs.Draft.{inputs_view}
use Rattle.tw_file_network.specs.Numbering.{numbering}
use Rattle.tw_file_network.specs.Numbers.{numbered_input}
use Rattle.tw_file_network.proofs.numbers.Numbers.inputs.Given as goal

abbrev pub invariant-loop-draft : goal.invariant-loop-draft
invariant-loop-draft l = l.inputs.items ≡ map (numbered_input (numbering l.self)) (inputs_view (take l.draft-index l.drafts))
