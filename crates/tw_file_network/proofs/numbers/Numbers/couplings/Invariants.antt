use Rattle.std.proofs.Common.{◌≡◌, map, take}
use Rattle.tw_file_network.specs.Draft.{couplings_view}
use Rattle.tw_file_network.specs.Numbering.{numbering}
use Rattle.tw_file_network.specs.Numbers.{numbered_coupling}
use Rattle.tw_file_network.proofs.numbers.Numbers.couplings.Given as goal

abbrev pub invariant-loop-draft : goal.invariant-loop-draft
invariant-loop-draft l = l.couplings.items ≡ map (numbered_coupling (numbering l.self)) (couplings_view (take l.draft-index l.drafts))
