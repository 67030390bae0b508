use Rattle.std.proofs.Common.{◌≡◌, map, take}
use Rattle.tw_file_network.specs.Draft.{components_view}
use Rattle.tw_file_network.specs.Numbers.{names_of}
use Rattle.tw_file_network.proofs.numbers.names_of.Given as goal

abbrev pub invariant-loop-component : goal.invariant-loop-component
invariant-loop-component l = map (λ n. n.now) l.names.items ≡ names_of (components_view (take l.component-index l.components))
