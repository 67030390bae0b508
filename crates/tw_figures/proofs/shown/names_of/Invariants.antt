use Rattle.std.proofs.Common.{◌≡◌, map, take}
use Rattle.tw_figures.proofs.shown.names_of.Given as goal

abbrev pub invariant-loop-component : goal.invariant-loop-component
invariant-loop-component g l = map (λ n. n.now) l.names.items ≡ take l.component l.network.names
