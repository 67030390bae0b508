use Rattle.std.proofs.Common.{◌≡◌, drop, map}
use Rattle.tw_figures.specs.Shown.{is_among}
use Rattle.tw_figures.proofs.shown.is_among.Given as goal

-- none has come that is the name
abbrev pub invariant-loop-one : goal.invariant-loop-one
invariant-loop-one l = is_among (map (λ n. n.now) (drop l.one-index l.names)) l.name ≡ is_among (map (λ n. n.now) l.names) l.name
