use Rattle.std.proofs.Common.{◌≡◌, drop, map}
use Rattle.std.specs.List.{list_all}
use Rattle.tw_figures.specs.Shown.{is_among}
use Rattle.tw_figures.proofs.shown.are_among.Given as goal

-- all that have come are names
abbrev pub invariant-loop-name : goal.invariant-loop-name
invariant-loop-name l =
    list_all (is_among (map (λ n. n.now) l.names)) (map (λ n. n.now) (drop l.name-index l.wanted))
    ≡ list_all (is_among (map (λ n. n.now) l.names)) (map (λ n. n.now) l.wanted)
