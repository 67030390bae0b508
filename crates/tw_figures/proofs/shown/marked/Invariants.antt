use Rattle.std.proofs.Common.{◌≡◌, ◌++◌, drop, map}
use Rattle.tw_figures.specs.Shown.{is_among}
use Rattle.tw_figures.proofs.shown.marked.Given as goal

-- what has come and what is to come
abbrev pub invariant-loop-name : goal.invariant-loop-name
invariant-loop-name l =
    l.shown.items ++ map (is_among (map (λ n. n.now) l.wanted)) (map (λ n. n.now) (drop l.name-index l.names))
    ≡ map (is_among (map (λ n. n.now) l.wanted)) (map (λ n. n.now) l.names)
