use Rattle.std.proofs.Common.{◌≡◌, ◌++◌, codes, drop, flat_map, map, string_bytes}
use Rattle.tw_figure_names.proofs.texts.joined.Given as goal

-- what has come and what is to come
abbrev pub invariant-loop-text : goal.invariant-loop-text
invariant-loop-text l =
    string_bytes l.joined ++ flat_map (λ t. codes " + " ++ t) (map string_bytes (drop l.text-index l.rest))
    ≡ string_bytes l.initial.joined ++ flat_map (λ t. codes " + " ++ t) (map string_bytes l.rest)
