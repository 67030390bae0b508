use Rattle.std.proofs.Common.{◌≡◌, ◌++◌, drop, map}
use Rattle.tw_machine_declaration.specs.Seen.{name}
use Rattle.tw_machine_declaration.specs.Names.{texts, place_named, standing_at}
use Rattle.tw_machine_declaration.proofs.names.named_standings.Given as goal

-- what has come and what is to come
abbrev pub invariant-loop-function : goal.invariant-loop-function
invariant-loop-function l =
    let standings = map (λ f. standing_at l.own (place_named 0 (texts (map name l.names)) f.now)) in
    l.standings.items ++ standings (drop l.function-index l.functions) ≡ standings l.functions
