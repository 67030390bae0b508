use Rattle.std.proofs.Common.{◌≡◌, ◌++◌, drop, map}
use Rattle.tw_machine_declaration.specs.Seen.{name, given}
use Rattle.tw_machine_declaration.specs.Names.{things, own_standings, lists_taken}
use Rattle.tw_machine_declaration.proofs.names.own_standings.Given as goal

-- what has come and what is to come
abbrev pub invariant-loop-named : goal.invariant-loop-named
invariant-loop-named l = l.standings.items ++ own_standings (given l.given) l.at (things (map name (drop l.named-index l.names))) ≡ own_standings (given l.given) (lists_taken (given l.given)) (things (map name l.names))
