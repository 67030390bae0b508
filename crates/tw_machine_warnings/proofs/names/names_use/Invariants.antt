use Rattle.std.proofs.Common.{◌≡◌, drop, map}
use Rattle.std.specs.List.{list_any}
use Rattle.tw_machine_declaration.specs.Seen.{name}
use Rattle.tw_machine_warnings.specs.Names.{thing_uses}
use Rattle.tw_machine_warnings.proofs.names.names_use.Given as goal

abbrev pub invariant-loop-named : goal.invariant-loop-named
invariant-loop-named l = list_any (λ n. thing_uses l.place n.1) (map name (drop l.named-index l.names)) ≡ list_any (λ n. thing_uses l.place n.1) (map name l.names)
