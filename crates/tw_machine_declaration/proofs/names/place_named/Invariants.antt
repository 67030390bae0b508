use Rattle.std.proofs.Common.{◌≡◌, drop, map}
use Rattle.tw_machine_declaration.specs.Seen.{name}
use Rattle.tw_machine_declaration.specs.Names.{texts, place_named}
use Rattle.tw_machine_declaration.proofs.names.place_named.Given as goal

abbrev pub invariant-loop-index : goal.invariant-loop-index
invariant-loop-index l = place_named l.index (texts (map name (drop l.index l.names))) l.text ≡ place_named 0 (texts (map name l.names)) l.text
