use Rattle.std.proofs.Common.{◌≡◌, drop, map}
use Rattle.tw_machine_declaration.specs.Seen.{name}
use Rattle.tw_machine_file.specs.Declares.{texts}
use Rattle.tw_machine_file.specs.Names.{is_among}
use Rattle.tw_machine_file.proofs.declarations.is_declared.Given as goal

abbrev pub invariant-loop-named : goal.invariant-loop-named
invariant-loop-named l = is_among (texts (map name (drop l.named-index l.names))) l.text ≡ is_among (texts (map name l.names)) l.text
