use Rattle.std.proofs.Common.{◌≡◌, drop, map}
use Rattle.tw_machine_declaration.specs.Seen.{name}
use Rattle.tw_machine_declaration.specs.Names.{things}
use Rattle.tw_machine_compiler.specs.Limits.{is_register, all}
use Rattle.tw_machine_compiler.proofs.limits.are_registers.Given as goal

-- what is to come decides
abbrev pub invariant-loop-named : goal.invariant-loop-named
invariant-loop-named l = all is_register (things (map name (drop l.named-index l.names))) ≡ all is_register (things (map name l.names))
