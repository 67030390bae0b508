use Rattle.std.proofs.Common.{◌≡◌, drop, map}
use Rattle.tw_machine_declaration.specs.Seen.{given, name}
use Rattle.tw_machine_declaration.specs.Names.{things}
use Rattle.tw_machine_compiler.specs.Limits.{is_queue, all}
use Rattle.tw_machine_compiler.proofs.limits.are_queues.Given as goal

-- what is to come decides
abbrev pub invariant-loop-named : goal.invariant-loop-named
invariant-loop-named l = all (is_queue (given l.given)) (things (map name (drop l.named-index l.names))) ≡ all (is_queue (given l.given)) (things (map name l.names))
