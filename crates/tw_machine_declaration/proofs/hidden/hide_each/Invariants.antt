use Rattle.std.proofs.Common.{◌≡◌, ◌++◌, drop, map}
use Rattle.tw_machine_declaration.specs.Seen.{name}
use Rattle.tw_machine_declaration.specs.Timed.{each_hidden}
use Rattle.tw_machine_declaration.proofs.hidden.hide_each.Given as goal

-- what has come and what is to come
abbrev pub invariant-loop-place : goal.invariant-loop-place
invariant-loop-place l = map name l.names.items ++ each_hidden l.timers l.place (drop l.place l.timers) ≡ map name l.initial.names.items ++ each_hidden l.timers 0 l.timers
