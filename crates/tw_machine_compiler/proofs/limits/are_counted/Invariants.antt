use Rattle.std.proofs.Common.{◌≡◌, drop}
use Rattle.std.specs.List.{list_all}
use Rattle.tw_machine_declaration.specs.Seen.{given}
use Rattle.tw_machine_compiler.specs.Limits.{is_counted}
use Rattle.tw_machine_compiler.proofs.limits.are_counted.Given as goal

-- what is to come decides
abbrev pub invariant-loop-timer : goal.invariant-loop-timer
invariant-loop-timer l = list_all (is_counted (given l.given)) (drop l.timer-index l.timers) ≡ list_all (is_counted (given l.given)) l.timers
