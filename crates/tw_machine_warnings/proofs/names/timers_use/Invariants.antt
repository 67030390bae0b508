use Rattle.std.proofs.Common.{◌≡◌, drop}
use Rattle.std.specs.List.{list_any}
use Rattle.tw_machine_warnings.specs.Names.{timer_uses}
use Rattle.tw_machine_warnings.proofs.names.timers_use.Given as goal

abbrev pub invariant-loop-timer : goal.invariant-loop-timer
invariant-loop-timer l = list_any (timer_uses l.place) (drop l.timer-index l.timers) ≡ list_any (timer_uses l.place) l.timers
