use Rattle.std.proofs.Common.{◌≡◌, ◌++◌, drop}
use Rattle.std.specs.Prelude.{flat_map}
use Rattle.tw_machine_declaration.specs.Seen.{given}
use Rattle.tw_machine_declaration.specs.Names.{timer_ticks}
use Rattle.tw_machine_declaration.proofs.starts.ticks_of.Given as goal

-- what has come and what is to come
abbrev pub invariant-loop-timer : goal.invariant-loop-timer
invariant-loop-timer l = l.ticks.items ++ flat_map (timer_ticks (given l.given) l.least) (drop l.timer-index l.timers) ≡ flat_map (timer_ticks (given l.given) l.least) l.timers
