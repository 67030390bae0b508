-- The names and the outputs of timers without where they lie in memory.
use Rattle.tw_machine_declaration.specs.declared.declaration.TimerOutput as rust_output
use Rattle.tw_machine_declaration.specs.declared.timer_names.TimerNames as rust_names
use Rattle.tw_machine_declaration.specs.Seen.{output}
use Rattle.tw_machine_declaration.specs.Timed.{Names, TimerOutput}

-- the numbers of the hidden names
abbrev pub named : rust_names.TimerNames → Names
named n = record { first = n.first; timers = n.timers }

abbrev pub timer_output : rust_output.TimerOutput → TimerOutput
timer_output o = record { timer = o.timer; counted = o.counted; output = output o.output }
