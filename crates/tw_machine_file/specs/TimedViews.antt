-- What timers do and send without where it lies in memory.
use Rattle.std.specs.Prelude.{map}
use Rattle.tw_machine_text.specs.Views.{body}
use Rattle.tw_machine_declaration.specs.Seen.{output}
use Rattle.tw_machine_declaration.specs.TimedViews.{timer_output}
use Rattle.tw_machine_file.specs.declared.timed.TimerText as rust_text
use Rattle.tw_machine_file.specs.declared.timed.TimerTexts as rust_texts
use Rattle.tw_machine_file.specs.Timed.{TimerText, TimerTexts}

abbrev pub timer_text : rust_text.TimerText → TimerText
timer_text t = record { program = body t.program; outputs = map output t.outputs.items }

abbrev pub timer_texts : rust_texts.TimerTexts → TimerTexts
timer_texts ts = record { programs = map body ts.programs.items; outputs = map timer_output ts.outputs.items }
