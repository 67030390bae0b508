use Rattle.tw_machine_text.proofs.timers.+idle_from.Given as goal

abbrev pub decreases-idle_from : goal.decreases-idle_from
decreases-idle_from l = l.left
