use Rattle.tw_cli.proofs.command_line.timed_task.Goals as goal

pub returns-in_default-clause-none : goal.returns-in_default-clause-none
returns-in_default-clause-none c = λ n t is. c.in_default.ensures.none n is.0
