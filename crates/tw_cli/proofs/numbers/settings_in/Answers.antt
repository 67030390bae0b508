use Rattle.tw_cli.proofs.numbers.settings_in.Goals as goal

pub returns-in_default-clause-none : goal.returns-in_default-clause-none
returns-in_default-clause-none c = λ s is. c.in_default.ensures.none s.replication is.1
