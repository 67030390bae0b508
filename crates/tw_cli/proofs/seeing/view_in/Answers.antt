use Rattle.tw_cli.proofs.seeing.view_in.Goals as goal

pub returns-in_default-clause-none : goal.returns-in_default-clause-none
returns-in_default-clause-none c = λ v is. c.in_default.ensures.none v.from is.0

pub returns-in_default-width_in-clause-none : goal.returns-in_default-width_in-clause-none
returns-in_default-width_in-clause-none c = λ v is. c.in_default-width_in.ensures.none v.width is.3
