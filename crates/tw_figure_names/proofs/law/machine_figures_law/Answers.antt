use Rattle.tw_figure_names.proofs.Programs.{machine_law, observations_law}
use Rattle.tw_figure_names.proofs.Standings.{shown_law}
use Rattle.tw_figure_names.proofs.Telling.{entries_law, observed_law}
use Rattle.tw_figure_names.proofs.law.machine_figures_law.Goals as goal

pub returns-clause-shown : goal.returns-clause-shown
returns-clause-shown c = shown_law

pub returns-clause-entries : goal.returns-clause-entries
returns-clause-entries c = entries_law

pub returns-clause-machine : goal.returns-clause-machine
returns-clause-machine c = machine_law

pub returns-clause-observed : goal.returns-clause-observed
returns-clause-observed c = observed_law

pub returns-clause-observations : goal.returns-clause-observations
returns-clause-observations c = observations_law
