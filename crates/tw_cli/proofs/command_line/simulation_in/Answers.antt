use Rattle.tw_cli.proofs.Missing.{none_of}
use Rattle.tw_cli.proofs.command_line.simulation_in.Goals as goal

pub returns-in_default-clause-err : goal.returns-in_default-clause-err
returns-in_default-clause-err c = λ net n task is. none_of _ c.in_ok-until.ensures.none c.in_default.is n task is.1
