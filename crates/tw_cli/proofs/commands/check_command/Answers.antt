use Rattle.tw_cli.proofs.Adding.{grows}
use Rattle.tw_cli.proofs.commands.check_command.Goals as goal

pub returns : goal.returns
returns c = grows _ _ _ _ c.arg.result c.arg.ensures c.strict.ensures c.in_ok-file_command.ensures
