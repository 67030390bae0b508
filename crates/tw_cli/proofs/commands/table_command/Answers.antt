use Rattle.tw_cli.specs.Lines.{listed_app}
use Rattle.tw_cli.proofs.commands.table_command.Goals as goal

pub returns : goal.returns
returns c = c.manned_command.ensures listed_app c.in_ok-listed.ensures
