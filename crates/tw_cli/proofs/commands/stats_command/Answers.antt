use Rattle.tw_cli.specs.Lines.{summary_app}
use Rattle.tw_cli.proofs.commands.stats_command.Goals as goal

pub returns : goal.returns
returns c = c.manned_command.ensures summary_app c.in_ok-summary.ensures
