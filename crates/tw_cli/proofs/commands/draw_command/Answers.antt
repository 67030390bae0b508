use Rattle.tw_cli.specs.Lines.{seen_app}
use Rattle.tw_cli.proofs.commands.draw_command.Goals as goal

pub returns : goal.returns
returns c = c.cancelled_command.ensures seen_app c.in_ok-seen.ensures
