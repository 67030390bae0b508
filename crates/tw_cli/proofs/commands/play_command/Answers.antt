use Rattle.std.proofs.Common.{codes}
use Rattle.tw_cli.specs.Lines.{network_app}
use Rattle.tw_cli.proofs.commands.play_command.Goals as goal

pub returns : goal.returns
returns c = c.cancelled_command.ensures (network_app (codes "play")) c.in_ok-bare.ensures
