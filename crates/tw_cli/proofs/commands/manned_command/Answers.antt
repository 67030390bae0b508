use Rattle.tw_cli.proofs.Adding.{grown, grows}
use Rattle.tw_cli.proofs.commands.manned_command.Goals as goal

pub returns : goal.returns
returns c app is =
    let workers = grown _ _ _ _ _ c.in_ok-arg.ensures c.team.ensures is in
    let burst = grown _ _ _ _ _ c.in_ok-arg-2.ensures c.team_burst.ensures workers in
    let window = grown _ _ _ _ _ c.in_ok-arg-3.ensures c.team_window.ensures burst in
    grows _ _ _ _ c.arg-4.result c.arg-4.ensures c.team_cancel.ensures window
