use Rattle.tw_cli.proofs.Adding.{grown, grows}
use Rattle.tw_cli.proofs.commands.set_command.Goals as goal

pub returns : goal.returns
returns c =
    let workers = grown _ _ _ _ _ c.in_ok-arg.ensures c.workers.ensures c.in_ok-network_command.ensures in
    let burst = grown _ _ _ _ _ c.in_ok-arg-2.ensures c.burst.ensures workers in
    let window = grown _ _ _ _ _ c.in_ok-arg-3.ensures c.window.ensures burst in
    grows _ _ _ _ c.arg-4.result c.arg-4.ensures c.progress.ensures window
