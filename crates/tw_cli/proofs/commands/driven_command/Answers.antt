use Rattle.tw_cli.proofs.Adding.{grown, grows}
use Rattle.tw_cli.proofs.commands.driven_command.Goals as goal

pub returns : goal.returns
returns c app is =
    let script = grown _ _ _ _ _ c.in_ok-arg.ensures c.script.ensures is in
    let seed = grown _ _ _ _ _ c.in_ok-arg-2.ensures c.seed.ensures script in
    grows _ _ _ _ c.arg-3.result c.arg-3.ensures c.steps.ensures seed
