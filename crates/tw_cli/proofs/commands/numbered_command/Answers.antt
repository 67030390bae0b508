use Rattle.tw_cli.proofs.Adding.{grown, grows}
use Rattle.tw_cli.proofs.commands.numbered_command.Goals as goal

pub returns : goal.returns
returns c app is =
    let set = grown _ _ _ _ _ c.in_ok-arg.ensures c.set.ensures is in
    grows _ _ _ _ c.arg-2.result c.arg-2.ensures c.seed_all.ensures set
