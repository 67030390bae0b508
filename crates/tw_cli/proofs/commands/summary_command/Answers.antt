use Rattle.tw_cli.proofs.Adding.{grown, grows}
use Rattle.tw_cli.proofs.commands.summary_command.Goals as goal

pub returns : goal.returns
returns c =
    let from = grown _ _ _ _ _ c.in_ok-arg.ensures c.from.ensures c.in_ok-told_command.ensures in
    let only = grown _ _ _ _ _ c.in_ok-arg-2.ensures c.only.ensures from in
    grows _ _ _ _ c.arg-3.result c.arg-3.ensures c.json.ensures only
