use Rattle.tw_cli.proofs.Adding.{grown, grows}
use Rattle.tw_cli.proofs.commands.listed_command.Goals as goal

pub returns : goal.returns
returns c =
    let items = grown _ _ _ _ _ c.in_ok-arg.ensures c.items.ensures c.in_ok-part_command.ensures in
    let words = grown _ _ _ _ _ c.in_ok-arg-2.ensures c.words.ensures items in
    grows _ _ _ _ c.arg-3.result c.arg-3.ensures c.figures.ensures words
