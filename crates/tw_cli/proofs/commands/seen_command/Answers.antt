use Rattle.tw_cli.proofs.Adding.{grown, grows}
use Rattle.tw_cli.proofs.commands.seen_command.Goals as goal

pub returns : goal.returns
returns c =
    let width = grown _ _ _ _ _ c.in_ok-arg.ensures c.width.ensures c.in_ok-shown_command.ensures in
    let marks = grown _ _ _ _ _ c.in_ok-arg-2.ensures c.marks.ensures width in
    grows _ _ _ _ c.arg-3.result c.arg-3.ensures c.courses.ensures marks
