use Rattle.std.specs.Prelude.{IfOk}
use Rattle.std.proofs.lemmas.Result.{IfOk-weaker}
use Rattle.tw_cli.specs.Lines.{IsCommand, twarp_app}
use Rattle.tw_cli.proofs.Adding.{joins, with_made}
use Rattle.tw_cli.proofs.commands.command.Goals as goal

pub returns : goal.returns
returns c =
    let second = with_made _ _ _ _ _ c.in_ok-second.ensures c.draw_command.ensures c.in_ok-first.ensures in
    let third = with_made _ _ _ _ _ c.in_ok-third.ensures c.run_command.ensures second in
    let all : IfOk c.with_made-3.result (IsCommand twarp_app) = joins _ _ _ _ c.with_made-3.result c.with_made-3.ensures c.play_command.ensures third in
    IfOk-weaker c.with_made-3.result _ _ (λ command is. is.0) all
