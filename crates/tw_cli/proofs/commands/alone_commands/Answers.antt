use Rattle.tw_cli.proofs.Adding.{joins, with_made}
use Rattle.tw_cli.proofs.commands.alone_commands.Goals as goal

pub returns : goal.returns
returns c =
    let second = with_made _ _ _ _ _ c.in_ok-second.ensures c.seq_command.ensures c.in_ok-first.ensures in
    let third = with_made _ _ _ _ _ c.in_ok-third.ensures c.stats_command.ensures second in
    joins _ _ _ _ c.with_made-3.result c.with_made-3.ensures c.table_command.ensures third
