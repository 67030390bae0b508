use Rattle.std.proofs.Common.{rules}
use Rattle.tw_cli.specs.Lines.{IsCommand, bare_app}
use Rattle.tw_cli.proofs.Adding.{joined, joins, with_made}
use Rattle.tw_cli.proofs.commands.first_commands.Goals as goal

pub returns : goal.returns
returns c =
    let bare : IsCommand bare_app c.subcommand_required.result = (search rules, search rules) in
    let first = joined _ _ _ _ _ c.in_ok-first.ensures c.demo_command.ensures bare in
    let second = with_made _ _ _ _ _ c.in_ok-second.ensures c.check_command.ensures first in
    joins _ _ _ _ c.with_made-2.result c.with_made-2.ensures c.dot_command.ensures second
