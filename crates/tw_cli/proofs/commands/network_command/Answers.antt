use Rattle.std.proofs.Common.{rules}
use Rattle.clap.specs.Words.{new_app, with_rule}
use Rattle.tw_cli.specs.Lines.{IsCommand, net_rule, until_rule}
use Rattle.tw_cli.proofs.Adding.{grown}
use Rattle.tw_cli.proofs.commands.network_command.Goals as goal

pub returns : goal.returns
returns c =
    let bare : IsCommand (new_app c.args.name.now) c.after_help.result = (search rules, search rules) in
    let net = grown _ _ _ _ _ c.in_ok-arg.ensures c.net.ensures bare in
    let until = grown _ _ _ _ _ c.in_ok-bare.ensures c.until.ensures net in
    c.numbered_command.ensures (with_rule (with_rule (new_app c.args.name.now) net_rule) until_rule) until
