use Rattle.std.proofs.Common.{◌∙◌, ◌++◌, ap, string_bytes}
use Rattle.std.specs.Prelude.{codes}
use Rattle.tw_inspect.specs.Reports.{owed_line}
use Rattle.tw_inspect.proofs.Lines.{all_lines, five_parts, next_line}
use Rattle.tw_texts.specs.Items.{message_text}
use Rattle.tw_inspect.proofs.items.add_owed_messages.Goals as goal

pub loop-message-preserved : goal.loop-message-preserved
loop-message-preserved g c =
    next_line (owed_line c.args.network.now.names) (string_bytes c.loop-message.text) (string_bytes c.add_owed_message.new.text) _ c.args.messages.now c.loop-message.message-index c.message-item.result c.loop-message-test.true c.message-item.is
    (c.in_ok-add_owed_message.ensures ∙ five_parts (string_bytes c.loop-message.text) (codes "owed ") c.name_of-name.result.now (codes " ") (message_text c.message-item.result) (codes "\n")
    ∙ ap (λ name. string_bytes c.loop-message.text ++ (codes "owed " ++ name ++ codes " " ++ message_text c.message-item.result ++ codes "\n")) c.name_of-name.ensures) c.loop-message.invariant

pub returns : goal.returns
returns g c = all_lines (owed_line c.args.network.now.names) (string_bytes c.loop-message.text) _ c.args.messages.now c.loop-message.message-index c.loop-message-test.false c.loop-message.invariant
