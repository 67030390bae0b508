use Rattle.std.proofs.Common.{◌∙◌, ◌++◌, ap, string_bytes}
use Rattle.std.specs.Prelude.{codes}
use Rattle.tw_inspect.specs.Reports.{outgoing_line}
use Rattle.tw_inspect.proofs.Lines.{all_lines, next_line, seven_parts}
use Rattle.tw_texts.specs.Items.{message_text, sign_text}
use Rattle.tw_inspect.proofs.items.add_outgoing.Goals as goal

pub loop-item-preserved : goal.loop-item-preserved
loop-item-preserved g c =
    next_line (outgoing_line c.args.network.now.names) (string_bytes c.loop-item.text) (string_bytes c.add_outgoing_item.new.text) _ c.args.items.now c.loop-item.item-index c.item-item.result c.loop-item-test.true c.item-item.is
    (c.in_ok-add_outgoing_item.ensures ∙ seven_parts (string_bytes c.loop-item.text) (codes "outgoing ") (sign_text c.item-item.result.sign) (codes " ") c.name_of-name.result.now (codes " ") (message_text c.item-item.result.message) (codes "\n")
    ∙ ap (λ name. string_bytes c.loop-item.text ++ (codes "outgoing " ++ sign_text c.item-item.result.sign ++ codes " " ++ name ++ codes " " ++ message_text c.item-item.result.message ++ codes "\n")) c.name_of-name.ensures) c.loop-item.invariant

pub returns : goal.returns
returns g c = all_lines (outgoing_line c.args.network.now.names) (string_bytes c.loop-item.text) _ c.args.items.now c.loop-item.item-index c.loop-item-test.false c.loop-item.invariant
