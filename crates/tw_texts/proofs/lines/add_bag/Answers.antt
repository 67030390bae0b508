use Rattle.std.proofs.Common.{◌∙◌, ◌++◌, ◌∷◌, ap, sym, refl, codes, string_bytes}
use Rattle.tw_texts.specs.Texts.{item_text, bag_text}
use Rattle.tw_texts.proofs.Joining.{first_written, one_written, all_written}
use Rattle.tw_texts.proofs.lines.add_bag.Goals as goal

pub loop-item-init : goal.loop-item-init
loop-item-init c =
    first_written item_text (codes " ") (string_bytes c.args.text.now) (string_bytes c.add_item.new.text) (c.in-Some.first.now ∷ c.in-Some.rest.now) c.in-Some.first.now c.in-Some.rest.now refl c.in_ok-add_item.ensures
    ∙ ap (λ bag. string_bytes c.args.text.now ++ bag_text bag) (sym c.in-Some.ensures.cases.0)

pub loop-item-preserved : goal.loop-item-preserved
loop-item-preserved c =
    one_written item_text (codes " ") (string_bytes c.loop-item.text) (string_bytes c.push_str-in-loop-item.new.self) _ _ c.in-Some.rest.now c.loop-item.item-index _ c.loop-item-test.true c.in_ok-push_str.ensures.bytes c.in_ok-add_item-2.ensures c.loop-item.invariant

pub returns : goal.returns
returns c = all_written item_text (codes " ") (string_bytes c.loop-item.text) _ c.in-Some.rest.now c.loop-item.item-index c.loop-item-test.false c.loop-item.invariant
