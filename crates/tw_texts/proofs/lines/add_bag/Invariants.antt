use Rattle.std.proofs.Common.{◌≡◌, ◌++◌, drop, codes, string_bytes}
use Rattle.std.specs.Prelude.{flat_map}
use Rattle.tw_texts.specs.Texts.{item_text, bag_text}
use Rattle.tw_texts.proofs.lines.add_bag.Given as goal

-- what is written and what is still to come are the bag
abbrev pub invariant-loop-item : goal.invariant-loop-item
invariant-loop-item l =
    string_bytes l.text ++ flat_map (λ x. codes " " ++ item_text x) (drop l.item-index l.rest) ≡ string_bytes l.fn.text ++ bag_text l.bag
