use Rattle.std.proofs.Common.{◌≡◌, ◌∙◌, ◌++◌, ◌∷◌, drop, ap, sym, refl, arith, codes}
use Rattle.tw_texts.specs.Texts.{item_text, bag_text}
use Rattle.tw_texts.proofs.Joining.{first_before}
use Rattle.tw_texts.proofs.tails.put_bag.Goals as goal

pub returns-clause-written : goal.returns-clause-written
returns-clause-written c =
    let l = c.loop-left in
    let none : l.left ≡ 0 = omega (arith, c.loop-left-test.false) in
    let tail = drop c.args.end c.args.line.now in
    first_before item_text (codes " ") (drop l.start l.line) _ tail (c.in-Some.first.now ∷ c.in-Some.rest.now) c.in-Some.first.now c.in-Some.rest.now l.left refl none c.put_item.ensures.written l.invariant.3
    ∙ ap (λ bag. bag_text bag ++ tail) (sym c.in-Some.ensures.cases.0)
