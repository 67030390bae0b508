use Rattle.std.proofs.Common.{◌≡◌, ◌∙◌, ◌++◌, ◌∷◌, ◌+◌, [], ℤ, FitsSigned, pos, get_or, take, ap, sym, rules}
use Rattle.std.specs.Int.{w64}
use Rattle.std.proofs.lemmas.Int.{to_z-of_z}
use Rattle.std.proofs.lemmas.List.{take_all, take_more}
use Rattle.tw_msgs.proofs.words.few.Goals as goal

pub loop-number-preserved : goal.loop-number-preserved
loop-number-preserved c =
    let i = c.loop-number.number-index in
    let number = get_or c.args.numbers.now i (pos 0) in
    let fits : FitsSigned w64 c.in_ok-ok.field-0 = search rules in
    let is : c.in_ok-ok.field-0 ≡ number = let e = c.try_from.ensures in search rules in
    record {
      items = (rw (to_z-of_z w64 c.in_ok-ok.field-0 fits) at c.push.ensures.items) ∙ ap (λ l. l ++ c.in_ok-ok.field-0 ∷ []) c.loop-number.invariant.items
          ∙ ap (λ (x : ℤ). take i c.args.numbers.now ++ x ∷ []) is ∙ sym (take_more c.args.numbers.now i (pos 0) c.loop-number-test.true);
      count = c.push.ensures.len ∙ ap (λ n. n + 1) c.loop-number.invariant.count;
      short = c.loop-number.invariant.short;
    }

pub returns : goal.returns
returns c = c.loop-number.invariant.items ∙ take_all c.loop-number.number-index c.args.numbers.now c.loop-number-test.false
