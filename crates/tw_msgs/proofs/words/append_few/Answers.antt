use Rattle.std.proofs.Common.{◌≡◌, ℤ, List, ℕ, ◌+◌, ◌<◌, length, ◌++◌, ◌∷◌, [], take, sym, append_assoc, get_or, pos, ◌∙◌, ap, rules, add-one, arith}
use Rattle.std.proofs.lemmas.List.{take_all}
use Rattle.std.proofs.lemmas.Grind.{common_steps}
use Rattle.std.proofs.Math.Seq.{take-suc}
use Rattle.tw_msgs.proofs.words.append_few.Goals as goal

-- one number more of those that are appended
one_more : (before few items new : List ℤ) (i : ℕ) (number : ℤ) → new ≡ items ++ number ∷ [] → items ≡ before ++ take i few → i < length few → number ≡ get_or few i (pos 0) → new ≡ before ++ take (i + 1) few
one_more before few items new i number n e lt g = n ∙ ap (λ l. l ++ number ∷ []) e ∙ append_assoc before (take i few) (number ∷ []) ∙ ap (λ x. before ++ (take i few ++ x ∷ [])) g ∙ ap (λ l. before ++ l) (sym (take-suc few i (pos 0) lt)) ∙ ap (λ j. before ++ take j few) (sym (add-one i))

pub loop-number-preserved : goal.loop-number-preserved
loop-number-preserved c = record { items = one_more _ _ _ _ c.loop-number.number-index _ c.push_reserved.ensures.items c.loop-number.invariant.items c.loop-number-test.true (let e = c.from.ensures in search rules) }

pub push_reserved-requires : goal.push_reserved-requires
push_reserved-requires c = grind (arith, common_steps)

pub returns-clause-ok : goal.returns-clause-ok
returns-clause-ok c =
    c.loop-number.invariant.items ∙ ap (λ l. l ++ take c.loop-number.number-index c.args.few.now) c.in_ok-reserve.ensures.items
    ∙ ap (λ l. c.args.numbers.now.items ++ l) (take_all c.loop-number.number-index c.args.few.now c.loop-number-test.false)
