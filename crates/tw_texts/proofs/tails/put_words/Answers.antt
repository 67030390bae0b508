use Rattle.std.proofs.Common.{◌≡◌, FitsSigned, drop, arith, rules, codes}
use Rattle.std.specs.Int.{w128}
use Rattle.std.proofs.lemmas.Int.{to_z-of_z}
use Rattle.std.specs.Fmt.{signed_decimal}
use Rattle.tw_texts.proofs.Joining.{first_before}
use Rattle.tw_texts.proofs.tails.put_words.Goals as goal

pub returns-clause-written : goal.returns-clause-written
returns-clause-written c =
    let l = c.loop-left in
    let none : l.left ≡ 0 = omega (arith, c.loop-left-test.false) in
    let fits : FitsSigned w128 c.in-Some.first.now = search rules in
    first_before signed_decimal (codes " ") (drop l.start l.line) _ (drop c.args.end c.args.line.now) c.args.words.now c.in-Some.first.now c.in-Some.rest.now l.left c.in-Some.ensures.cases.0 none (rw (to_z-of_z w128 c.in-Some.first.now fits) at c.put_word.ensures.written) l.invariant.3
