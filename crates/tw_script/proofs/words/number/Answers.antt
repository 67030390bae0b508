use Rattle.std.proofs.Common.{rules, ◌≡◌, arith}
use Rattle.std.specs.Prelude.{Ok}
use Rattle.std.proofs.lemmas.Fmt.{parse-decimal}
use Rattle.tw_script.proofs.words.number.Goals as goal

pub returns-in_err-number-clause-none : goal.returns-in_err-number-clause-none
returns-in_err-number-clause-none c = rw c.from_residual.ensures (λ n l e.
    let read : c.parse.result ≡ Ok n = parse-decimal 64 n c.args.word.now c.parse.result (omega (arith, l)) (omega (arith, l)) e c.parse.ensures.value.0 in
    search (rules, read))

pub returns-else-eq-clause-none : goal.returns-else-eq-clause-none
returns-else-eq-clause-none c n l e =
    let read : c.parse.result ≡ Ok n = parse-decimal 64 n c.args.word.now c.parse.result (omega (arith, l)) (omega (arith, l)) e c.parse.ensures.value.0 in
    search (rules, read, e)
