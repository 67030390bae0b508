use Rattle.std.proofs.Common.{arith, ⊎_elim}
use Rattle.std.specs.Str.Parse.{ParsesUnsigned, ExplainsUnsignedError, HasUnsignedDigitsIfOk}
use Rattle.clap.specs.Words.{found_of}
use Rattle.tw_cli.proofs.Reading.{number_read, number_missing, number_same}
use Rattle.tw_cli.proofs.values.number_in.Goals as goal

pub returns-clause-some : goal.returns-clause-some
returns-clause-some c =
    let read = number_read (λ bs r. ParsesUnsigned 64 10 bs r × ExplainsUnsignedError 10 bs r × HasUnsignedDigitsIfOk bs r)
    (found_of c.args.options.now) c.args.id.now c.get_one.result c.in_ok-number.number
    (λ u x g. g.0) c.get_one.ensures.none c.get_one.ensures.value c.in_ok-number.was in
    (read.0, read.1, read.2, read.3, c.if-number-least.false, c.if-number-most.false)

pub returns-in_err-number-clause-none : goal.returns-in_err-number-clause-none
returns-in_err-number-clause-none c =
    rw c.from_residual.ensures (number_missing (λ bs r. ParsesUnsigned 64 10 bs r × ExplainsUnsignedError 10 bs r × HasUnsignedDigitsIfOk bs r)
    (found_of c.args.options.now) c.args.id.now c.get_one.result c.args.least c.args.most
    (λ u x g. g.0) c.get_one.ensures.value c.in_err-number.was c.ranges.most.fits)

pub returns-then-number-least-clause-none : goal.returns-then-number-least-clause-none
returns-then-number-least-clause-none c =
    λ n has.
    let same = number_same (λ bs r. ParsesUnsigned 64 10 bs r × ExplainsUnsignedError 10 bs r × HasUnsignedDigitsIfOk bs r)
    (found_of c.args.options.now) c.args.id.now c.get_one.result c.in_ok-number.number c.args.least c.args.most
    (λ u x g. g.0) c.get_one.ensures.value c.in_ok-number.was n has in
    let (t, stands, numeral, writes, low, high) = has in
    ⊎_elim (λ below. omega (arith, same, low, below)) (λ above. let over = above.1 in omega (arith, same, high, over)) c.then-number-least.either
