use Rattle.std.proofs.Common.{◌∙◌, ap, sym}
use Rattle.std.specs.Prelude.{decimal}
use Rattle.tw_file_settings.proofs.Written.{differing, nothing, same, unsigned_read}
use Rattle.tw_file_settings.proofs.wholes.unsigned_in.Goals as goal

pub returns-in_err-number-clause-none : goal.returns-in_err-number-clause-none
returns-in_err-number-clause-none c =
    rw c.from_residual.ensures (λ n fits is. nothing c.ok.result n c.in_err-number.was
    (unsigned_read c.args.text.now c.parse.result c.ok.result c.parse.ensures.value.0 c.ok.ensures.value n fits is))

pub returns-then-ne-clause-none : goal.returns-then-ne-clause-none
returns-then-ne-clause-none c = λ n fits is.
    let read = unsigned_read c.args.text.now c.parse.result c.ok.result c.parse.ensures.value.0 c.ok.ensures.value n fits is in
    let number = same c.ok.result c.in_ok-number.number n c.in_ok-number.was read in
    differing c.format.result.now c.args.text.now (sym c.ne.ensures ∙ c.if-ne.true) (c.format.ensures.text ∙ ap decimal number ∙ sym is)
