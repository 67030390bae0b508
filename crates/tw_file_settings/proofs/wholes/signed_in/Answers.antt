use Rattle.std.proofs.Common.{◌≡◌, ◌∙◌, ap, rules, sym}
use Rattle.std.specs.Fmt.{signed_decimal}
use Rattle.tw_file_settings.proofs.Written.{differing, nothing, same, signed_read}
use Rattle.tw_file_settings.proofs.wholes.signed_in.Goals as goal

pub returns-in_err-number-clause-none : goal.returns-in_err-number-clause-none
returns-in_err-number-clause-none c =
    rw c.from_residual.ensures (λ z fits is. nothing c.ok.result z c.in_err-number.was
    (signed_read c.args.text.now c.parse.result c.ok.result c.parse.ensures.value.0 c.ok.ensures.value z fits is))

pub returns-then-ne-clause-none : goal.returns-then-ne-clause-none
returns-then-ne-clause-none c = λ z fits is.
    let read = signed_read c.args.text.now c.parse.result c.ok.result c.parse.ensures.value.0 c.ok.ensures.value z fits is in
    let number = same c.ok.result c.in_ok-number.number z c.in_ok-number.was read in
    let written : c.format.result.now ≡ signed_decimal c.in_ok-number.number = search rules in
    differing c.format.result.now c.args.text.now (sym c.ne.ensures ∙ c.if-ne.true) (written ∙ ap signed_decimal number ∙ sym is)
