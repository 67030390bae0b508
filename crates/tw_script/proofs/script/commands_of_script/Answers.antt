use Rattle.std.proofs.Common.{◌≤◌, ◌∙◌, ap, arith, length, subst}
use Rattle.std.specs.List.{AllByRecursion as Each}
use Rattle.std.specs.Str.{IsUtf8}
use Rattle.std.proofs.lemmas.Result.{IfErr-weaker, IfOk-from_err, IfOk-weaker}
use Rattle.tw_script.proofs.Reading.{length-shown, refused_no_text, refused_on, refused_wrong, shown}
use Rattle.tw_script.specs.Scripts.{AreSaid, lines_of, max_lines}
use Rattle.tw_script.proofs.script.commands_of_script.Goals as goal

pub returns-then-len-gt-MAX_LINES-clause-refused : goal.returns-then-len-gt-MAX_LINES-clause-refused
returns-then-len-gt-MAX_LINES-clause-refused g c =
    omega (arith, c.if-len-gt-MAX_LINES.true, c.len.ensures, c.in_ok-lines.lines.ok.0, length-shown c.in_ok-lines.lines.items, ap length c.in_ok-lines.ensures)

pub returns-clause-refused : goal.returns-clause-refused
returns-clause-refused g c =
    let lines = ap shown c.as_slice.ensures.value ∙ c.in_ok-lines.ensures in
    let few : length (lines_of c.args.bytes.now) ≤ max_lines = omega (arith, c.if-len-gt-MAX_LINES.false, c.len.ensures, c.in_ok-lines.lines.ok.0, length-shown c.in_ok-lines.lines.items, ap length c.in_ok-lines.ensures) in
    IfErr-weaker c.commands_of.result _ _
    (λ why. refused_wrong c.args.network.now.names (shown c.as_slice-2.result.now) c.args.bytes.now why
    (ap shown c.as_slice-2.ensures.value ∙ c.in_ok-texts.ensures.texts ∙ lines) few (subst (Each IsUtf8) lines c.in_ok-texts.ensures.utf8))
    c.commands_of.ensures.refused

pub returns-clause-script : goal.returns-clause-script
returns-clause-script g c =
    let lines = ap shown c.as_slice.ensures.value ∙ c.in_ok-lines.ensures in
    IfOk-weaker c.commands_of.result _ _
    (λ commands h. record {
      few = omega (arith, c.if-len-gt-MAX_LINES.false, c.len.ensures, c.in_ok-lines.lines.ok.0, length-shown c.in_ok-lines.lines.items, ap length c.in_ok-lines.ensures);
      text = subst (Each IsUtf8) lines c.in_ok-texts.ensures.utf8;
      said = subst (λ ls. AreSaid c.args.network.now.names ls commands.items) (ap shown c.as_slice-2.ensures.value ∙ c.in_ok-texts.ensures.texts ∙ lines) h;
    })
    c.commands_of.ensures.said

pub returns-in_err-texts-clause-refused : goal.returns-in_err-texts-clause-refused
returns-in_err-texts-clause-refused g c =
    let lines = ap shown c.as_slice.ensures.value ∙ c.in_ok-lines.ensures in
    let few : length (lines_of c.args.bytes.now) ≤ max_lines = omega (arith, c.if-len-gt-MAX_LINES.false, c.len.ensures, c.in_ok-lines.lines.ok.0, length-shown c.in_ok-lines.lines.items, ap length c.in_ok-lines.ensures) in
    refused_on _ _ c.in_err-texts.field-0.0 c.from_residual-in_err-texts.ensures.1
    (refused_no_text c.args.network.now.names (shown c.as_slice.result.now) c.args.bytes.now c.in_err-texts.field-0.0 lines few c.in_err-texts.ensures.refused)

pub returns-in_err-texts-clause-script : goal.returns-in_err-texts-clause-script
returns-in_err-texts-clause-script g c = IfOk-from_err _ _ c.from_residual-in_err-texts.ensures.0
