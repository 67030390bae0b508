use Rattle.std.proofs.Common.{arith, ◌+◌, ◌∙◌, ap, subst, sym}
use Rattle.std.specs.Prelude.{Some}
use Rattle.std.specs.Str.{IsUtf8}
use Rattle.tw_script.proofs.Reading.{AreTexts, all_texts, first_no_text, length-shown, shown, shown_at, shown_more, texts_more}
use Rattle.tw_script.specs.Scripts.{IsNotText}
use Rattle.tw_script.proofs.script.texts_of.Goals as goal

pub loop-i-preserved : goal.loop-i-preserved
loop-i-preserved c =
    let lines = shown c.args.lines.now in
    let read = c.in-Ok.ensures.cases in
    subst (λ texts. AreTexts lines texts (c.loop-i.i + 1)) (sym (ap shown c.in_ok-push.ensures.items ∙ shown_more c.loop-i.texts.items c.in-Ok.text))
    (texts_more lines (shown c.loop-i.texts.items) c.loop-i.i c.in-Ok.text.now c.loop-i.invariant
    (shown_at c.args.lines.now c.loop-i.i _ c.loop-i-test.true ∙ ap Some (sym read.0)) (subst IsUtf8 (sym read.0) read.1))

pub returns-in_default-clause-refused : goal.returns-in_default-clause-refused
returns-in_default-clause-refused c = subst (IsNotText (shown c.args.lines.now)) (sym c.bad_line.ensures)
    (first_no_text (shown c.args.lines.now) (shown c.loop-i.texts.items) c.loop-i.i _ c.loop-i.invariant (shown_at c.args.lines.now c.loop-i.i _ c.loop-i-test.true) c.in_default.ensures.cases.0)

pub returns-clause-texts : goal.returns-clause-texts
returns-clause-texts c = (all_texts (shown c.args.lines.now) (shown c.loop-i.texts.items) c.loop-i.i c.loop-i.invariant (omega (arith, length-shown c.args.lines.now, c.loop-i-test.false))).0

pub returns-clause-utf8 : goal.returns-clause-utf8
returns-clause-utf8 c = (all_texts (shown c.args.lines.now) (shown c.loop-i.texts.items) c.loop-i.i c.loop-i.invariant (omega (arith, length-shown c.args.lines.now, c.loop-i-test.false))).1
