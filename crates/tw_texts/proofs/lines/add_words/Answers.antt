use Rattle.std.proofs.Common.{FitsSigned, pos, get_or, rules, codes, string_bytes}
use Rattle.std.specs.Int.{w128}
use Rattle.std.proofs.lemmas.Int.{to_z-of_z}
use Rattle.std.specs.Fmt.{signed_decimal}
use Rattle.tw_texts.proofs.Joining.{first_written, one_written, all_written}
use Rattle.tw_texts.proofs.lines.add_words.Goals as goal

pub loop-word-init : goal.loop-word-init
loop-word-init c =
    let fits : FitsSigned w128 c.in-Some.first.now = search rules in
    first_written signed_decimal (codes " ") (string_bytes c.args.text.now) (string_bytes c.add_number.new.text) c.args.words.now c.in-Some.first.now c.in-Some.rest.now c.in-Some.ensures.cases.0 (rw (to_z-of_z w128 c.in-Some.first.now fits) at c.in_ok-add_number.ensures)

pub loop-word-preserved : goal.loop-word-preserved
loop-word-preserved c =
    let x = get_or c.in-Some.rest.now c.loop-word.word-index (pos 0) in
    let fits : FitsSigned w128 x = search rules in
    one_written signed_decimal (codes " ") (string_bytes c.loop-word.text) (string_bytes c.push_str.new.self) _ _ c.in-Some.rest.now c.loop-word.word-index (pos 0) c.loop-word-test.true c.in_ok-push_str.ensures.bytes (rw (to_z-of_z w128 x fits) at c.in_ok-add_number-2.ensures) c.loop-word.invariant

pub returns : goal.returns
returns c = all_written signed_decimal (codes " ") (string_bytes c.loop-word.text) _ c.in-Some.rest.now c.loop-word.word-index c.loop-word-test.false c.loop-word.invariant
