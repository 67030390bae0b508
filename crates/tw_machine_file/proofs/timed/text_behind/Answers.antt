use Rattle.std.proofs.Common.{◌≡◌, ◌∙◌, ap, length, sym}
use Rattle.std.specs.Prelude.{Result}
use Rattle.serde_json.specs.View.{view}
use Rattle.tw_machine_declaration.specs.TimedViews.{named}
use Rattle.tw_machine_file.specs.Answers.{data_of}
use Rattle.tw_machine_file.specs.Fault.{Fault, made}
use Rattle.tw_machine_file.specs.Texts.{language_of}
use Rattle.tw_machine_file.specs.Timed.{TimerText, is_counted, text_behind, text_of, with_text}
use Rattle.tw_machine_file.specs.TimedViews.{timer_texts}
use Rattle.tw_machine_file.proofs.Passed.{fails_on, many_programs}
use Rattle.tw_machine_file.proofs.timed.text_behind.Goals as goal

pub returns-in_err-text-clause-err : goal.returns-in_err-text-clause-err
returns-in_err-text-clause-err c =
    let ts = timer_texts c.args.so_far in
    let d = view c.args.entry.now in
    let l = language_of c.args.language.now in
    let n = named c.args.names in
    let said = data_of c.args.procedures in
    let place : c.len-place.result ≡ length ts.programs = c.len-place.ensures ∙ c.args.so_far.programs.ok.0 ∙ sym (many_programs c.args.so_far) in
    fails_on c.from_residual.result c.in_err-text.field-0.0 (text_behind l n said ts d) c.from_residual.ensures.1
    (λ no. ap (λ k. made (with_text ts (length ts.programs) (is_counted d)) (text_of l n said k d)) (sym place)
    ∙ ap (λ (r : Result TimerText Fault). made (with_text ts (length ts.programs) (is_counted d)) r) (c.in_err-text.ensures.err no))
