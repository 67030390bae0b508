use Rattle.std.proofs.Common.{ap, map}
use Rattle.tw_machine_text.specs.Kinds.{kinds_of}
use Rattle.tw_machine_text.specs.TextViews.{names_of, declarations}
use Rattle.tw_machine_text.specs.Views.{body}
use Rattle.tw_machine_file.specs.Texts.{language_of, said}
use Rattle.tw_machine_file.proofs.Saying.{no_program, reads_program}
use Rattle.tw_machine_file.proofs.texts.program.Goals as goal

pub returns-in-Ok-clause-ok : goal.returns-in-Ok-clause-ok
unfolding language_of
returns-in-Ok-clause-ok c =
    ap (said c.args.part) (reads_program (names_of c.args.language.now.declared.now) c.args.language.now.timing (kinds_of (declarations c.args.language.now.declared.now)) (map body c.args.procedures.now) c.args.text.now _ c.in-Ok.ensures.found)

pub returns-in-Err-Wrong-clause-err : goal.returns-in-Err-Wrong-clause-err
unfolding language_of
returns-in-Err-Wrong-clause-err c = λ _.
    ap (said c.args.part)
    (no_program (names_of c.args.language.now.declared.now) c.args.language.now.timing (kinds_of (declarations c.args.language.now.declared.now)) (map body c.args.procedures.now) c.args.text.now (rw c.in-Err-Wrong.field-0-is at c.in-Err-Wrong.ensures.only))
