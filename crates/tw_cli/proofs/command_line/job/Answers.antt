use Rattle.std.proofs.Common.{◌≡◌, ◌∙◌, ap, sym, refl, map, string_bytes, subst, List}
use Rattle.std.specs.Prelude.{IfErr, IfOk, Option, true}
use Rattle.clap.specs.Words.{Row, Text, HasKind, fault_of, is_simple, is_simple_and_free, subcommand_of}
use Rattle.tw_cli.specs.Lines.{FailsFor, IsJob, twarp_app}
use Rattle.tw_cli.specs.declared.jobs.Job.{Job}
use Rattle.tw_cli.proofs.Missing.{all_ok, all_reasons}
use Rattle.tw_cli.proofs.Refusing.{reason_made}
use Rattle.tw_cli.proofs.command_line.job.Goals as goal

is_twarp_simple : is_simple twarp_app ≡ true
is_twarp_simple = refl

is_twarp_free : is_simple_and_free twarp_app ≡ true
is_twarp_free = refl

pub returns-in-Ok-clause-taken : goal.returns-in-Ok-clause-taken
returns-in-Ok-clause-taken c =
    let words = map string_bytes c.args.words.now in
    all_ok c.job_of.result (sym (ap (λ a. fault_of a words) c.in_ok-command.ensures)
    ∙ c.in-Ok.ensures.kinds (ap is_simple_and_free c.in_ok-command.ensures ∙ is_twarp_free))

pub returns-in-Ok-clause-ok : goal.returns-in-Ok-clause-ok
returns-in-Ok-clause-ok c =
    let words = map string_bytes c.args.words.now in
    let read = c.in-Ok.ensures.matches (ap is_simple c.in_ok-command.ensures ∙ is_twarp_simple) in
    subst (λ (o : Option (Text × List Row)). IfOk c.job_of.result (IsJob o))
    (read.1 ∙ ap (λ a. subcommand_of a words) c.in_ok-command.ensures) c.job_of.ensures.ok

pub returns-in-Ok-clause-err : goal.returns-in-Ok-clause-err
returns-in-Ok-clause-err c =
    let words = map string_bytes c.args.words.now in
    let read = c.in-Ok.ensures.matches (ap is_simple c.in_ok-command.ensures ∙ is_twarp_simple) in
    all_reasons words c.job_of.result (subst (λ (o : Option (Text × List Row)). IfErr c.job_of.result (FailsFor ((j : Job) → ¬ (IsJob o j))))
    (read.1 ∙ ap (λ a. subcommand_of a words) c.in_ok-command.ensures) c.job_of.ensures.err)

pub returns-in-Err-clause-err : goal.returns-in-Err-clause-err
returns-in-Err-clause-err c =
    let words = map string_bytes c.args.words.now in
    reason_made words c.in-Err.error c.no_job.result
    (subst (λ a. HasKind (fault_of a words) c.in-Err.error) c.in_ok-command.ensures
    (c.in-Err.ensures.kinds (ap is_simple_and_free c.in_ok-command.ensures ∙ is_twarp_free))) c.no_job.ensures
