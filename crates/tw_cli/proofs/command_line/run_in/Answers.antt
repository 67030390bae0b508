use Rattle.std.proofs.Common.{codes}
use Rattle.clap.specs.Words.{found_of, rows_of}
use Rattle.tw_cli.proofs.Missing.{Needs, run_letters, needs_met}
use Rattle.tw_cli.proofs.command_line.run_in.Goals as goal

pub returns-in_err-cancel-clause-none : goal.returns-in_err-cancel-clause-none
returns-in_err-cancel-clause-none c = rw c.from_residual.ensures (λ t is.
    let rows = rows_of (found_of c.args.options.now) in
    let met : Needs run_letters rows = needs_met (codes "run") rows t is in
    c.in_err-cancel.ensures.none met.0 met.2)

pub returns-in_err-setting-clause-none : goal.returns-in_err-setting-clause-none
returns-in_err-setting-clause-none c = rw c.from_residual-in_err-setting.ensures (λ t is.
    let rows = rows_of (found_of c.args.options.now) in
    let met : Needs run_letters rows = needs_met (codes "run") rows t is in
    c.in_err-setting.ensures.none met.1 met.3)
