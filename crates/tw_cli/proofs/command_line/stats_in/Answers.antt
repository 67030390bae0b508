use Rattle.std.proofs.Common.{codes}
use Rattle.clap.specs.Words.{found_of, rows_of}
use Rattle.tw_cli.proofs.Missing.{Needs, needs_met, stats_letters}
use Rattle.tw_cli.proofs.command_line.stats_in.Goals as goal

pub returns-in_err-from-clause-none : goal.returns-in_err-from-clause-none
returns-in_err-from-clause-none c = rw c.from_residual.ensures (λ t is.
    let rows = rows_of (found_of c.args.options.now) in
    let met : Needs stats_letters rows = needs_met (codes "stats") rows t is in
    c.in_err-from.ensures.none met.0 met.2)

pub returns-in_err-by-clause-none : goal.returns-in_err-by-clause-none
returns-in_err-by-clause-none c = rw c.from_residual-in_err-by.ensures (λ t is.
    let rows = rows_of (found_of c.args.options.now) in
    let met : Needs stats_letters rows = needs_met (codes "stats") rows t is in
    c.in_err-by.ensures.none met.1 met.3)
