use Rattle.clap.specs.Words.{found_of, rows_of}
use Rattle.tw_cli.proofs.MissingOptions.{no_workers}
use Rattle.tw_cli.proofs.setting.workers_in.Goals as goal

pub returns-in_err-count-clause-none : goal.returns-in_err-count-clause-none
returns-in_err-count-clause-none c =
    rw c.from_residual.ensures (no_workers (rows_of (found_of c.args.options.now)) (c.is_auto.ensures.no c.if-is_auto.false) c.in_err-count.ensures.none)
