use Rattle.clap.specs.Words.{found_of, rows_of}
use Rattle.tw_cli.proofs.MissingOptions.{no_tabled}
use Rattle.tw_cli.proofs.seeing.tabled_in.Goals as goal

pub returns-in_err-rows-clause-none : goal.returns-in_err-rows-clause-none
returns-in_err-rows-clause-none c = rw c.from_residual.ensures (no_tabled (rows_of (found_of c.args.options.now)) c.in_err-rows.ensures.none)
