use Rattle.std.proofs.Common.{◌∙◌, sym}
use Rattle.clap.specs.Words.{found_of, rows_of}
use Rattle.tw_cli.proofs.MissingOptions.{no_start}
use Rattle.tw_cli.proofs.seeing.start_in.Goals as goal

pub returns-in_err-from-clause-none : goal.returns-in_err-from-clause-none
returns-in_err-from-clause-none c =
    rw c.from_residual.ensures (no_start (rows_of (found_of c.args.options.now)) (sym c.has.ensures ∙ c.if-not-has.false) c.in_err-from.ensures.none)
