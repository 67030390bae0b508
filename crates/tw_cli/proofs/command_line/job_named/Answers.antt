use Rattle.clap.specs.Words.{found_of, rows_of}
use Rattle.tw_cli.proofs.Missing.{fails_then, no_job}
use Rattle.tw_cli.proofs.command_line.job_named.Goals as goal

pub returns-in_default-clause-err : goal.returns-in_default-clause-err
returns-in_default-clause-err c =
    fails_then c.simulation_in.result
    (no_job c.args.name.now (rows_of (found_of c.args.options.now)) c.in_default.not-demo c.in_default.not-check c.in_default.not-dot) c.simulation_in.ensures.err
