use Rattle.std.proofs.Common.{rules}
use Rattle.clap.specs.Words.{found_of, rows_of}
use Rattle.tw_cli.proofs.MissingOptions.{no_seeded}
use Rattle.tw_cli.proofs.driving.driver_in.Goals as goal

pub returns-in_err-seed-clause-none : goal.returns-in_err-seed-clause-none
returns-in_err-seed-clause-none c = rw c.from_residual.ensures (no_seeded (rows_of (found_of c.args.options.now)) (search rules)
    (λ seed steps has_seed has_steps. c.in_err-seed.ensures.none seed has_seed))

pub returns-in_err-steps-clause-none : goal.returns-in_err-steps-clause-none
returns-in_err-steps-clause-none c = rw c.from_residual-in_err-steps.ensures (no_seeded (rows_of (found_of c.args.options.now)) (search rules)
    (λ seed steps has_seed has_steps. c.in_err-steps.ensures.none steps has_steps))
