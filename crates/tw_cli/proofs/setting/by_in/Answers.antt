use Rattle.std.proofs.Common.{refl}
use Rattle.clap.specs.Words.{found_of, rows_of}
use Rattle.tw_cli.proofs.MissingOptions.{no_team}
use Rattle.tw_cli.proofs.setting.by_in.Goals as goal

pub returns-in_err-team-clause-none : goal.returns-in_err-team-clause-none
returns-in_err-team-clause-none c =
    rw c.from_residual.ensures (no_team (rows_of (found_of c.args.options.now)) (c.if-not-is_manned.ensures.yes refl) c.in_err-team.ensures.none)
