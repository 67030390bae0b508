use Rattle.std.specs.Prelude.{Option, None, Some, IfNone}
use Rattle.std.proofs.Common.{◌∙◌, ℕ, codes, sym}
use Rattle.clap.specs.Words.{found_of, rows_of}
use Rattle.tw_cli.specs.Options.{HasNumber, IsBurstIn}
use Rattle.tw_cli.proofs.MissingOptions.{no_burst}
use Rattle.tw_cli.proofs.setting.burst_in.Goals as goal

pub returns-clause-none : goal.returns-clause-none
returns-clause-none c = go c.number_in.result c.number_in.ensures.none
  where
    go : (o : Option ℕ) → IfNone o ((n : ℕ) → ¬ (HasNumber (codes "burst") 1 256 (rows_of (found_of c.args.options.now)) n)) → IfNone o ((n : ℕ) → ¬ (IsBurstIn (rows_of (found_of c.args.options.now)) n))
    go None missing = no_burst (rows_of (found_of c.args.options.now)) (sym c.has.ensures ∙ c.if-not-has.false) missing
    go (Some n) missing = tt
