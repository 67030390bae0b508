-- By computing the texts.
use Rattle.std.proofs.Common.{refl}
use Rattle.std.specs.Fmt.{digits}
use Rattle.std.specs.Str.{chars}
use Rattle.tw_stats.proofs.examples.reports.Goals as goal

pub returns-clause-counts : goal.returns-clause-counts
unfolding digits chars
returns-clause-counts c = refl

pub returns-clause-json : goal.returns-clause-json
unfolding digits chars lib.Utf8.encode
returns-clause-json c = refl

pub returns-clause-observed : goal.returns-clause-observed
unfolding digits chars lib.Utf8.encode
returns-clause-observed c = refl

pub returns-clause-observations : goal.returns-clause-observations
unfolding digits chars
returns-clause-observations c = refl

pub returns-clause-no_observations : goal.returns-clause-no_observations
returns-clause-no_observations c = refl

pub returns-clause-escapes : goal.returns-clause-escapes
unfolding chars lib.Utf8.encode
returns-clause-escapes c = refl
