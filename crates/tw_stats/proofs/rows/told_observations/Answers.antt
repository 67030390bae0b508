-- The pairs are those of both lists.
use Rattle.std.proofs.Common.{◌∙◌, map, string_bytes, ap}
use Rattle.std.proofs.lemmas.Iterator.{YieldsList-from_slice, YieldsList-from_zip}
use Rattle.std.proofs.lemmas.Iterator.Consumers.{YieldsList-end}
use Rattle.tw_figures.specs.declared.labels.Observation.{Observation}
use Rattle.tw_figures.specs.declared.observed.Observed.{Observed}
use Rattle.tw_stats.proofs.Paired.{zip_seen}
use Rattle.tw_stats.proofs.rows.told_observations.Goals as goal

pub returns : goal.returns
returns c =
    let both = YieldsList-from_zip (YieldsList-from_slice c.args.observations.now cc) (YieldsList-from_slice c.args.tolds.now cc) in
    let end = YieldsList-end both c.loop-observation.yielded _ c.loop-observation.yielded_by _ c.next.new.self c.in-None.is c.next.ensures.steps in
    c.loop-observation.invariant ∙ ap (map (λ (q : Observation × Observed). (string_bytes q.0.name, q.1))) end.0 ∙ zip_seen (λ (o : Observation). string_bytes o.name) c.args.observations.now c.args.tolds.now
