use Rattle.std.proofs.Common.{◌≡◌, map, string_bytes}
use Rattle.tw_figures.specs.declared.labels.Observation.{Observation}
use Rattle.tw_figures.specs.declared.observed.Observed.{Observed}
use Rattle.tw_stats.specs.Rows.{told_observation}
use Rattle.tw_stats.proofs.rows.told_observations.Given as goal

abbrev pub invariant-loop-observation : goal.invariant-loop-observation
invariant-loop-observation l = map told_observation l.named.items ≡ map (λ (q : Observation × Observed). (string_bytes q.0.name, q.1)) (map (λ p. (p.0.now, p.1.now)) l.yielded)
