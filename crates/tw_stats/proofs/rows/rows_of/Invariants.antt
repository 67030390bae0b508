use Rattle.std.proofs.Common.{◌≡◌, map}
use Rattle.tw_figures.specs.Labelled.{label}
use Rattle.tw_figures.specs.declared.labels.Labels.{Labels}
use Rattle.tw_stats.specs.Rows.{row, rows_from}
use Rattle.tw_stats.specs.declared.report.Part.{Part}
use Rattle.tw_stats.proofs.rows.rows_of.Given as goal

abbrev pub invariant-loop-label : goal.invariant-loop-label
invariant-loop-label g l = map row l.rows.items ≡ rows_from (g.N.Names.name_of l.names) 0 (map (λ (q : Labels × Part). (label q.0, q.1)) (map (λ p. (p.0.now, p.1.now)) l.yielded))
