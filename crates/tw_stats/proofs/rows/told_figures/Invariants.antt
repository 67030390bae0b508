use Rattle.std.proofs.Common.{◌≡◌, map, string_bytes}
use Rattle.tw_figures.specs.declared.figure.Figure.{Figure}
use Rattle.tw_figures.specs.declared.told.Told.{Told}
use Rattle.tw_stats.specs.Rows.{told_figure}
use Rattle.tw_stats.proofs.rows.told_figures.Given as goal

abbrev pub invariant-loop-figure : goal.invariant-loop-figure
invariant-loop-figure l = map told_figure l.named.items ≡ map (λ (q : Figure × Told). (string_bytes q.0.name, q.1)) (map (λ p. (p.0.now, p.1.now)) l.yielded)
