use Rattle.std.proofs.Common.{◌≡◌, ◌++◌, ℕ, ℤ, List, flat_map, map, string_bytes}
use Rattle.tw_figures.specs.Labelled.{figure}
use Rattle.tw_figures.specs.declared.figure.Figure.{Figure}
use Rattle.tw_figures.specs.declared.figure.Measure.{Measure}
use Rattle.tw_record_lines.specs.FigureRows.{changed_row}
use Rattle.tw_record_lines.proofs.figure_rows.add_changes.Given as goal

abbrev pub invariant-loop-figure : goal.invariant-loop-figure
invariant-loop-figure l =
    string_bytes l.text
    ≡ string_bytes l.fn.text ++ flat_map (λ (p : (List ℕ × Measure) × ℤ). changed_row l.begin p l.words) (map (λ (q : Figure × ℤ). (figure q.0, q.1)) (map (λ p. (p.0.now, p.1.now)) l.yielded))
