-- The pairs are those of both lists.
use Rattle.std.proofs.Common.{◌∙◌, ◌++◌, ℕ, ℤ, List, flat_map, map, ap, string_bytes}
use Rattle.std.proofs.lemmas.Iterator.{YieldsList-from_slice, YieldsList-from_zip}
use Rattle.std.proofs.lemmas.Iterator.Consumers.{YieldsList-end}
use Rattle.tw_figures.specs.Labelled.{figure}
use Rattle.tw_figures.specs.declared.figure.Figure.{Figure}
use Rattle.tw_figures.specs.declared.figure.Measure.{Measure}
use Rattle.tw_record_lines.specs.FigureRows.{changed_row}
use Rattle.tw_record_lines.proofs.Valued.{zip_seen}
use Rattle.tw_record_lines.proofs.figure_rows.add_changes.Goals as goal

pub returns : goal.returns
returns c =
    let both = YieldsList-from_zip (YieldsList-from_slice c.args.figures.now cc) (YieldsList-from_slice c.args.values.now cc) in
    let end = YieldsList-end both c.loop-figure.yielded _ c.loop-figure.yielded_by _ c.next.new.self c.in-None.is c.next.ensures.steps in
    let rows = λ (l : List ((List ℕ × Measure) × ℤ)). string_bytes c.args.text.now ++ flat_map (λ (p : (List ℕ × Measure) × ℤ). changed_row c.args.begin.now p c.args.words.now) l in
    c.loop-figure.invariant ∙ ap (λ l. rows (map (λ (q : Figure × ℤ). (figure q.0, q.1)) l)) end.0 ∙ ap rows (zip_seen figure c.args.figures.now c.args.values.now)
