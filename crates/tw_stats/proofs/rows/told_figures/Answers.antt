-- The pairs are those of both lists.
use Rattle.std.proofs.Common.{◌∙◌, map, string_bytes, ap}
use Rattle.std.proofs.lemmas.Iterator.{YieldsList-from_slice, YieldsList-from_zip}
use Rattle.std.proofs.lemmas.Iterator.Consumers.{YieldsList-end}
use Rattle.tw_figures.specs.declared.figure.Figure.{Figure}
use Rattle.tw_figures.specs.declared.told.Told.{Told}
use Rattle.tw_stats.proofs.Paired.{zip_seen}
use Rattle.tw_stats.proofs.rows.told_figures.Goals as goal

pub returns : goal.returns
returns c =
    let both = YieldsList-from_zip (YieldsList-from_slice c.args.figures.now cc) (YieldsList-from_slice c.args.tolds.now cc) in
    let end = YieldsList-end both c.loop-figure.yielded _ c.loop-figure.yielded_by _ c.next.new.self c.in-None.is c.next.ensures.steps in
    c.loop-figure.invariant ∙ ap (map (λ (q : Figure × Told). (string_bytes q.0.name, q.1))) end.0 ∙ zip_seen (λ (f : Figure). string_bytes f.name) c.args.figures.now c.args.tolds.now
