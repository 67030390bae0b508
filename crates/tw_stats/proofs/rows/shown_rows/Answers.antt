-- The pairs are those of both lists.
use Rattle.std.proofs.Common.{◌∙◌, List, map, ap}
use Rattle.std.specs.Prelude.{Bool, filter}
use Rattle.std.proofs.lemmas.Iterator.{YieldsList-from_slice, YieldsList-from_zip}
use Rattle.std.proofs.lemmas.Iterator.Adapters.{YieldsList-from_vec}
use Rattle.std.proofs.lemmas.Iterator.Consumers.{YieldsList-end}
use Rattle.tw_stats.specs.Rows.{Row, row}
use Rattle.tw_stats.specs.declared.rows.Row as rust
use Rattle.tw_stats.proofs.Paired.{zip_seen}
use Rattle.tw_stats.proofs.rows.shown_rows.Goals as goal

pub returns : goal.returns
returns c =
    let both = YieldsList-from_zip (YieldsList-from_vec c.args.rows.items (cc) (cc)) (YieldsList-from_slice c.args.shown.now cc) in
    let end = YieldsList-end both c.loop-row.yielded _ c.loop-row.yielded_by _ c.next.new.self c.in-None.is c.next.ensures.steps in
    let kept = λ (l : List (Row × Bool)). map (λ (x : Row × Bool). x.0) (filter (λ (x : Row × Bool). x.1) l) in
    c.loop-row.invariant ∙ ap (λ l. kept (map (λ (q : rust.Row × Bool). (row q.0, q.1)) l)) end.0 ∙ ap kept (zip_seen row c.args.rows.items c.args.shown.now)
