use Rattle.std.proofs.Common.{◌≡◌, ◌++◌, ◌∙◌, ap, map}
use Rattle.tw_figures.specs.Labelled.{label}
use Rattle.tw_stats.specs.Rows.{row, rows_of, shown_rows}
use Rattle.tw_stats.specs.Written.{rows_bytes}
use Rattle.tw_stats.proofs.written.text_of.Goals as goal

pub returns : goal.returns
returns g c =
    let name_of = g.N.Names.name_of c.args.names.now in
    let layout = c.args.layout.now in
    let rows : map row c.as_slice.result.now ≡ shown_rows (rows_of name_of (map label c.args.labels.now) c.args.report.now.parts.items) layout.shown.now =
    ap (map row) c.as_slice.ensures.value ∙ c.in_ok-rows-2.ensures ∙ ap (λ l. shown_rows l layout.shown.now) c.in_ok-rows.ensures in
    c.in_ok-add_report.ensures ∙ (λ i. c.new-text.ensures.bytes i ++ rows_bytes layout.json name_of (rows i) c.args.report.now)
