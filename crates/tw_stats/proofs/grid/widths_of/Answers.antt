-- One line more.
use Rattle.std.proofs.Common.{◌∙◌, [], get_or, map, max, string_bytes, sym, ap, take}
use Rattle.tw_stats.specs.Grids.{letters, lines_of, width}
use Rattle.tw_stats.proofs.Widths.{lines_more, width_more}
use Rattle.tw_stats.proofs.grid.widths_of.Goals as goal

pub loop-line-preserved : goal.loop-line-preserved
loop-line-preserved c k =
    let at = c.loop-line.line-index in
    let lines = c.args.lines.now in
    let line = c.line-item.result in
    c.in_ok-widen_all.ensures k
    ∙ (λ i. max (c.loop-line.invariant k i) (letters (get_or (map string_bytes (c.as_slice.ensures.value i)) k [])))
    ∙ sym (width_more (lines_of (take at lines)) (map string_bytes line.items) k)
    ∙ ap (λ l. width l k) (sym (lines_more lines at line c.loop-line-test.true c.line-item.is))
