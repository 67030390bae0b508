-- One cell more.
use Rattle.std.proofs.Common.{◌≡◌, ◌∙◌, ◌+◌, ◌++◌, [], ℕ, codes, drop, get_or, map, nat_lt, string_bytes, subst, if◌then◌else◌}
use Rattle.std.specs.List.{join_by}
use Rattle.tw_stats.specs.Grids.{cell_text, cells_from}
use Rattle.tw_stats.proofs.Joining.{adds_text, joined_from}
use Rattle.tw_stats.proofs.Widths.{cells_at}
use Rattle.tw_stats.proofs.grid.add_line.Goals as goal

pub loop-column-preserved : goal.loop-column-preserved
loop-column-preserved c =
    let line = map string_bytes c.args.line.now in
    let at = c.loop-column.column in
    let left = c.args.left in
    let widths = λ (k : ℕ). get_or c.args.widths.now k 0 in
    let cell = c.index-line-column.result in
    let whole = string_bytes c.args.text.now ++ join_by (λ t. t) (codes "  ") (cells_from left widths 0 line) in
    let old = string_bytes c.loop-column.text in
    let new : string_bytes c.add_cell.new.text ≡ (old ++ (if nat_lt 0 at then codes "  " else [])) ++ cell_text (nat_lt at left) (widths at) (string_bytes cell) =
    c.in_ok-add_cell.ensures ∙ (λ i. c.in_ok-add_gap.ensures i ++ cell_text (nat_lt at left) (c.width_of.ensures i) (c.as_str.ensures.value i)) in
    adds_text (codes "  ") at (cell_text (nat_lt at left) (widths at) (string_bytes cell)) old (string_bytes c.add_cell.new.text) whole (cells_from left widths (at + 1) (drop (at + 1) line))
    new (subst (λ l. old ++ joined_from (codes "  ") (nat_lt 0 at) (cells_from left widths at l) ≡ whole) (cells_at c.args.line.now at cell c.loop-column-test.true c.index-line-column.is) c.loop-column.invariant)
