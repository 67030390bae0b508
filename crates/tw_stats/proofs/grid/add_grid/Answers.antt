-- One line more; the widths are those of the columns.
use Rattle.std.proofs.Common.{◌≡◌, ◌∙◌, ◌+◌, ◌++◌, [], ℕ, drop, flat_map, get_or, map, string_bytes, sym, ap, append_assoc, append-nil, arith}
use Rattle.std.proofs.lemmas.List.{drop_all, length-map}
use Rattle.tw_stats.specs.Grids.{line_text, lines_of}
use Rattle.tw_stats.proofs.Widths.{lines_at}
use Rattle.tw_stats.proofs.grid.add_grid.Goals as goal

pub loop-line-preserved : goal.loop-line-preserved
loop-line-preserved c =
    let lines = lines_of c.args.lines.now in
    let at = c.loop-line.line-index in
    let line = c.line-item.result in
    let text = line_text c.args.left (λ (k : ℕ). get_or c.in_ok-widths.widths.items k 0) in
    let cells = map string_bytes line.items in
    let rest = flat_map text (drop (at + 1) lines) in
    let old = string_bytes c.loop-line.text in
    let new : string_bytes c.add_line.new.text ≡ old ++ text cells =
    c.in_ok-add_line.ensures ∙ (λ i. old ++ line_text c.args.left (λ k. get_or (c.as_slice.ensures.value i) k 0) (map string_bytes (c.as_slice-in-loop-line.ensures.value i))) in
    ap (λ l. l ++ rest) new
    ∙ append_assoc old (text cells) rest
    ∙ ap (λ l. old ++ flat_map text l) (sym (lines_at c.args.lines.now at line c.loop-line-test.true c.line-item.is))
    ∙ c.loop-line.invariant

pub returns : goal.returns
returns c =
    let lines = lines_of c.args.lines.now in
    let text = line_text c.args.left (λ (k : ℕ). get_or c.in_ok-widths.widths.items k 0) in
    let ended = c.loop-line-test.false in
    let size = length-map c.args.lines.now (λ l. map string_bytes l.items) in
    let none : drop c.loop-line.line-index lines ≡ [] = drop_all c.loop-line.line-index lines (omega (arith, ended, size)) in
    sym (append-nil (string_bytes c.loop-line.text))
    ∙ ap (λ l. string_bytes c.loop-line.text ++ flat_map text l) (sym none)
    ∙ c.loop-line.invariant
    ∙ (λ i. string_bytes c.args.text.now ++ flat_map (line_text c.args.left (λ k. c.in_ok-widths.ensures k i)) lines)
