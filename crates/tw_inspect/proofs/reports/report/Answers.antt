use Rattle.std.proofs.Common.{◌∙◌, ◌+◌, ℕ, List, sym, append-nil, string_bytes}
use Rattle.tw_inspect.specs.Reports.{component_line, gvt_line, lines_below, shown_at, text_if}
use Rattle.tw_inspect.proofs.Lines.{lines_more}
use Rattle.tw_inspect.proofs.Parts.{first_of_all, one_line_more}
use Rattle.tw_inspect.proofs.reports.report.Goals as goal

pub loop-component-init : goal.loop-component-init
loop-component-init g c =
    first_of_all _ _ _ c.new-text.ensures.bytes c.in_ok-add_gvt.ensures ∙ sym (append-nil (gvt_line c.args.executive.now.world))

pub loop-component-preserved : goal.loop-component-preserved
loop-component-preserved g c =
    let e = c.args.executive.now in
    let meaning = g.M.Atomic.meaning in
    let n = c.loop-component.component in
    let line : ℕ → List ℕ = λ k. text_if component_line (shown_at meaning e k) in
    one_line_more (gvt_line e.world) (lines_below meaning e n) (lines_below meaning e (n + 1)) (line n) (string_bytes c.loop-component.text) (string_bytes c.add_line.new.text)
    c.loop-component.invariant c.in_ok-add_line.ensures (lines_more line n)
