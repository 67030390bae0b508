use Rattle.std.proofs.Common.{◌≡◌, ◌++◌, drop, map}
use Rattle.tw_stats.specs.Grids.{lines_of}
use Rattle.tw_stats.specs.Rows.{told_figure}
use Rattle.tw_stats.specs.Texts.{figure_line}
use Rattle.tw_stats.proofs.text.add_figure_lines.Given as goal

abbrev pub invariant-loop-figure : goal.invariant-loop-figure
invariant-loop-figure l =
    lines_of l.lines.items ++ map (figure_line l.name) (map told_figure (drop l.figure-index l.figures))
    ≡ lines_of l.fn.lines.items ++ map (figure_line l.name) (map told_figure l.figures)
