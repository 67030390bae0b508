use Rattle.std.proofs.Common.{◌≡◌, ◌++◌, ◌∷◌, drop, flat_map, map}
use Rattle.tw_stats.specs.Grids.{lines_of}
use Rattle.tw_stats.specs.Rows.{row}
use Rattle.tw_stats.specs.Texts.{figures_head, figure_lines}
use Rattle.tw_stats.proofs.text.figures_lines.Given as goal

abbrev pub invariant-loop-row : goal.invariant-loop-row
invariant-loop-row l = lines_of l.lines.items ++ flat_map figure_lines (map row (drop l.row-index l.rows)) ≡ figures_head ∷ flat_map figure_lines (map row l.rows)
