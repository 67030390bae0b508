use Rattle.std.proofs.Common.{◌≡◌, ◌++◌, ◌∷◌, drop, map}
use Rattle.tw_stats.specs.Grids.{lines_of}
use Rattle.tw_stats.specs.Rows.{row}
use Rattle.tw_stats.specs.Texts.{counts_head, counts_line}
use Rattle.tw_stats.proofs.text.counts_lines.Given as goal

abbrev pub invariant-loop-row : goal.invariant-loop-row
invariant-loop-row l = lines_of l.lines.items ++ map counts_line (map row (drop l.row-index l.rows)) ≡ counts_head ∷ map counts_line (map row l.rows)
