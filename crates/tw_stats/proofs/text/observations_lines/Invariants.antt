use Rattle.std.proofs.Common.{◌≡◌, ◌++◌, ◌∷◌, drop, flat_map, map}
use Rattle.tw_stats.specs.Grids.{lines_of}
use Rattle.tw_stats.specs.Rows.{row}
use Rattle.tw_stats.specs.Texts.{observation_lines, observations_head}
use Rattle.tw_stats.proofs.text.observations_lines.Given as goal

abbrev pub invariant-loop-row : goal.invariant-loop-row
invariant-loop-row l = lines_of l.lines.items ++ flat_map observation_lines (map row (drop l.row-index l.rows)) ≡ observations_head ∷ flat_map observation_lines (map row l.rows)
