use Rattle.std.proofs.Common.{◌≡◌, ◌++◌, drop, map}
use Rattle.tw_stats.specs.Grids.{lines_of}
use Rattle.tw_stats.specs.Rows.{told_observation}
use Rattle.tw_stats.specs.Texts.{observation_line}
use Rattle.tw_stats.proofs.text.add_observation_lines.Given as goal

abbrev pub invariant-loop-observation : goal.invariant-loop-observation
invariant-loop-observation l =
    lines_of l.lines.items ++ map (observation_line l.name) (map told_observation (drop l.observation-index l.observations))
    ≡ lines_of l.fn.lines.items ++ map (observation_line l.name) (map told_observation l.observations)
