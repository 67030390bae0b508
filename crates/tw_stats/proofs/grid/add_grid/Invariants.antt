-- what is written and what is still to come are the lines
use Rattle.std.proofs.Common.{◌≡◌, ◌++◌, drop, flat_map, get_or, string_bytes}
use Rattle.tw_stats.specs.Grids.{line_text, lines_of}
use Rattle.tw_stats.proofs.grid.add_grid.Given as goal

abbrev pub invariant-loop-line : goal.invariant-loop-line
invariant-loop-line l =
    string_bytes l.text ++ flat_map (line_text l.left (λ k. get_or l.widths.items k 0)) (drop l.line-index (lines_of l.lines))
    ≡ string_bytes l.fn.text ++ flat_map (line_text l.left (λ k. get_or l.widths.items k 0)) (lines_of l.lines)
