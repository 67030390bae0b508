use Rattle.std.proofs.Common.{◌≡◌, ℕ, get_or, take}
use Rattle.tw_stats.specs.Grids.{lines_of, width}
use Rattle.tw_stats.proofs.grid.widths_of.Given as goal

abbrev pub invariant-loop-line : goal.invariant-loop-line
invariant-loop-line l = (k : ℕ) → get_or l.widths.items k 0 ≡ width (lines_of (take l.line-index l.lines)) k
