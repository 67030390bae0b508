use Rattle.std.proofs.Common.{◌≡◌, ◌++◌, drop, map, string_bytes}
use Rattle.tw_stats.proofs.text.head.Given as goal

abbrev pub invariant-loop-cell : goal.invariant-loop-cell
invariant-loop-cell l = map string_bytes l.line.items ++ map (λ cell. cell.now) (drop l.cell-index l.cells) ≡ map (λ cell. cell.now) l.cells
