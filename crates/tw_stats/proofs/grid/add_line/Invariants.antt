-- what is written and what is still to come are the line
use Rattle.std.proofs.Common.{◌≡◌, ◌++◌, codes, drop, get_or, map, nat_lt, string_bytes}
use Rattle.std.specs.List.{join_by}
use Rattle.tw_stats.proofs.Joining.{joined_from}
use Rattle.tw_stats.specs.Grids.{cells_from}
use Rattle.tw_stats.proofs.grid.add_line.Given as goal

abbrev pub invariant-loop-column : goal.invariant-loop-column
invariant-loop-column l =
    string_bytes l.text ++ joined_from (codes "  ") (nat_lt 0 l.column) (cells_from l.left (λ k. get_or l.widths k 0) l.column (drop l.column (map string_bytes l.line)))
    ≡ string_bytes l.fn.text ++ join_by (λ t. t) (codes "  ") (cells_from l.left (λ k. get_or l.widths k 0) 0 (map string_bytes l.line))
