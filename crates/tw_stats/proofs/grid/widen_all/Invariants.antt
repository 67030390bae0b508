use Rattle.std.proofs.Common.{◌≡◌, ◌≤◌, [], ℕ, get_or, length, map, max, nat_lt, string_bytes, if◌then◌else◌}
use Rattle.tw_stats.specs.Grids.{letters}
use Rattle.tw_stats.proofs.grid.widen_all.Given as goal

abbrev pub invariant-loop-column : goal.invariant-loop-column
invariant-loop-column l = record {
  far : l.column ≤ length l.widths.items;
  each : (k : ℕ) → get_or l.widths.items k 0 ≡ (if nat_lt k l.column then max (get_or l.fn.widths.items k 0) (letters (get_or (map string_bytes l.line) k [])) else get_or l.fn.widths.items k 0);
}
