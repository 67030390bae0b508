-- what is written and what is still to come are the components
use Rattle.std.proofs.Common.{◌≡◌, ◌++◌, codes, drop, map, nat_lt, string_bytes}
use Rattle.tw_stats.specs.Json.{row_json}
use Rattle.tw_stats.specs.Rows.{row}
use Rattle.tw_stats.specs.Strings.{with_commas}
use Rattle.tw_stats.proofs.Joining.{joined_from}
use Rattle.tw_stats.proofs.json.add_rows.Given as goal

abbrev pub invariant-loop-place : goal.invariant-loop-place
invariant-loop-place l =
    string_bytes l.text ++ joined_from (codes ",") (nat_lt 0 l.place) (map (row_json l.ticks) (map row (drop l.place l.rows)))
    ≡ string_bytes l.fn.text ++ with_commas (map (row_json l.ticks) (map row l.rows))
