-- what is written and what is still to come are the figures
use Rattle.std.proofs.Common.{◌≡◌, ◌++◌, codes, drop, map, nat_lt, string_bytes}
use Rattle.tw_stats.specs.Json.{figure_json}
use Rattle.tw_stats.specs.Rows.{told_figure}
use Rattle.tw_stats.specs.Strings.{with_commas}
use Rattle.tw_stats.proofs.Joining.{joined_from}
use Rattle.tw_stats.proofs.json.add_figures.Given as goal

abbrev pub invariant-loop-place : goal.invariant-loop-place
invariant-loop-place l =
    string_bytes l.text ++ joined_from (codes ",") (nat_lt 0 l.place) (map (figure_json l.ticks) (map told_figure (drop l.place l.figures)))
    ≡ string_bytes l.fn.text ++ with_commas (map (figure_json l.ticks) (map told_figure l.figures))
