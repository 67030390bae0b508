-- what is written and what is still to come are the observations
use Rattle.std.proofs.Common.{◌≡◌, ◌++◌, codes, drop, map, nat_lt, string_bytes}
use Rattle.tw_stats.specs.Json.{observation_json}
use Rattle.tw_stats.specs.Rows.{told_observation}
use Rattle.tw_stats.specs.Strings.{with_commas}
use Rattle.tw_stats.proofs.Joining.{joined_from}
use Rattle.tw_stats.proofs.json.add_observations.Given as goal

abbrev pub invariant-loop-place : goal.invariant-loop-place
invariant-loop-place l =
    string_bytes l.text ++ joined_from (codes ",") (nat_lt 0 l.place) (map observation_json (map told_observation (drop l.place l.observations)))
    ≡ string_bytes l.fn.text ++ with_commas (map observation_json (map told_observation l.observations))
