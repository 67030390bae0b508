use Rattle.std.proofs.Common.{rules, ◌++◌, ◌∙◌, ap, codes, flat_map, map, string_bytes}
use Rattle.tw_stats.specs.Json.{counts_members, figure_json, observation_json}
use Rattle.tw_stats.specs.Rows.{told_figure, told_observation}
use Rattle.tw_stats.specs.Strings.{behind_comma, quoted, with_commas}
use Rattle.tw_stats.proofs.Joining.{Adds, adds_both}
use Rattle.tw_stats.proofs.Objects.{row_object}
use Rattle.tw_stats.proofs.json.add_row.Goals as goal

pub returns : goal.returns
returns c =
    let figures = with_commas (map (figure_json c.args.ticks) (map told_figure c.args.row.now.figures.items)) in
    let observations = with_commas (map observation_json (map told_observation c.args.row.now.observations.items)) in
    let first : Adds (string_bytes c.args.text.now) (string_bytes c.push_str.new.self) (codes "{\"name\":") = record { is = c.in_ok-push_str.ensures.bytes } in
    let second : Adds (string_bytes c.push_str.new.self) (string_bytes c.add_string.new.text) (quoted c.args.row.now.name.now) = record { is = c.in_ok-add_string.ensures } in
    let third : Adds (string_bytes c.add_string.new.text) (string_bytes c.push_str-2.new.self) (codes ",\"model\":") = record { is = c.in_ok-push_str-2.ensures.bytes } in
    let fourth : Adds (string_bytes c.push_str-2.new.self) (string_bytes c.add_string-2.new.text) (quoted c.args.row.now.model.now) = record { is = c.in_ok-add_string-2.ensures } in
    let fifth : Adds (string_bytes c.add_string-2.new.text) (string_bytes c.add_counts.new.text) (flat_map behind_comma (counts_members c.args.row.now.counts)) = record { is = c.in_ok-add_counts.ensures } in
    let sixth : Adds (string_bytes c.add_counts.new.text) (string_bytes c.push_str-3.new.self) (codes ",\"figures\":[") = record { is = c.in_ok-push_str-3.ensures.bytes } in
    let seventh : Adds (string_bytes c.push_str-3.new.self) (string_bytes c.add_figures.new.text) (figures) = record { is = search rules } in
    let eighth : Adds (string_bytes c.add_figures.new.text) (string_bytes c.push_str-4.new.self) (codes "],\"observations\":[") = record { is = c.in_ok-push_str-4.ensures.bytes } in
    let ninth : Adds (string_bytes c.push_str-4.new.self) (string_bytes c.add_observations.new.text) (observations) = record { is = search rules } in
    let tenth : Adds (string_bytes c.add_observations.new.text) (string_bytes c.push_str-5.new.self) (codes "]}") = record { is = c.in_ok-push_str-5.ensures.bytes } in
    (adds_both first (adds_both second (adds_both third (adds_both fourth (adds_both fifth (adds_both sixth (adds_both seventh (adds_both eighth (adds_both ninth tenth))))))))).is
    ∙ ap (λ l. string_bytes c.args.text.now ++ l) (row_object (quoted c.args.row.now.name.now) (quoted c.args.row.now.model.now) figures observations (counts_members c.args.row.now.counts))
