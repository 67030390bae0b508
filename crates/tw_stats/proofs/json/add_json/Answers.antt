use Rattle.std.proofs.Common.{◌++◌, ◌∙◌, ap, codes, decimal, flat_map, map, string_bytes}
use Rattle.tw_stats.specs.Json.{fault_members, row_json, time_members}
use Rattle.tw_stats.specs.Rows.{row}
use Rattle.tw_stats.specs.Strings.{behind_comma, member, with_commas}
use Rattle.tw_stats.proofs.Joining.{Adds, adds_both}
use Rattle.tw_stats.proofs.Objects.{report_object}
use Rattle.tw_stats.proofs.json.add_json.Goals as goal

pub returns : goal.returns
returns g c =
    let report = c.args.report.now in
    let times = with_commas (time_members report.from report.until) in
    let records = member (codes "records") (decimal report.records) in
    let microsteps = member (codes "microsteps") (decimal report.microsteps) in
    let rows = with_commas (map (row_json report.ticks) (map row c.args.rows.now)) in
    let faults = fault_members (g.N.Names.name_of c.args.names.now) report.fault in
    let first : Adds (string_bytes c.args.text.now) (string_bytes c.add_first.new.text) (codes "{" ++ times) = record { is = c.in_ok-add_first.ensures } in
    let second : Adds (string_bytes c.add_first.new.text) (string_bytes c.add_count.new.text) (behind_comma records) = record { is = c.in_ok-add_count.ensures } in
    let third : Adds (string_bytes c.add_count.new.text) (string_bytes c.add_count-2.new.text) (behind_comma microsteps) = record { is = c.in_ok-add_count-2.ensures } in
    let fourth : Adds (string_bytes c.add_count-2.new.text) (string_bytes c.push_str.new.self) (codes ",\"components\":[") = record { is = c.in_ok-push_str.ensures.bytes } in
    let fifth : Adds (string_bytes c.push_str.new.self) (string_bytes c.add_rows.new.text) rows = record { is = c.in_ok-add_rows.ensures } in
    let sixth : Adds (string_bytes c.add_rows.new.text) (string_bytes c.push_str-2.new.self) (codes "]") = record { is = c.in_ok-push_str-2.ensures.bytes } in
    let seventh : Adds (string_bytes c.push_str-2.new.self) (string_bytes c.add_end.new.text) (flat_map behind_comma faults) = record { is = c.in_ok-add_end.ensures } in
    let eighth : Adds (string_bytes c.add_end.new.text) (string_bytes c.push_str-3.new.self) (codes "}\n") = record { is = c.in_ok-push_str-3.ensures.bytes } in
    (adds_both first (adds_both second (adds_both third (adds_both fourth (adds_both fifth (adds_both sixth (adds_both seventh eighth))))))).is
    ∙ ap (λ l. string_bytes c.args.text.now ++ l) (report_object report.from report.until records microsteps rows faults)
