use Rattle.std.proofs.Common.{rules, codes, string_bytes}
use Rattle.tw_stats.specs.Decimals.{thousandths_text}
use Rattle.tw_stats.proofs.Joining.{Adds, adds_both}
use Rattle.tw_stats.proofs.json.add_decimals.Goals as goal

pub returns : goal.returns
returns c =
    let first : Adds (string_bytes c.args.text.now) (string_bytes c.push_str.new.self) (codes ",\"") = record { is = c.in_ok-push_str.ensures.bytes } in
    let second : Adds (string_bytes c.push_str.new.self) (string_bytes c.push_str-2.new.self) (c.args.name.now) = record { is = c.in_ok-push_str-2.ensures.bytes } in
    let third : Adds (string_bytes c.push_str-2.new.self) (string_bytes c.push_str-3.new.self) (codes "\":") = record { is = c.in_ok-push_str-3.ensures.bytes } in
    let fourth : Adds (string_bytes c.push_str-3.new.self) (string_bytes c.add_thousandths.new.text) (thousandths_text c.args.number) = record { is = search rules } in
    (adds_both first (adds_both second (adds_both third fourth))).is
