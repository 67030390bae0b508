use Rattle.std.proofs.Common.{rules, ◌++◌, ◌∙◌, ap, codes, decimal, string_bytes}
use Rattle.tw_stats.specs.Strings.{behind_comma, member, quoted}
use Rattle.tw_texts.specs.Texts.{limit_text}
use Rattle.tw_vtime.specs.Stamps.{micro_of, tick_of}
use Rattle.tw_stats.proofs.Joining.{Adds, adds_both}
use Rattle.tw_stats.proofs.Objects.{fault_object}
use Rattle.tw_stats.proofs.json.add_fault.Goals as goal

pub returns : goal.returns
returns c =
    let first : Adds (string_bytes c.args.text.now) (string_bytes c.push_str.new.self) (codes ",\"fault\":{\"component\":") = record { is = c.in_ok-push_str.ensures.bytes } in
    let second : Adds (string_bytes c.push_str.new.self) (string_bytes c.add_string.new.text) (quoted c.args.name.now) = record { is = c.in_ok-add_string.ensures } in
    let third : Adds (string_bytes c.add_string.new.text) (string_bytes c.add_count.new.text) (behind_comma (member (codes "tick") (decimal (tick_of c.args.at)))) = record { is = search (rules, c.in_ok-add_count.ensures) } in
    let fourth : Adds (string_bytes c.add_count.new.text) (string_bytes c.add_count-2.new.text) (behind_comma (member (codes "microstep") (decimal (micro_of c.args.at)))) = record { is = c.in_ok-add_count-2.ensures ∙ ap (λ n. string_bytes c.add_count.new.text ++ behind_comma (member (codes "microstep") (decimal n))) (c.from.ensures ∙ c.micro.ensures.micro) } in
    let fifth : Adds (string_bytes c.add_count-2.new.text) (string_bytes c.push_str-2.new.self) (codes ",\"limit\":") = record { is = c.in_ok-push_str-2.ensures.bytes } in
    let sixth : Adds (string_bytes c.push_str-2.new.self) (string_bytes c.add_string-2.new.text) (quoted (limit_text c.args.limit)) = record { is = c.in_ok-add_string-2.ensures ∙ ap (λ n. string_bytes c.push_str-2.new.self ++ quoted n) c.limit_name.ensures } in
    let seventh : Adds (string_bytes c.add_string-2.new.text) (string_bytes c.push_str-3.new.self) (codes "}") = record { is = c.in_ok-push_str-3.ensures.bytes } in
    (adds_both first (adds_both second (adds_both third (adds_both fourth (adds_both fifth (adds_both sixth seventh)))))).is
    ∙ ap (λ l. string_bytes c.args.text.now ++ l) (fault_object (quoted c.args.name.now) (member (codes "tick") (decimal (tick_of c.args.at))) (member (codes "microstep") (decimal (micro_of c.args.at))) (quoted (limit_text c.args.limit)))
