use Rattle.std.proofs.Common.{rules, ◌++◌, ◌∷◌, ◌∙◌, [], ap, codes, flat_map, option_map, pos, string_bytes}
use Rattle.std.specs.Fmt.{signed_decimal}
use Rattle.std.specs.Option.{option_map_or}
use Rattle.tw_stats.specs.Decimals.{thousandths_text}
use Rattle.tw_stats.specs.Strings.{behind_comma, member, quoted}
use Rattle.tw_stats.proofs.Joining.{Adds, adds_both, adds_nothing}
use Rattle.tw_stats.proofs.Objects.{named_object}
use Rattle.tw_stats.proofs.json.add_observation.Goals as goal

pub returns : goal.returns
returns c =
    let told = c.args.told in
    let mean = option_map_or thousandths_text told.mean (codes "null") in
    let deviation = option_map_or thousandths_text (option_map pos told.deviation) (codes "null") in
    let first : Adds (string_bytes c.args.text.now) (string_bytes c.push_str.new.self) (codes "{\"name\":") = record { is = c.in_ok-push_str.ensures.bytes } in
    let second : Adds (string_bytes c.push_str.new.self) (string_bytes c.add_string.new.text) (quoted c.args.name.now) = record { is = c.in_ok-add_string.ensures } in
    let third : Adds (string_bytes c.add_string.new.text) (string_bytes c.add_value.new.text) (behind_comma (member (codes "count") (signed_decimal told.count))) = record { is = search (rules, c.in_ok-add_value.ensures) } in
    let fourth : Adds (string_bytes c.add_value.new.text) (string_bytes c.add_value-2.new.text) (behind_comma (member (codes "sum") (signed_decimal told.sum))) = record { is = search (rules, c.in_ok-add_value-2.ensures) } in
    let fifth : Adds (string_bytes c.add_value-2.new.text) (string_bytes c.add_optional.new.text) (behind_comma (member (codes "mean") mean)) = record { is = search (rules, c.in_ok-add_optional.ensures) } in
    let sixth : Adds (string_bytes c.add_optional.new.text) (string_bytes c.add_optional-2.new.text) (behind_comma (member (codes "sd") deviation)) = record { is = search (rules, c.in_ok-add_optional-2.ensures) } in
    let seventh : Adds (string_bytes c.add_optional-2.new.text) (string_bytes c.push_str-2.new.self) (codes "}") = record { is = c.in_ok-push_str-2.ensures.bytes } in
    let members =
    member (codes "count") (signed_decimal told.count)
    ∷ member (codes "sum") (signed_decimal told.sum)
    ∷ member (codes "mean") mean
    ∷ member (codes "sd") deviation
    ∷ [] in
    let all : Adds (string_bytes c.add_string.new.text) (string_bytes c.add_optional-2.new.text) (flat_map behind_comma members) =
    adds_both third (adds_both fourth (adds_both fifth (adds_both sixth (adds_nothing _)))) in
    (adds_both first (adds_both second (adds_both all seventh))).is ∙ ap (λ l. string_bytes c.args.text.now ++ l) (named_object (quoted c.args.name.now) members)
