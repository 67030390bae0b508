use Rattle.std.proofs.Common.{rules, ◌++◌, ◌∷◌, ◌∙◌, [], ap, codes, decimal, flat_map, string_bytes}
use Rattle.std.specs.Fmt.{signed_decimal}
use Rattle.tw_stats.specs.Decimals.{thousandths_text}
use Rattle.tw_stats.specs.Strings.{array_text, behind_comma, member, quoted}
use Rattle.tw_stats.proofs.Joining.{Adds, adds_both, adds_nothing}
use Rattle.tw_stats.proofs.Objects.{named_object}
use Rattle.tw_stats.proofs.json.add_figure.Goals as goal

pub returns : goal.returns
returns c =
    let told = c.args.told in
    let first : Adds (string_bytes c.args.text.now) (string_bytes c.push_str.new.self) (codes "{\"name\":") = record { is = c.in_ok-push_str.ensures.bytes } in
    let second : Adds (string_bytes c.push_str.new.self) (string_bytes c.add_string.new.text) (quoted c.args.name.now) = record { is = c.in_ok-add_string.ensures } in
    let third : Adds (string_bytes c.add_string.new.text) (string_bytes c.add_value.new.text) (behind_comma (member (codes "least") (signed_decimal told.least))) = record { is = search (rules, c.in_ok-add_value.ensures) } in
    let fourth : Adds (string_bytes c.add_value.new.text) (string_bytes c.add_value-2.new.text) (behind_comma (member (codes "greatest") (signed_decimal told.greatest))) = record { is = search (rules, c.in_ok-add_value-2.ensures) } in
    let fifth : Adds (string_bytes c.add_value-2.new.text) (string_bytes c.add_value-3.new.text) (behind_comma (member (codes "last") (signed_decimal told.last))) = record { is = search (rules, c.in_ok-add_value-3.ensures) } in
    let sixth : Adds (string_bytes c.add_value-3.new.text) (string_bytes c.add_decimals.new.text) (behind_comma (member (codes "mean") (thousandths_text told.mean))) = record { is = search (rules, c.in_ok-add_decimals.ensures) } in
    let seventh : Adds (string_bytes c.add_decimals.new.text) (string_bytes c.add_decimals-2.new.text) (behind_comma (member (codes "busy") (thousandths_text told.busy))) = record { is = search (rules, c.in_ok-add_decimals-2.ensures) } in
    let eighth : Adds (string_bytes c.add_decimals-2.new.text) (string_bytes c.add_sum.new.text) (behind_comma (member (codes "mean_of") (array_text (signed_decimal told.sums.sum ∷ decimal c.args.ticks ∷ [])))) = record { is = search (rules, c.in_ok-add_sum.ensures) } in
    let ninth : Adds (string_bytes c.add_sum.new.text) (string_bytes c.add_part.new.text) (behind_comma (member (codes "busy_of") (array_text (decimal told.sums.busy ∷ decimal c.args.ticks ∷ [])))) = record { is = c.in_ok-add_part.ensures } in
    let tenth : Adds (string_bytes c.add_part.new.text) (string_bytes c.push_str-2.new.self) (codes "}") = record { is = c.in_ok-push_str-2.ensures.bytes } in
    let members =
    member (codes "least") (signed_decimal told.least)
    ∷ member (codes "greatest") (signed_decimal told.greatest)
    ∷ member (codes "last") (signed_decimal told.last)
    ∷ member (codes "mean") (thousandths_text told.mean)
    ∷ member (codes "busy") (thousandths_text told.busy)
    ∷ member (codes "mean_of") (array_text (signed_decimal told.sums.sum ∷ decimal c.args.ticks ∷ []))
    ∷ member (codes "busy_of") (array_text (decimal told.sums.busy ∷ decimal c.args.ticks ∷ []))
    ∷ [] in
    let all : Adds (string_bytes c.add_string.new.text) (string_bytes c.add_part.new.text) (flat_map behind_comma members) =
    adds_both third (adds_both fourth (adds_both fifth (adds_both sixth (adds_both seventh (adds_both eighth (adds_both ninth (adds_nothing _))))))) in
    (adds_both first (adds_both second (adds_both all tenth))).is ∙ ap (λ l. string_bytes c.args.text.now ++ l) (named_object (quoted c.args.name.now) members)
