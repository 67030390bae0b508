use Rattle.std.proofs.Common.{◌≢◌, ◌++◌, ◌∷◌, ◌∙◌, ap, arith, codes, flat_map, length, map, string_bytes, sym}
use Rattle.std.proofs.lemmas.List.{length-map}
use Rattle.tw_stats.specs.Grids.{grid_text, lines_of}
use Rattle.tw_stats.specs.Rows.{row}
use Rattle.tw_stats.specs.Texts.{observation_lines, observations_head}
use Rattle.tw_stats.proofs.Joining.{Adds, adds_both}
use Rattle.tw_stats.proofs.Thirds.{some_third}
use Rattle.tw_stats.proofs.text.add_observations.Goals as goal

pub returns : goal.returns
returns c =
    let lines = flat_map observation_lines (map row c.args.rows.now) in
    let all = c.in_ok-lines.lines.items in
    let size = ap length c.in_ok-lines.ensures in
    let mapped = length-map all (λ line. map string_bytes line.items) in
    let many : length (observations_head ∷ lines) ≢ 1 = omega (arith, size, mapped, c.len.ensures, c.if-len-eq1.false, c.in_ok-lines.lines.ok.0) in
    let first : Adds (string_bytes c.args.text.now) (string_bytes c.push_str.new.self) (codes "\n") = record { is = c.in_ok-push_str.ensures.bytes } in
    let second : Adds (string_bytes c.push_str.new.self) (string_bytes c.add_grid.new.text) (grid_text 2 (observations_head ∷ lines)) =
    record { is = c.in_ok-add_grid.ensures ∙ ap (λ l. string_bytes c.push_str.new.self ++ grid_text 2 l) (ap lines_of c.as_slice.ensures.value ∙ c.in_ok-lines.ensures) } in
    (adds_both first second).is ∙ ap (λ l. string_bytes c.args.text.now ++ l) (sym (some_third lines many))
