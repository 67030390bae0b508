-- The parts one after another.
use Rattle.std.proofs.Common.{◌++◌, ◌∷◌, ◌∙◌, ap, codes, flat_map, map, string_bytes}
use Rattle.tw_stats.specs.Grids.{grid_text, lines_of}
use Rattle.tw_stats.specs.Rows.{row}
use Rattle.tw_stats.specs.Texts.{counts_head, counts_line, figure_lines, figures_head, first_line, observation_lines, observations_text}
use Rattle.tw_stats.proofs.Joining.{Adds, adds_both}
use Rattle.tw_stats.proofs.text.add_text.Goals as goal

pub returns : goal.returns
returns c =
    let rows = map row c.args.rows.now in
    let counts = grid_text 2 (counts_head ∷ map counts_line rows) in
    let figures = grid_text 2 (figures_head ∷ flat_map figure_lines rows) in
    let first : Adds (string_bytes c.args.text.now) (string_bytes c.add_first_line.new.text) (first_line c.args.report.now) = record { is = c.in_ok-add_first_line.ensures } in
    let second : Adds (string_bytes c.add_first_line.new.text) (string_bytes c.push_str.new.self) (codes "\n") = record { is = c.in_ok-push_str.ensures.bytes } in
    let third : Adds (string_bytes c.push_str.new.self) (string_bytes c.add_grid.new.text) counts =
    record { is = c.in_ok-add_grid.ensures ∙ ap (λ l. string_bytes c.push_str.new.self ++ grid_text 2 l) (ap lines_of c.as_slice.ensures.value ∙ c.in_ok-counts.ensures) } in
    let fourth : Adds (string_bytes c.add_grid.new.text) (string_bytes c.push_str-2.new.self) (codes "\n") = record { is = c.in_ok-push_str-2.ensures.bytes } in
    let fifth : Adds (string_bytes c.push_str-2.new.self) (string_bytes c.add_grid-2.new.text) figures =
    record { is = c.in_ok-add_grid-2.ensures ∙ ap (λ l. string_bytes c.push_str-2.new.self ++ grid_text 2 l) (ap lines_of c.as_slice-2.ensures.value ∙ c.in_ok-figures.ensures) } in
    let sixth : Adds (string_bytes c.add_grid-2.new.text) (string_bytes c.add_observations.new.text) (observations_text (flat_map observation_lines rows)) = record { is = c.in_ok-add_observations.ensures } in
    (adds_both (adds_both (adds_both (adds_both (adds_both first second) third) fourth) fifth) sixth).is
