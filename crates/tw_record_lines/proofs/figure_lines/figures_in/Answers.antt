use Rattle.std.proofs.Common.{◌≡◌, ◌∙◌, [], ap, map, sym}
use Rattle.std.specs.Prelude.{true}
use Rattle.std.proofs.lemmas.Bool.{cond-true}
use Rattle.tw_figures.specs.Labelled.{figure}
use Rattle.tw_figures.specs.Shown.{is_shown}
use Rattle.tw_record_lines.proofs.Valued.{figures_at}
use Rattle.tw_record_lines.proofs.figure_lines.figures_in.Goals as goal

pub returns-in-Some : goal.returns-in-Some
returns-in-Some c =
    let seen : is_shown c.args.shown.now c.args.component ≡ true = sym c.is_shown.ensures ∙ c.if-not-is_shown.false in
    ap (map figure) c.as_slice.ensures.value
    ∙ figures_at c.args.labels.now c.args.component c.in-Some.label.now c.in-Some.ensures.lookup.3.0 c.in-Some.ensures.lookup.1
    ∙ sym (cond-true (is_shown c.args.shown.now c.args.component) _ [] seen)
