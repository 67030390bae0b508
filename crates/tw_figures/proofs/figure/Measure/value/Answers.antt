use Rattle.std.proofs.Common.{◌≡◌, ◌∙◌, pos, rules, ap, sym}
use Rattle.std.specs.Int.{w128}
use Rattle.std.specs.Prelude.{FitsSigned, unwrap_or}
use Rattle.std.proofs.lemmas.Int.{to_z-of_z}
use Rattle.std.proofs.lemmas.Option.{unwrap_or-slice_get}
use Rattle.tw_figures.specs.Figures.{value_of}
use Rattle.tw_figures.proofs.figure.Measure.value.Goals as goal

pub returns-in-Word : goal.returns-in-Word
returns-in-Word c =
    let fits : FitsSigned w128 c.unwrap_or.result = search rules in
    let is : c.unwrap_or.result ≡ unwrap_or c.get.result (pos 0) = c.unwrap_or.ensures in
    rw (to_z-of_z w128 c.unwrap_or.result fits)
    (is ∙ ap (λ o. unwrap_or o (pos 0)) c.get.ensures
    ∙ unwrap_or-slice_get c.args.words.now c.in-Word.place (pos 0) ∙ ap (λ m. value_of m c.args.words.now) (sym c.in-Word.is))
