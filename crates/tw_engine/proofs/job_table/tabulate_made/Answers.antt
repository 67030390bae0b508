use Rattle.std.proofs.Common.{ℕ, List, subst}
use Rattle.std.specs.Prelude.{Bool}
use Rattle.serde_json.specs.View.{view}
use Rattle.tw_engine.proofs.Viewed.{of_figures, of_rows}
use Rattle.tw_engine.specs.Views.{IsTabulatedOf, columns_said, tabulation_of}
use Rattle.tw_figure_names.specs.Said.{labels_said}
use Rattle.tw_engine.proofs.job_table.tabulate_made.Goals as goal

pub returns-in-OfRun : goal.returns-in-OfRun
returns-in-OfRun g c =
    let n = c.args.made.now.network.now in
    let t = tabulation_of c.args.asked.now.tabulation.now in
    let labels = labels_said (view c.args.made.now.value.now) n.models in
    let old = g.W.Write.contents c.args.out.now in
    let new = g.W.Write.contents c.tabulate_made_rows.new.out in
    subst (λ (table : List Bool → List ℕ). IsTabulatedOf n table t c.tabulate_made_rows.result old new) (of_rows n (columns_said (view c.args.made.now.value.now)) labels t c.in-OfRun.rows c.in-OfRun.is) c.tabulate_made_rows.ensures

pub returns-in-OfFigures : goal.returns-in-OfFigures
returns-in-OfFigures g c =
    let n = c.args.made.now.network.now in
    let t = tabulation_of c.args.asked.now.tabulation.now in
    let labels = labels_said (view c.args.made.now.value.now) n.models in
    let old = g.W.Write.contents c.args.out.now in
    let new = g.W.Write.contents c.tabulate_made_figures.new.out in
    subst (λ (table : List Bool → List ℕ). IsTabulatedOf n table t c.tabulate_made_figures.result old new) (of_figures n (columns_said (view c.args.made.now.value.now)) labels t c.in-OfFigures.is) c.tabulate_made_figures.ensures
