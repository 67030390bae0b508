use Rattle.std.proofs.Common.{ℕ, List, subst}
use Rattle.std.specs.Prelude.{Bool}
use Rattle.serde_json.specs.View.{view}
use Rattle.tw_engine.proofs.Viewed.{of_figures, of_rows}
use Rattle.tw_engine.specs.Views.{IsTabulatedOf, columns_said, tabulation_of}
use Rattle.tw_figure_names.specs.Said.{labels_said}
use Rattle.tw_engine.proofs.job_table.tabulate_file.Goals as goal

pub returns-in-OfRun : goal.returns-in-OfRun
returns-in-OfRun g c =
    let n = c.args.file.now.network in
    let t = tabulation_of c.args.asked.now.tabulation.now in
    let labels = labels_said (view c.args.file.now.value) n.models in
    let old = g.W.Write.contents c.args.out.now in
    let new = g.W.Write.contents c.tabulate.new.out in
    subst (λ (table : List Bool → List ℕ). IsTabulatedOf n table t c.tabulate.result old new) (of_rows n (columns_said (view c.args.file.now.value)) labels t c.in-OfRun.rows c.in-OfRun.is) c.tabulate.ensures

pub returns-in-OfFigures : goal.returns-in-OfFigures
returns-in-OfFigures g c =
    let n = c.args.file.now.network in
    let t = tabulation_of c.args.asked.now.tabulation.now in
    let labels = labels_said (view c.args.file.now.value) n.models in
    let old = g.W.Write.contents c.args.out.now in
    let new = g.W.Write.contents c.tabulate_figures.new.out in
    subst (λ (table : List Bool → List ℕ). IsTabulatedOf n table t c.tabulate_figures.result old new) (of_figures n (columns_said (view c.args.file.now.value)) labels t c.in-OfFigures.is) c.tabulate_figures.ensures
