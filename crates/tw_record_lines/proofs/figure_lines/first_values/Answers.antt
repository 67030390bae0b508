-- One component more.
use Rattle.std.proofs.Common.{◌≡◌, ◌∙◌, ◌++◌, ◌+◌, ◌∷◌, [], ℤ, Vec, Global, ap, arith, length, map, sym, take}
use Rattle.std.proofs.lemmas.List.{length-map, length-take, map-append}
use Rattle.std.proofs.lemmas.Option.{slice_get_within}
use Rattle.tw_figures.specs.Gathered.{start_words}
use Rattle.tw_figures.proofs.Starting.{starts_more}
use Rattle.tw_network.specs.Contents.{network_of}
use Rattle.tw_record_lines.specs.FigureRows.{values_in}
use Rattle.tw_record_lines.specs.FigureTables.{table_of, values_at}
use Rattle.tw_record_lines.specs.Gathering.{all_values}
use Rattle.tw_record_lines.proofs.Changing.{all_one_more}
use Rattle.tw_record_lines.proofs.figure_lines.first_values.Goals as goal

pub loop-component-preserved : goal.loop-component-preserved
loop-component-preserved g c =
    let t = table_of (g.N.Names.name_of c.args.table.now.names.now) c.args.table.now.labels.now c.args.table.now.shown.now c.args.table.now.from in
    let starts = start_words (network_of g.M.Atomic.meaning c.args.network.now) in
    let at = c.loop-component.component in
    let means = g.M.Atomic.meaning c.model.result.now in
    let start = means.words means.start in
    let seen = λ (v : Vec ℤ Global). v.items in
    let within = slice_get_within c.args.network.now.models at c.model.result.now c.model.ensures in
    let many : length starts ≡ length c.args.network.now.models = length-map (network_of g.M.Atomic.meaning c.args.network.now).models (λ m. m.words m.start) ∙ length-map c.args.network.now.models g.M.Atomic.meaning in
    let place : at ≡ 0 + length (take at starts) = (let l = length-take at starts in omega (arith, l, within, many)) in
    ap (map seen) c.in_ok-push.ensures.items
    ∙ map-append seen c.loop-component.values.items (c.in_ok-values_of.field-0 ∷ [])
    ∙ (λ i. c.loop-component.invariant i ++ (c.in_ok-values_of.ensures ∙ (λ j. values_in (c.figures_in-figures.ensures j) (c.in_ok-words.ensures j)) ∙ ap (λ d. values_at t d start []) place) i ∷ [])
    ∙ sym (all_one_more t 0 (take at starts) start [])
    ∙ ap (λ l. all_values t 0 l []) (starts_more g.M.Atomic.meaning c.args.network.now at c.model.result.now c.model.ensures)
