-- The component is there.
use Rattle.std.proofs.Common.{◌≡◌, ◌∙◌, ℤ, Vec, Global, ap, arith, length, map, sym}
use Rattle.std.specs.Prelude.{nat_lt, slice_set}
use Rattle.std.proofs.lemmas.Bool.{cond-true, lt-ltb}
use Rattle.std.proofs.lemmas.List.{length-map}
use Rattle.tw_record_lines.specs.FigureRows.{values_in}
use Rattle.tw_record_lines.specs.FigureTables.{figures_of, table_of}
use Rattle.tw_record_lines.proofs.Changing.{set_seen}
use Rattle.tw_record_lines.proofs.figure_lines.FigureLines.change.Goals as goal

pub returns-clause-values : goal.returns-clause-values
returns-clause-values g c =
    let t = table_of (g.N.Names.name_of c.args.table.now.names.now) c.args.table.now.labels.now c.args.table.now.shown.now c.args.table.now.from in
    let seen = λ (v : Vec ℤ Global). v.items in
    let at = c.args.step.now.component in
    let old = map seen c.args.self.now.values.items in
    let new = slice_set old at (values_in (figures_of t at) c.args.step.now.words) in
    let many : length old ≡ length c.args.self.now.values.items = length-map c.args.self.now.values.items seen in
    set_seen seen c.tell.new.self.values.items at c.in_ok-self.field-0
    ∙ (λ i. slice_set (map seen (c.tell.ensures.values i).items) at ((c.in_ok-self.ensures ∙ ap (λ fs. values_in fs c.args.step.now.words) c.figures_in-figures.ensures) i))
    ∙ sym (cond-true (nat_lt at (length old)) new old (lt-ltb at (length old) (omega (arith, many, c.if-component-len.false, c.len.ensures))))
