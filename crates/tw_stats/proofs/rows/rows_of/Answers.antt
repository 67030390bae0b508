-- One component more; at the end the pairs are those of both lists.
use Rattle.std.proofs.Common.{rules, ◌≡◌, ◌∙◌, ◌+◌, ◌++◌, ◌∷◌, [], length, map, ap, sym, arith}
use Rattle.std.proofs.lemmas.Iterator.{YieldsList-from_slice, YieldsList-from_zip}
use Rattle.std.proofs.lemmas.Iterator.Consumers.{YieldsList-end}
use Rattle.std.proofs.lemmas.List.{length-map, map-append}
use Rattle.std.proofs.Common.{Bor}
use Rattle.tw_figures.specs.Labelled.{Label, label}
use Rattle.tw_figures.specs.declared.labels.Labels.{Labels}
use Rattle.tw_stats.specs.Rows.{row, row_of, rows_from}
use Rattle.tw_stats.specs.declared.report.Part.{Part}
use Rattle.tw_stats.proofs.Paired.{rows_length, rows_more, zip_seen}
use Rattle.tw_stats.proofs.rows.rows_of.Goals as goal

pub loop-label-preserved : goal.loop-label-preserved
loop-label-preserved g c =
    let name_of = g.N.Names.name_of c.args.names.now in
    let seen : Labels × Part → Label × Part = λ q. (label q.0, q.1) in
    let now : Bor Labels × Bor Part → Labels × Part = λ p. (p.0.now, p.1.now) in
    let before = map seen (map now c.loop-label.yielded) in
    let one : Label × Part = (label c.in-Some.label.now, c.in-Some.part.now) in
    let rows = c.loop-label.rows.items in
    let many : length rows ≡ length before = sym (length-map rows row) ∙ ap length c.loop-label.invariant ∙ rows_length name_of 0 before in
    let long : c.len.result ≡ length rows = search rules in
    let none : length before ≡ 0 + length before = omega arith in
    let this : row c.in_ok-row_of.field-0 ≡ row_of (name_of (0 + length before)) one.0 one.1 =
    c.in_ok-row_of.ensures ∙ (λ i. row_of (c.name-name.ensures i) one.0 one.1) ∙ ap (λ n. row_of (name_of n) one.0 one.1) (long ∙ many ∙ none) in
    ap (map row) c.in_ok-push.ensures.items
    ∙ map-append row rows (c.in_ok-row_of.field-0 ∷ [])
    ∙ (λ i. c.loop-label.invariant i ++ this i ∷ [])
    ∙ sym (rows_more name_of 0 before one)
    ∙ ap (rows_from name_of 0) (sym (ap (map seen) (map-append now c.loop-label.yielded ((c.in-Some.label, c.in-Some.part) ∷ [])) ∙ map-append seen (map now c.loop-label.yielded) ((c.in-Some.label.now, c.in-Some.part.now) ∷ [])))

pub returns : goal.returns
returns g c =
    let both = YieldsList-from_zip (YieldsList-from_slice c.args.labels.now cc) (YieldsList-from_slice c.args.report.now.parts.items cc) in
    let end = YieldsList-end both c.loop-label.yielded _ c.loop-label.yielded_by _ c.next.new.self c.in-None.is c.next.ensures.steps in
    c.loop-label.invariant
    ∙ ap (λ l. rows_from (g.N.Names.name_of c.args.names.now) 0 (map (λ (q : Labels × Part). (label q.0, q.1)) l)) end.0
    ∙ ap (rows_from (g.N.Names.name_of c.args.names.now) 0) (zip_seen label c.args.labels.now c.args.report.now.parts.items)
