-- One record more.
use Rattle.std.proofs.Common.{◌∙◌, ◌++◌, [], ℤ, Vec, Global, ap, append_assoc, cond, map, string_bytes, sym}
use Rattle.std.specs.Prelude.{◌||◌, nat_le}
use Rattle.std.proofs.lemmas.Result.{on_ok_weaker}
use Rattle.tw_record_lines.specs.FigureTables.{table_of}
use Rattle.tw_record_lines.specs.Gathering.{is_from, rows_due, rows_of_turn, turned_values}
use Rattle.tw_record_lines.proofs.Changing.{turned_all, turned_rows}
use Rattle.tw_record_lines.proofs.Opening.{opened_more, or_none}
use Rattle.tw_record_lines.proofs.figure_lines.FigureLines.take.Goals as goal

pub returns-clause-stand : goal.returns-clause-stand
returns-clause-stand g c starts front stand =
    let t = table_of (g.N.Names.name_of c.args.table.now.names.now) c.args.table.now.labels.now c.args.table.now.shown.now c.args.table.now.from in
    let r = c.args.step.now in
    let seen = λ (v : Vec ℤ Global). v.items in
    let told = ap (nat_le t.from) c.tick.ensures in
    on_ok_weaker c.turn.result
    (λ values. record {
      values = values ∙ ap (λ vs. turned_values t r (map seen vs.items)) c.open_where.ensures.values ∙ ap (turned_values t r) stand.values ∙ turned_all t starts front r;
      opened = c.turn.ensures.opened ∙ c.in_ok-open_where.ensures.opened ∙ (λ i. stand.opened i || (told ∙ or_none (is_from t r)) i) ∙ sym (opened_more t front r);
    }) c.turn.ensures.values

pub returns-clause-text : goal.returns-clause-text
returns-clause-text g c starts front stand =
    let t = table_of (g.N.Names.name_of c.args.table.now.names.now) c.args.table.now.labels.now c.args.table.now.shown.now c.args.table.now.from in
    let r = c.args.step.now in
    let seen = λ (v : Vec ℤ Global). v.items in
    let told = ap (nat_le t.from) c.tick.ensures in
    let old = string_bytes c.args.self.now.text in
    let kept = ap (λ vs. map seen vs.items) c.open_where.ensures.values ∙ stand.values in
    on_ok_weaker c.turn.result
    (λ text. text
    ∙ (λ i. (c.in_ok-open_where.ensures.text starts front stand ∙ ap (λ b. old ++ cond b (rows_due t starts front) []) told) i ++ rows_of_turn t r (told i) (kept i))
    ∙ append_assoc old (cond (is_from t r) (rows_due t starts front) []) _
    ∙ ap (λ l. old ++ (cond (is_from t r) (rows_due t starts front) [] ++ l)) (turned_rows t starts front r)) c.turn.ensures.text
