-- They do not stand there yet.
use Rattle.std.proofs.Common.{◌≡◌, ◌∙◌, ◌++◌, [], ℤ, Vec, Global, ap, map, sym, string_bytes, false}
use Rattle.std.proofs.lemmas.Bool.{cond-false}
use Rattle.tw_record_lines.specs.FigureTables.{all_rows, table_of}
use Rattle.tw_record_lines.specs.Gathering.{is_opened, rows_with}
use Rattle.tw_record_lines.proofs.Changing.{rows_are}
use Rattle.tw_record_lines.proofs.figure_lines.FigureLines.open.Goals as goal

pub returns-clause-text : goal.returns-clause-text
returns-clause-text g c starts front stand =
    let t = table_of (g.N.Names.name_of c.args.table.now.names.now) c.args.table.now.labels.now c.args.table.now.shown.now c.args.table.now.from in
    let seen = λ (v : Vec ℤ Global). v.items in
    let old = string_bytes c.args.self.now.text in
    let none : is_opened t front ≡ false = sym stand.opened ∙ c.if-self.false in
    c.in_ok-add_all.ensures
    ∙ ap (λ l. old ++ rows_with t 0 (map seen l)) c.as_slice.ensures.value
    ∙ ap (λ l. old ++ rows_with t 0 l) stand.values
    ∙ ap (λ l. old ++ l) (rows_are t 0 starts front ∙ sym (cond-false (is_opened t front) [] (all_rows t 0 starts front) none))
