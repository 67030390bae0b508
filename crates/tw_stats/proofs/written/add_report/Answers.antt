use Rattle.std.proofs.Common.{◌++◌, ◌∙◌, ap, map, string_bytes, sym}
use Rattle.std.proofs.lemmas.Result.{on_ok_weaker}
use Rattle.tw_stats.specs.Rows.{row}
use Rattle.tw_stats.specs.Written.{rows_bytes}
use Rattle.tw_stats.proofs.written.add_report.Goals as goal

pub returns-then-json : goal.returns-then-json
returns-then-json g c =
    on_ok_weaker c.add_json.result
    (λ is. is ∙ ap (λ b. string_bytes c.args.text.now ++ rows_bytes b (g.N.Names.name_of c.args.names.now) (map row c.args.rows.now) c.args.report.now) (sym c.if-json.true)) c.add_json.ensures

pub returns-else-json : goal.returns-else-json
returns-else-json g c =
    on_ok_weaker c.add_text.result
    (λ is. is ∙ ap (λ b. string_bytes c.args.text.now ++ rows_bytes b (g.N.Names.name_of c.args.names.now) (map row c.args.rows.now) c.args.report.now) (sym c.if-json.false)) c.add_text.ensures
