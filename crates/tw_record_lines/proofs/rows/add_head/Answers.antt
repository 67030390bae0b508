use Rattle.std.proofs.Common.{◌≡◌, ◌∙◌, ◌++◌, List, ap, append_assoc, codes, map, sym, ℕ}
use Rattle.std.proofs.lemmas.Result.{on_ok_weaker}
use Rattle.tw_record_lines.specs.Fields.{field, field_heads}
use Rattle.tw_record_lines.specs.Tables.{head_text}
use Rattle.tw_record_lines.proofs.rows.add_head.Goals as goal

together : (old first names end : List ℕ) → ((old ++ first) ++ names) ++ end ≡ old ++ (first ++ (names ++ end))
together old first names end = simp append_assoc

pub returns-in_ok-add_names-in-Items : goal.returns-in_ok-add_names-in-Items
returns-in_ok-add_names-in-Items c =
    let old = c.args.lines.now.text in
    let fields = map field c.args.fields.now in
    let named = c.in_ok-add_names-in-Items.ensures ∙ ap (λ l. l ++ field_heads fields) c.in_ok-add_line-in-Items.ensures.added in
    on_ok_weaker c.add_line-in-Items-2.result
    (λ is. is ∙ ap (λ l. l ++ codes "\n") named ∙ together old (codes "tick,microstep,component,kind,port,value") (field_heads fields) (codes "\n")
    ∙ ap (λ rows. old ++ head_text rows fields) (sym c.in-Items.is))
    c.add_line-in-Items-2.ensures.added

pub returns-in-Words : goal.returns-in-Words
returns-in-Words c =
    on_ok_weaker c.add_line-in-Words.result
    (λ is. is ∙ ap (λ rows. c.args.lines.now.text ++ head_text rows (map field c.args.fields.now)) (sym c.in-Words.is))
    c.add_line-in-Words.ensures.added
