use Rattle.std.proofs.Common.{◌≡◌, ◌∙◌, ◌++◌, ◌∷◌, ◌+◌, [], ℕ, List, ap, append-nil, drop, subst, sym, take}
use Rattle.std.proofs.lemmas.List.{take_more, take_all, take-append-drop}
use Rattle.std.proofs.lemmas.Result.{on_ok_weaker}
use Rattle.std.specs.Prelude.{Bool, Option, map}
use Rattle.tw_figures.specs.declared.seeing.Rows.{Rows}
use Rattle.tw_msgs.specs.declared.record.Record.{Record}
use Rattle.tw_record_lines.specs.Fields.{Field, field}
use Rattle.tw_record_lines.specs.Tables.{head_text, listed, rows_text, table_text}
use Rattle.tw_texts.proofs.Portions.{appends_nothing, nothing_yet}
use Rattle.tw_texts.specs.Texts.{Gathered}
use Rattle.tw_texts.specs.Traces.{AppendsBeginning, MovesBytes}
use Rattle.tw_record_lines.proofs.Written.{moved_begins, moved_whole, moves_on, table_listed_more}
use Rattle.tw_record_lines.proofs.made.write_table_of.Goals as goal

pub loop-record-init : goal.loop-record-init
loop-record-init g c = record {
  names = c.new-lines.ensures.names;
  kinds = c.new-lines.ensures.rows;
  fields = c.new-lines.ensures.fields;
  shows = c.new-lines.ensures.shown;
  first = c.new-lines.ensures.from;
  written = ([], appends_nothing _, ap (λ (l : Gathered). l.text) c.new-lines.ensures.lines ∙ c.in-Ok.ensures ∙ sym (append-nil (head_text c.args.table.now.rows (map field c.args.table.now.fields.now))));
}

-- what is written so far is a beginning of the whole table
begun : (rows : Rows) (fields : List Field) (name_of : ℕ → List ℕ) (shown : List Bool) (from : ℕ) (all : List Record) (k : ℕ) (kept : List ℕ) (old new : Option (List ℕ))
    → MovesBytes old new (table_text rows fields name_of (listed shown from (take k all))) kept → AppendsBeginning old new (table_text rows fields name_of (listed shown from all))
begun rows fields name_of shown from all k kept old new written =
    moved_begins _ _ (table_text rows fields name_of (listed shown from (take k all))) (rows_text rows fields name_of (listed shown from (drop k all))) kept _ written
    (table_listed_more rows fields name_of shown from (take k all) (drop k all) ∙ ap (λ rs. table_text rows fields name_of (listed shown from rs)) (take-append-drop k all))

pub returns-in_default-clause-err : goal.returns-in_default-clause-err
returns-in_default-clause-err g c _ = nothing_yet _ _

pub returns-in_default-take_record-clause-err : goal.returns-in_default-take_record-clause-err
returns-in_default-take_record-clause-err g c _ = begun _ _ _ _ _ c.args.records.now c.loop-record.record-index _ _ _ c.loop-record.invariant.written

pub loop-record-preserved : goal.loop-record-preserved
loop-record-preserved g c =
    let inv = c.loop-record.invariant in
    let t = c.args.table.now in
    let name_of = g.N.Names.name_of t.names.now in
    let at = c.loop-record.record-index in
    let all = c.args.records.now in
    let one : take (at + 1) all ≡ take at all ++ c.record-item.result ∷ [] =
    take_more all at c.record-item.result c.loop-record-test.true ∙ ap (λ r. take at all ++ r ∷ []) (sym c.record-item.is) in
    let taken = c.in-Ok-take_record.ensures in
    let added = rows_text t.rows (map field t.fields.now) name_of (listed t.shown.now t.from (c.record-item.result ∷ [])) in
    let grown : c.take_record.new.self.lines.text ≡ c.loop-record.lines.lines.text ++ added =
    taken.lines ∙ (λ i. c.loop-record.lines.lines.text ++ rows_text (inv.kinds i) (map field (inv.fields i)) (g.N.Names.name_of (inv.names i)) (listed (inv.shows i) (inv.first i) (c.record-item.result ∷ []))) in
    record {
      names = taken.names ∙ inv.names;
      kinds = taken.rows ∙ inv.kinds;
      fields = taken.fields ∙ inv.fields;
      shows = taken.shown ∙ inv.shows;
      first = taken.from ∙ inv.first;
      written = subst (λ l. MovesBytes (g.W.Write.contents c.args.out.now) (g.W.Write.contents c.write_portion.new.out) l c.write_portion.new.self.text)
          (table_listed_more t.rows (map field t.fields.now) name_of t.shown.now t.from (take at all) (c.record-item.result ∷ []) ∙ ap (λ rs. table_text t.rows (map field t.fields.now) name_of (listed t.shown.now t.from rs)) (sym one))
          (moves_on _ _ _ (table_text t.rows (map field t.fields.now) name_of (listed t.shown.now t.from (take at all))) added c.loop-record.lines.lines.text c.take_record.new.self.lines.text c.write_portion.new.self.text
          inv.written grown c.in_ok-write_portion.ensures.ok);
    }

pub returns-clause-ok : goal.returns-clause-ok
returns-clause-ok g c =
    let inv = c.loop-record.invariant in
    let t = c.args.table.now in
    let name_of = g.N.Names.name_of t.names.now in
    on_ok_weaker c.write_out.result
    (moved_whole _ _ _ (table_text t.rows (map field t.fields.now) name_of (listed t.shown.now t.from (take c.loop-record.record-index c.args.records.now))) [] c.loop-record.lines.lines.text c.loop-record.lines.lines.text _ inv.written
    (sym (append-nil c.loop-record.lines.lines.text))
    (append-nil _ ∙ ap (λ rs. table_text t.rows (map field t.fields.now) name_of (listed t.shown.now t.from rs)) (take_all c.loop-record.record-index c.args.records.now c.loop-record-test.false))) c.write_out.ensures.ok
