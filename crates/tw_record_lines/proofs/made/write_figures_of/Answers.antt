use Rattle.std.proofs.Common.{◌≡◌, ◌∙◌, ◌++◌, ◌∷◌, ◌+◌, [], ℕ, ℤ, List, ap, append-nil, append_assoc, drop, string_bytes, subst, sym, take}
use Rattle.std.proofs.lemmas.List.{take_more, take_all, take-append-drop}
use Rattle.std.proofs.lemmas.Result.{on_ok_weaker}
use Rattle.std.specs.Prelude.{Option}
use Rattle.tw_figures.specs.Figures.{IsSteady}
use Rattle.tw_figures.specs.Gathered.{start_words}
use Rattle.tw_msgs.specs.declared.record.Record.{Record}
use Rattle.tw_network.specs.Contents.{network_of}
use Rattle.tw_texts.proofs.Portions.{appends_nothing, nothing_yet}
use Rattle.tw_texts.specs.Traces.{AppendsBeginning, MovesBytes}
use Rattle.tw_record_lines.specs.FigureTables.{FigureTable, figures_head, figures_text, table_of}
use Rattle.tw_record_lines.specs.Gathering.{FiguresStand, rows_at, rows_behind, rows_due}
use Rattle.tw_record_lines.proofs.Opening.{behind_more, completed}
use Rattle.tw_record_lines.proofs.Written.{moved_begins, moved_whole, moves_on}
use Rattle.tw_record_lines.proofs.made.write_figures_of.Goals as goal

pub loop-record-init : goal.loop-record-init
loop-record-init g c = record {
  stand = c.in-Ok.ensures.stand;
  written = ([], appends_nothing _, c.in-Ok.ensures.text ∙ sym (append-nil figures_head));
}

-- what is written so far is a beginning of the whole table
begun : (t : FigureTable) (starts : List (List ℤ)) (all : List Record) (k : ℕ) (kept : List ℕ) (old new : Option (List ℕ)) → IsSteady all
    → MovesBytes old new (figures_head ++ rows_behind t starts [] (take k all)) kept → AppendsBeginning old new (figures_text t starts all)
begun t starts all k kept old new steady written =
    moved_begins _ _ (figures_head ++ rows_behind t starts [] (take k all)) (rows_behind t starts (take k all) (drop k all) ++ rows_due t starts all) kept _ written
    (completed t starts (take k all) (drop k all) all (take-append-drop k all) steady)

pub returns-in_default-clause-err : goal.returns-in_default-clause-err
returns-in_default-clause-err g c _ = nothing_yet _ _

pub returns-in_default-take-clause-err : goal.returns-in_default-take-clause-err
returns-in_default-take-clause-err g c _ = begun (table_of (g.N.Names.name_of c.args.table.now.names.now) c.args.table.now.labels.now c.args.table.now.shown.now c.args.table.now.from) (start_words (network_of g.M.Atomic.meaning c.args.network.now)) c.args.records.now c.loop-record.record-index (string_bytes c.loop-record.lines.text) _ _ c.requires c.loop-record.invariant.written

pub returns-in_default-open-clause-err : goal.returns-in_default-open-clause-err
returns-in_default-open-clause-err g c _ = begun (table_of (g.N.Names.name_of c.args.table.now.names.now) c.args.table.now.labels.now c.args.table.now.shown.now c.args.table.now.from) (start_words (network_of g.M.Atomic.meaning c.args.network.now)) c.args.records.now c.loop-record.record-index (string_bytes c.loop-record.lines.text) _ _ c.requires c.loop-record.invariant.written

pub loop-record-preserved : goal.loop-record-preserved
loop-record-preserved g c =
    let inv = c.loop-record.invariant in
    let starts = start_words (network_of g.M.Atomic.meaning c.args.network.now) in
    let t = table_of (g.N.Names.name_of c.args.table.now.names.now) c.args.table.now.labels.now c.args.table.now.shown.now c.args.table.now.from in
    let at = c.loop-record.record-index in
    let all = c.args.records.now in
    let r = c.record-item.result in
    let one : take (at + 1) all ≡ take at all ++ r ∷ [] = take_more all at r c.loop-record-test.true ∙ ap (λ x. take at all ++ x ∷ []) (sym c.record-item.is) in
    let stands = subst (λ l. FiguresStand t starts l c.take.new.self) (sym one) (c.in-Ok-take.ensures.stand starts (take at all) inv.stand) in
    let grown = c.in-Ok-take.ensures.text starts (take at all) inv.stand in
    let behind : rows_behind t starts [] (take at all) ++ rows_at t starts (take at all) r ≡ rows_behind t starts [] (take (at + 1) all) =
    ap (λ l. rows_behind t starts [] (take at all) ++ l) (sym (append-nil (rows_at t starts (take at all) r))) ∙ sym (behind_more t starts [] (take at all) (r ∷ [])) ∙ ap (rows_behind t starts []) (sym one) in
    record {
      stand = record { values = stands.values; opened = stands.opened };
      written = subst (λ l. MovesBytes (g.W.Write.contents c.args.out.now) (g.W.Write.contents c.write_portion.new.out) l (string_bytes c.write_portion.new.text))
          (append_assoc figures_head (rows_behind t starts [] (take at all)) (rows_at t starts (take at all) r) ∙ ap (λ l. figures_head ++ l) behind)
          (moves_on _ _ _ (figures_head ++ rows_behind t starts [] (take at all)) (rows_at t starts (take at all) r) (string_bytes c.loop-record.lines.text) (string_bytes c.take.new.self.text) (string_bytes c.write_portion.new.text)
          inv.written grown c.in_ok-write_portion.ensures.ok);
    }

pub returns-clause-ok : goal.returns-clause-ok
returns-clause-ok g c =
    let inv = c.loop-record.invariant in
    let starts = start_words (network_of g.M.Atomic.meaning c.args.network.now) in
    let t = table_of (g.N.Names.name_of c.args.table.now.names.now) c.args.table.now.labels.now c.args.table.now.shown.now c.args.table.now.from in
    let all = c.args.records.now in
    let done = take c.loop-record.record-index all in
    let whole : done ≡ all = take_all c.loop-record.record-index all c.loop-record-test.false in
    on_ok_weaker c.write_out.result
    (moved_whole _ _ _ (figures_head ++ rows_behind t starts [] done) (rows_due t starts all) (string_bytes c.loop-record.lines.text) (string_bytes c.«open».new.self.text) _ inv.written
    (c.in-Ok-open.ensures.text starts done inv.stand ∙ ap (λ l. string_bytes c.loop-record.lines.text ++ rows_due t starts l) whole)
    (completed t starts done [] all (append-nil done ∙ whole) c.requires)) c.write_out.ensures.ok
