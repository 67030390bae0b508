-- Round by round.
use Rattle.std.proofs.Common.{◌≡◌, ◌++◌, ◌∙◌, List, [], sym, ap, subst, append_assoc, append-nil, map}
use Rattle.std.proofs.lemmas.Result.{on_ok_weaker}
use Rattle.tw_msgs.specs.declared.record.Record.{Record}
use Rattle.tw_network.specs.Contents.{network_of}
use Rattle.tw_rounds.specs.Stepping.{IsAdvanced}
use Rattle.tw_rounds.proofs.Parted.{part_begins}
use Rattle.tw_record_lines.specs.Fields.{field}
use Rattle.tw_record_lines.specs.Tables.{head_text, listed, rows_text, table_text}
use Rattle.tw_texts.proofs.Portions.{appends_nothing, nothing_yet}
use Rattle.tw_texts.specs.Texts.{Gathered}
use Rattle.tw_texts.specs.Traces.{AppendsBeginning, MovesBytes}
use Rattle.tw_theory.specs.Simulator.{sequential}
use Rattle.tw_record_lines.proofs.Written.{tabulated, moved_begins, moved_whole, moves_on, rows_listed_more, table_listed_more}
use Rattle.tw_record_lines.proofs.table.write_table.Goals as goal
use Rattle.tw_record_lines.proofs.table.write_table.Goals.{After-advance_telling}

pub returns-in_default-clause-err : goal.returns-in_default-clause-err
returns-in_default-clause-err g c _ = nothing_yet _ _

pub returns-in_default-head_of-clause-err : goal.returns-in_default-head_of-clause-err
returns-in_default-head_of-clause-err g c _ = nothing_yet _ _

pub loop-step-init : goal.loop-step-init
loop-step-init g c = record {
  done = [];
  so_far = c.in-Ok.ensures.begun;
  until = c.in-Ok.ensures.until;
  names = c.new-outputs.ensures.names;
  names' = c.new-transitions.ensures.names;
  kinds = c.new-outputs.ensures.rows;
  kinds' = c.new-transitions.ensures.rows;
  fields = c.new-outputs.ensures.fields;
  fields' = c.new-transitions.ensures.fields;
  shows = c.new-outputs.ensures.shown;
  shows' = c.new-transitions.ensures.shown;
  first = c.new-outputs.ensures.from;
  first' = c.new-transitions.ensures.from;
  none = ap (λ (l : Gathered). l.text) c.new-transitions.ensures.lines ∙ c.new.ensures;
  written = ([], appends_nothing _, ap (λ (l : Gathered). l.text) c.new-outputs.ensures.lines ∙ c.in-Ok-head_of.ensures ∙ sym (append-nil (head_text c.args.table.now.rows (map field c.args.table.now.fields.now))));
}

pub advance_telling-requires : goal.advance_telling-requires
advance_telling-requires g c = (c.loop-step.invariant.done, c.loop-step.invariant.so_far)

-- what is written so far is a beginning of all lines
begun : (g : _) (c : After-advance_telling g) → AppendsBeginning (g.W.Write.contents c.args.out.now) (g.W.Write.contents c.loop-step.out) (table_text c.args.table.now.rows (map field c.args.table.now.fields.now) (g.N.Names.name_of c.args.table.now.names.now) (listed c.args.table.now.shown.now c.args.table.now.from (sequential (network_of g.M.Atomic.meaning c.args.network.now) c.args.until).records))
begun g c =
    let inv = c.loop-step.invariant in
    let net = network_of g.M.Atomic.meaning c.args.network.now in
    let name_of = g.N.Names.name_of c.args.table.now.names.now in
    let more = subst (λ u. (more : List Record) × (inv.done ++ more ≡ (sequential net u).records)) inv.until
    (part_begins g.M.Atomic.valid g.M.Atomic.meaning c.args.network.now c.loop-step.simulation.until inv.done c.loop-step.simulation.run inv.so_far.part) in
    moved_begins _ _ (table_text c.args.table.now.rows (map field c.args.table.now.fields.now) name_of (listed c.args.table.now.shown.now c.args.table.now.from inv.done)) (rows_text c.args.table.now.rows (map field c.args.table.now.fields.now) name_of (listed c.args.table.now.shown.now c.args.table.now.from more.0)) c.loop-step.outputs.lines.text _ inv.written
    (table_listed_more c.args.table.now.rows (map field c.args.table.now.fields.now) name_of c.args.table.now.shown.now c.args.table.now.from inv.done more.0 ∙ ap (λ rs. table_text c.args.table.now.rows (map field c.args.table.now.fields.now) name_of (listed c.args.table.now.shown.now c.args.table.now.from rs)) more.1)

pub returns-in_default-advance_telling-clause-err : goal.returns-in_default-advance_telling-clause-err
returns-in_default-advance_telling-clause-err g c _ = begun g (goal.at.returns-in_default-advance_telling-clause-err g c).After-advance_telling

pub returns-in_default-append-clause-err : goal.returns-in_default-append-clause-err
returns-in_default-append-clause-err g c _ = begun g (goal.at.returns-in_default-append-clause-err g c).After-advance_telling

pub returns-in-End-clause-ok : goal.returns-in-End-clause-ok
returns-in-End-clause-ok g c =
    let inv = c.loop-step.invariant in
    let net = network_of g.M.Atomic.meaning c.args.network.now in
    let name_of = g.N.Names.name_of c.args.table.now.names.now in
    let last = subst (IsAdvanced _ g.M.Atomic.valid g.M.Atomic.meaning c.args.network.now c.loop-step.simulation c.advance_telling.new.simulation c.loop-step.outputs c.advance_telling.new.outputs c.loop-step.transitions c.advance_telling.new.transitions) c.in-End.is c.in-Ok-advance_telling.ensures.step in
    let got = tabulated (λ v. v.names.now) (λ v. v.rows) (λ v. v.fields.now) (λ v. v.shown.now) (λ v. v.from) (λ v. v.lines.text) g.N.Names.name_of c.loop-step.outputs last.outs c.advance_telling.new.outputs last.outputs in
    let grown : c.advance_telling.new.outputs.lines.text ≡ c.loop-step.outputs.lines.text ++ rows_text c.args.table.now.rows (map field c.args.table.now.fields.now) name_of (listed c.args.table.now.shown.now c.args.table.now.from last.outs) =
    got.5 ∙ (λ i. c.loop-step.outputs.lines.text ++ rows_text (inv.kinds i) (map field (inv.fields i)) (g.N.Names.name_of (inv.names i)) (listed (inv.shows i) (inv.first i) last.outs)) in
    let all = (last.all inv.done inv.so_far).records ∙ ap (λ u. (sequential net u).records) inv.until in
    on_ok_weaker c.write_out.result
    (moved_whole _ _ _ (table_text c.args.table.now.rows (map field c.args.table.now.fields.now) name_of (listed c.args.table.now.shown.now c.args.table.now.from inv.done)) (rows_text c.args.table.now.rows (map field c.args.table.now.fields.now) name_of (listed c.args.table.now.shown.now c.args.table.now.from last.outs)) c.loop-step.outputs.lines.text c.advance_telling.new.outputs.lines.text _ inv.written grown
    (table_listed_more c.args.table.now.rows (map field c.args.table.now.fields.now) name_of c.args.table.now.shown.now c.args.table.now.from inv.done last.outs ∙ ap (λ rs. table_text c.args.table.now.rows (map field c.args.table.now.fields.now) name_of (listed c.args.table.now.shown.now c.args.table.now.from rs)) all)) c.write_out.ensures.ok

pub loop-step-preserved : goal.loop-step-preserved
loop-step-preserved g c =
    let inv = c.loop-step.invariant in
    let name_of = g.N.Names.name_of c.args.table.now.names.now in
    let made = subst (IsAdvanced _ g.M.Atomic.valid g.M.Atomic.meaning c.args.network.now c.loop-step.simulation c.advance_telling.new.simulation c.loop-step.outputs c.advance_telling.new.outputs c.loop-step.transitions c.advance_telling.new.transitions) c.in-Round.is c.in-Ok-advance_telling.ensures.step in
    let outs = tabulated (λ v. v.names.now) (λ v. v.rows) (λ v. v.fields.now) (λ v. v.shown.now) (λ v. v.from) (λ v. v.lines.text) g.N.Names.name_of c.loop-step.outputs made.outs c.advance_telling.new.outputs made.outputs in
    let turns = tabulated (λ v. v.names.now) (λ v. v.rows) (λ v. v.fields.now) (λ v. v.shown.now) (λ v. v.from) (λ v. v.lines.text) g.N.Names.name_of c.loop-step.transitions made.turns c.advance_telling.new.transitions made.transitions in
    let first : c.advance_telling.new.outputs.lines.text ≡ c.loop-step.outputs.lines.text ++ rows_text c.args.table.now.rows (map field c.args.table.now.fields.now) name_of (listed c.args.table.now.shown.now c.args.table.now.from made.outs) =
    outs.5 ∙ (λ i. c.loop-step.outputs.lines.text ++ rows_text (inv.kinds i) (map field (inv.fields i)) (g.N.Names.name_of (inv.names i)) (listed (inv.shows i) (inv.first i) made.outs)) in
    let second : c.advance_telling.new.transitions.lines.text ≡ rows_text c.args.table.now.rows (map field c.args.table.now.fields.now) name_of (listed c.args.table.now.shown.now c.args.table.now.from made.turns) =
    turns.5 ∙ (λ i. inv.none i ++ rows_text (inv.kinds' i) (map field (inv.fields' i)) (g.N.Names.name_of (inv.names' i)) (listed (inv.shows' i) (inv.first' i) made.turns)) in
    let grown : c.append.new.self.text ≡ c.loop-step.outputs.lines.text ++ rows_text c.args.table.now.rows (map field c.args.table.now.fields.now) name_of (listed c.args.table.now.shown.now c.args.table.now.from (made.outs ++ made.turns)) =
    c.in-Ok-append.ensures.appended ∙ (λ i. first i ++ second i)
    ∙ append_assoc c.loop-step.outputs.lines.text (rows_text c.args.table.now.rows (map field c.args.table.now.fields.now) name_of (listed c.args.table.now.shown.now c.args.table.now.from made.outs)) (rows_text c.args.table.now.rows (map field c.args.table.now.fields.now) name_of (listed c.args.table.now.shown.now c.args.table.now.from made.turns))
    ∙ ap (λ l. c.loop-step.outputs.lines.text ++ l) (sym (rows_listed_more c.args.table.now.rows (map field c.args.table.now.fields.now) name_of c.args.table.now.shown.now c.args.table.now.from made.outs made.turns)) in
    record {
      done = inv.done ++ (made.outs ++ made.turns);
      so_far = made.on inv.done inv.so_far;
      until = c.in-Ok-advance_telling.ensures.until ∙ inv.until;
      names = outs.0 ∙ inv.names;
      names' = turns.0 ∙ inv.names';
      kinds = outs.1 ∙ inv.kinds;
      kinds' = turns.1 ∙ inv.kinds';
      fields = outs.2 ∙ inv.fields;
      fields' = turns.2 ∙ inv.fields';
      shows = outs.3 ∙ inv.shows;
      shows' = turns.3 ∙ inv.shows';
      first = outs.4 ∙ inv.first;
      first' = turns.4 ∙ inv.first';
      none = c.in-Ok-append.ensures.emptied;
      written = subst (λ l. MovesBytes (g.W.Write.contents c.args.out.now) (g.W.Write.contents c.write_portion.new.out) l c.write_portion.new.self.text)
          (table_listed_more c.args.table.now.rows (map field c.args.table.now.fields.now) name_of c.args.table.now.shown.now c.args.table.now.from inv.done (made.outs ++ made.turns))
          (moves_on _ _ _ (table_text c.args.table.now.rows (map field c.args.table.now.fields.now) name_of (listed c.args.table.now.shown.now c.args.table.now.from inv.done)) (rows_text c.args.table.now.rows (map field c.args.table.now.fields.now) name_of (listed c.args.table.now.shown.now c.args.table.now.from (made.outs ++ made.turns))) c.loop-step.outputs.lines.text c.append.new.self.text c.write_portion.new.self.text
          inv.written grown c.in_ok-write_portion-in-Round.ensures.ok);
    }
