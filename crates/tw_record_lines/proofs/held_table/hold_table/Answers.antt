-- Round by round.
use Rattle.std.proofs.Common.{◌≡◌, ◌++◌, ◌∙◌, [], sym, ap, subst, append_assoc, append-nil, map}
use Rattle.tw_network.specs.Contents.{network_of}
use Rattle.tw_rounds.specs.Stepping.{IsAdvanced}
use Rattle.tw_record_lines.specs.Fields.{field}
use Rattle.tw_record_lines.specs.Tables.{head_text, listed, rows_text, table_text}
use Rattle.tw_texts.specs.Texts.{Gathered}
use Rattle.tw_theory.specs.Simulator.{sequential}
use Rattle.tw_record_lines.proofs.Written.{rows_listed_more, table_listed_more, tabulated}
use Rattle.tw_record_lines.proofs.held_table.hold_table.Goals as goal

pub loop-simulation-init : goal.loop-simulation-init
loop-simulation-init g c = record {
  done = [];
  so_far = c.in_ok-simulation.ensures.begun;
  until = c.in_ok-simulation.ensures.until;
  names = c.new-outputs.ensures.names;
  names' = c.new-transitions.ensures.names;
  kinds = c.new-outputs.ensures.rows;
  kinds' = c.new-transitions.ensures.rows;
  fields = c.new-outputs.ensures.fields;
  fields' = c.new-transitions.ensures.fields;
  shows = c.new-outputs.ensures.shown;
  shows' = c.new-transitions.ensures.shown;
  first = c.new-outputs.ensures.from;
  first' = c.new-transitions.ensures.from;
  none = ap (λ (l : Gathered). l.text) c.new-transitions.ensures.lines ∙ c.new.ensures;
  held = ap (λ (l : Gathered). l.text) c.new-outputs.ensures.lines ∙ c.in_ok-first.ensures ∙ sym (append-nil (head_text c.args.table.now.rows (map field c.args.table.now.fields.now)));
}

pub advance-requires : goal.advance-requires
advance-requires g c = (c.loop-simulation.invariant.done, c.loop-simulation.invariant.so_far)

pub run_out-requires : goal.run_out-requires
run_out-requires g c = (c.loop-simulation.invariant.done, c.loop-simulation.invariant.so_far)

pub loop-simulation-preserved : goal.loop-simulation-preserved
loop-simulation-preserved g c =
    let inv = c.loop-simulation.invariant in
    let t = c.args.table.now in
    let name_of = g.N.Names.name_of t.names.now in
    let made = subst (IsAdvanced _ g.M.Atomic.valid g.M.Atomic.meaning c.args.network.now c.loop-simulation.simulation c.advance.new.simulation c.loop-simulation.outputs c.advance.new.outputs c.loop-simulation.transitions c.advance.new.transitions) c.in-Round.is c.in_ok-step.ensures.step in
    let outs = tabulated (λ v. v.names.now) (λ v. v.rows) (λ v. v.fields.now) (λ v. v.shown.now) (λ v. v.from) (λ v. v.lines.text) g.N.Names.name_of c.loop-simulation.outputs made.outs c.advance.new.outputs made.outputs in
    let turns = tabulated (λ v. v.names.now) (λ v. v.rows) (λ v. v.fields.now) (λ v. v.shown.now) (λ v. v.from) (λ v. v.lines.text) g.N.Names.name_of c.loop-simulation.transitions made.turns c.advance.new.transitions made.transitions in
    let first : c.advance.new.outputs.lines.text ≡ c.loop-simulation.outputs.lines.text ++ rows_text t.rows (map field t.fields.now) name_of (listed t.shown.now t.from made.outs) =
    outs.5 ∙ (λ i. c.loop-simulation.outputs.lines.text ++ rows_text (inv.kinds i) (map field (inv.fields i)) (g.N.Names.name_of (inv.names i)) (listed (inv.shows i) (inv.first i) made.outs)) in
    let second : c.advance.new.transitions.lines.text ≡ rows_text t.rows (map field t.fields.now) name_of (listed t.shown.now t.from made.turns) =
    turns.5 ∙ (λ i. inv.none i ++ rows_text (inv.kinds' i) (map field (inv.fields' i)) (g.N.Names.name_of (inv.names' i)) (listed (inv.shows' i) (inv.first' i) made.turns)) in
    record {
      done = inv.done ++ (made.outs ++ made.turns);
      so_far = made.on inv.done inv.so_far;
      until = c.in_ok-step.ensures.until ∙ inv.until;
      names = outs.0 ∙ inv.names;
      names' = turns.0 ∙ inv.names';
      kinds = outs.1 ∙ inv.kinds;
      kinds' = turns.1 ∙ inv.kinds';
      fields = outs.2 ∙ inv.fields;
      fields' = turns.2 ∙ inv.fields';
      shows = outs.3 ∙ inv.shows;
      shows' = turns.3 ∙ inv.shows';
      first = outs.4 ∙ inv.first;
      first' = turns.4 ∙ inv.first';
      none = c.in_ok-append-in-Round.ensures.emptied;
      held = c.in_ok-append-in-Round.ensures.appended ∙ (λ i. first i ++ second i)
          ∙ append_assoc c.loop-simulation.outputs.lines.text (rows_text t.rows (map field t.fields.now) name_of (listed t.shown.now t.from made.outs)) (rows_text t.rows (map field t.fields.now) name_of (listed t.shown.now t.from made.turns))
          ∙ ap (λ l. c.loop-simulation.outputs.lines.text ++ l) (sym (rows_listed_more t.rows (map field t.fields.now) name_of t.shown.now t.from made.outs made.turns))
          ∙ ap (λ l. l ++ rows_text t.rows (map field t.fields.now) name_of (listed t.shown.now t.from (made.outs ++ made.turns))) inv.held
          ∙ table_listed_more t.rows (map field t.fields.now) name_of t.shown.now t.from inv.done (made.outs ++ made.turns);
    }

pub returns-in-End-clause-fault : goal.returns-in-End-clause-fault
returns-in-End-clause-fault g c =
    let inv = c.loop-simulation.invariant in
    let last = subst (IsAdvanced _ g.M.Atomic.valid g.M.Atomic.meaning c.args.network.now c.loop-simulation.simulation c.advance.new.simulation c.loop-simulation.outputs c.advance.new.outputs c.loop-simulation.transitions c.advance.new.transitions) c.in-End.is c.in_ok-step.ensures.step in
    (last.all inv.done inv.so_far).fault ∙ ap (λ u. (sequential (network_of g.M.Atomic.meaning c.args.network.now) u).fault) inv.until

pub returns-in-End-clause-lines : goal.returns-in-End-clause-lines
returns-in-End-clause-lines g c =
    let inv = c.loop-simulation.invariant in
    let t = c.args.table.now in
    let net = network_of g.M.Atomic.meaning c.args.network.now in
    let name_of = g.N.Names.name_of t.names.now in
    let last = subst (IsAdvanced _ g.M.Atomic.valid g.M.Atomic.meaning c.args.network.now c.loop-simulation.simulation c.advance.new.simulation c.loop-simulation.outputs c.advance.new.outputs c.loop-simulation.transitions c.advance.new.transitions) c.in-End.is c.in_ok-step.ensures.step in
    let got = tabulated (λ v. v.names.now) (λ v. v.rows) (λ v. v.fields.now) (λ v. v.shown.now) (λ v. v.from) (λ v. v.lines.text) g.N.Names.name_of c.loop-simulation.outputs last.outs c.advance.new.outputs last.outputs in
    let all = (last.all inv.done inv.so_far).records ∙ ap (λ u. (sequential net u).records) inv.until in
    ap (λ (l : Gathered). l.text) c.into_lines.ensures
    ∙ got.5 ∙ (λ i. c.loop-simulation.outputs.lines.text ++ rows_text (inv.kinds i) (map field (inv.fields i)) (g.N.Names.name_of (inv.names i)) (listed (inv.shows i) (inv.first i) last.outs))
    ∙ ap (λ l. l ++ rows_text t.rows (map field t.fields.now) name_of (listed t.shown.now t.from last.outs)) inv.held
    ∙ table_listed_more t.rows (map field t.fields.now) name_of t.shown.now t.from inv.done last.outs
    ∙ ap (λ rs. table_text t.rows (map field t.fields.now) name_of (listed t.shown.now t.from rs)) all
