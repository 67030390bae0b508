-- Round by round.
use Rattle.std.proofs.Common.{◌≡◌, ◌∙◌, ◌++◌, [], List, ap, append-nil, append_assoc, string_bytes, subst, sym}
use Rattle.std.proofs.lemmas.Result.{on_ok_weaker}
use Rattle.tw_figures.specs.Gathered.{start_words}
use Rattle.tw_figures.proofs.Steady.{run_steady}
use Rattle.tw_msgs.specs.declared.record.Record.{Record}
use Rattle.tw_network.specs.Contents.{network_of}
use Rattle.tw_rounds.specs.Stepping.{IsAdvanced}
use Rattle.tw_rounds.proofs.Parted.{part_begins}
use Rattle.tw_rounds.proofs.Received.{collected}
use Rattle.tw_texts.proofs.Portions.{appends_nothing, nothing_yet}
use Rattle.tw_texts.specs.Traces.{AppendsBeginning, MovesBytes}
use Rattle.tw_theory.specs.Simulator.{sequential}
use Rattle.tw_record_lines.specs.FigureTables.{figures_head, figures_text, table_of}
use Rattle.tw_record_lines.specs.Gathering.{FiguresStand, rows_behind, rows_due}
use Rattle.tw_record_lines.proofs.Opening.{behind_more, completed}
use Rattle.tw_record_lines.proofs.Written.{moved_begins, moved_whole, moves_on}
use Rattle.tw_record_lines.proofs.figure_table.write_figures.Goals as goal
use Rattle.tw_record_lines.proofs.figure_table.write_figures.Goals.{After-advance}

pub loop-step-init : goal.loop-step-init
loop-step-init g c = record {
  done = [];
  so_far = c.in-Ok.ensures.begun;
  until = c.in-Ok.ensures.until;
  stand = c.in-Ok-new.ensures.stand;
  written = ([], appends_nothing _, c.in-Ok-new.ensures.text ∙ sym (append-nil figures_head));
  no_outputs = c.new-outputs.ensures.items;
  no_transitions = c.new-transitions.ensures.items;
}

pub advance-requires : goal.advance-requires
advance-requires g c = (c.loop-step.invariant.done, c.loop-step.invariant.so_far)

-- what is written so far is a beginning of the whole table
begun : (g : _) (c : After-advance g)
    → AppendsBeginning (g.W.Write.contents c.args.out.now) (g.W.Write.contents c.loop-step.out) (figures_text (table_of (g.N.Names.name_of c.args.table.now.names.now) c.args.table.now.labels.now c.args.table.now.shown.now c.args.table.now.from) (start_words (network_of g.M.Atomic.meaning c.args.network.now)) (sequential (network_of g.M.Atomic.meaning c.args.network.now) c.args.until).records)
begun g c =
    let inv = c.loop-step.invariant in
    let net = network_of g.M.Atomic.meaning c.args.network.now in
    let starts = start_words net in
    let t = table_of (g.N.Names.name_of c.args.table.now.names.now) c.args.table.now.labels.now c.args.table.now.shown.now c.args.table.now.from in
    let run = (sequential net c.args.until).records in
    let more = subst (λ u. (more : List Record) × (inv.done ++ more ≡ (sequential net u).records)) inv.until
    (part_begins g.M.Atomic.valid g.M.Atomic.meaning c.args.network.now c.loop-step.simulation.until inv.done c.loop-step.simulation.run inv.so_far.part) in
    moved_begins _ _ (figures_head ++ rows_behind t starts [] inv.done) (rows_behind t starts inv.done more.0 ++ rows_due t starts run) (string_bytes c.loop-step.lines.text) _ inv.written
    (completed t starts inv.done more.0 run more.1 (run_steady net c.args.until c.facts.ensures.network c.requires))

pub returns-in_default-clause-err : goal.returns-in_default-clause-err
returns-in_default-clause-err g c _ = nothing_yet _ _

pub returns-in_default-new-clause-err : goal.returns-in_default-new-clause-err
returns-in_default-new-clause-err g c _ = nothing_yet _ _

pub returns-in_default-advance-clause-err : goal.returns-in_default-advance-clause-err
returns-in_default-advance-clause-err g c _ = begun g (goal.at.returns-in_default-advance-clause-err g c).After-advance

pub returns-in_default-append-clause-err : goal.returns-in_default-append-clause-err
returns-in_default-append-clause-err g c _ = begun g (goal.at.returns-in_default-append-clause-err g c).After-advance

pub returns-in_default-take_all-clause-err : goal.returns-in_default-take_all-clause-err
returns-in_default-take_all-clause-err g c _ = begun g (goal.at.returns-in_default-take_all-clause-err g c).After-advance

pub returns-in_default-take_all-2-clause-err : goal.returns-in_default-take_all-2-clause-err
returns-in_default-take_all-2-clause-err g c _ = begun g (goal.at.returns-in_default-take_all-2-clause-err g c).After-advance

pub returns-in_default-open-clause-err : goal.returns-in_default-open-clause-err
returns-in_default-open-clause-err g c _ = begun g (goal.at.returns-in_default-open-clause-err g c).After-advance

pub loop-step-preserved : goal.loop-step-preserved
loop-step-preserved g c =
    let inv = c.loop-step.invariant in
    let starts = start_words (network_of g.M.Atomic.meaning c.args.network.now) in
    let t = table_of (g.N.Names.name_of c.args.table.now.names.now) c.args.table.now.labels.now c.args.table.now.shown.now c.args.table.now.from in
    let made = subst (IsAdvanced _ g.M.Atomic.valid g.M.Atomic.meaning c.args.network.now c.loop-step.simulation c.advance.new.simulation c.loop-step.outputs c.advance.new.outputs c.loop-step.transitions c.advance.new.transitions) c.in-Round.is c.in-Ok-advance.ensures.step in
    let outs = collected (λ v. v.items) c.loop-step.outputs made.outs c.advance.new.outputs made.outputs ∙ ap (λ l. l ++ made.outs) inv.no_outputs in
    let turns = collected (λ v. v.items) c.loop-step.transitions made.turns c.advance.new.transitions made.transitions ∙ ap (λ l. l ++ made.turns) inv.no_transitions in
    let more = made.outs ++ made.turns in
    let slice : c.as_slice.result.now ≡ more = c.as_slice.ensures.value ∙ c.in-Ok-append.ensures.items ∙ (λ i. outs i ++ turns i) in
    let stands = subst (λ l. FiguresStand t starts (inv.done ++ l) c.take_all.new.self) slice (c.in-Ok-take_all.ensures.stand starts inv.done inv.stand) in
    let grown = c.in-Ok-take_all.ensures.text starts inv.done inv.stand ∙ ap (λ l. string_bytes c.loop-step.lines.text ++ rows_behind t starts inv.done l) slice in
    record {
      done = inv.done ++ more;
      so_far = made.on inv.done inv.so_far;
      until = c.in-Ok-advance.ensures.until ∙ inv.until;
      stand = record { values = stands.values; opened = stands.opened };
      written = subst (λ l. MovesBytes (g.W.Write.contents c.args.out.now) (g.W.Write.contents c.write_portion.new.out) l (string_bytes c.write_portion.new.text))
          (append_assoc figures_head (rows_behind t starts [] inv.done) (rows_behind t starts inv.done more) ∙ ap (λ l. figures_head ++ l) (sym (behind_more t starts [] inv.done more)))
          (moves_on _ _ _ (figures_head ++ rows_behind t starts [] inv.done) (rows_behind t starts inv.done more) (string_bytes c.loop-step.lines.text) (string_bytes c.take_all.new.self.text) (string_bytes c.write_portion.new.text)
          inv.written grown c.in_ok-write_portion-in-Round.ensures.ok);
      no_outputs = c.clear.ensures.items;
      no_transitions = c.in-Ok-append.ensures.other_items;
    }

pub returns-in-End-clause-ok : goal.returns-in-End-clause-ok
returns-in-End-clause-ok g c =
    let inv = c.loop-step.invariant in
    let net = network_of g.M.Atomic.meaning c.args.network.now in
    let starts = start_words net in
    let t = table_of (g.N.Names.name_of c.args.table.now.names.now) c.args.table.now.labels.now c.args.table.now.shown.now c.args.table.now.from in
    let run = (sequential net c.args.until).records in
    let last = subst (IsAdvanced _ g.M.Atomic.valid g.M.Atomic.meaning c.args.network.now c.loop-step.simulation c.advance.new.simulation c.loop-step.outputs c.advance.new.outputs c.loop-step.transitions c.advance.new.transitions) c.in-End.is c.in-Ok-advance.ensures.step in
    let outs = collected (λ v. v.items) c.loop-step.outputs last.outs c.advance.new.outputs last.outputs ∙ ap (λ l. l ++ last.outs) inv.no_outputs in
    let slice : c.as_slice-in-End.result.now ≡ last.outs = c.as_slice-in-End.ensures.value ∙ outs in
    let all = (last.all inv.done inv.so_far).records ∙ ap (λ u. (sequential net u).records) inv.until in
    let stands = subst (λ l. FiguresStand t starts (inv.done ++ l) c.take_all-in-End.new.self) slice (c.in-Ok-take_all-2.ensures.stand starts inv.done inv.stand) in
    let kept = string_bytes c.loop-step.lines.text in
    let behind = rows_behind t starts inv.done last.outs in
    let grown : string_bytes c.«open».new.self.text ≡ kept ++ (behind ++ rows_due t starts run) =
    c.in-Ok-open.ensures.text starts (inv.done ++ last.outs) stands
    ∙ (λ i. (c.in-Ok-take_all-2.ensures.text starts inv.done inv.stand ∙ ap (λ l. kept ++ rows_behind t starts inv.done l) slice) i ++ rows_due t starts (all i))
    ∙ append_assoc kept behind (rows_due t starts run) in
    on_ok_weaker c.write_out.result
    (moved_whole _ _ _ (figures_head ++ rows_behind t starts [] inv.done) (behind ++ rows_due t starts run) kept (string_bytes c.«open».new.self.text) _ inv.written grown
    (completed t starts inv.done last.outs run all (run_steady net c.args.until c.facts.ensures.network c.requires))) c.write_out.ensures.ok
