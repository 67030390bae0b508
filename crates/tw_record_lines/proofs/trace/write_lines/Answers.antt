-- Round by round.
use Rattle.std.proofs.Common.{◌≡◌, ◌++◌, ◌∙◌, List, [], sym, ap, subst, append_assoc}
use Rattle.std.proofs.lemmas.Result.{on_ok_weaker, IfErr-weaker}
use Rattle.tw_msgs.specs.declared.record.Record.{Record}
use Rattle.tw_network.specs.Contents.{network_of}
use Rattle.tw_rounds.specs.Stepping.{IsAdvanced}
use Rattle.tw_rounds.proofs.Parted.{part_begins}
use Rattle.tw_texts.proofs.Portions.{appends_nothing, nothing_yet}
use Rattle.tw_texts.specs.Texts.{trace_text}
use Rattle.tw_texts.specs.Traces.{AppendsBeginning, MovesBytes}
use Rattle.tw_texts.specs.declared.traces.NotWritten.{NotWritten}
use Rattle.tw_texts.specs.declared.traces.NotWritten.TheVariants.{OutOfMemory, WriteFailed}
use Rattle.tw_theory.specs.Simulator.{sequential}
use Rattle.tw_record_lines.proofs.Written.{trace_more, traced, moved_begins, moved_whole, moves_on}
use Rattle.tw_record_lines.proofs.trace.write_lines.Goals as goal
use Rattle.tw_record_lines.proofs.trace.write_lines.Goals.{After-advance_telling}

pub loop-step-init : goal.loop-step-init
loop-step-init g c = record {
  done = [];
  so_far = c.in-Ok.ensures.begun;
  until = c.in-Ok.ensures.until;
  names = c.new-outputs.ensures.names;
  names' = c.new-transitions.ensures.names;
  none = c.new-transitions.ensures.none;
  written = ([], appends_nothing _, c.new-outputs.ensures.none);
}

pub advance_telling-requires : goal.advance_telling-requires
advance_telling-requires g c = (c.loop-step.invariant.done, c.loop-step.invariant.so_far)

pub returns-in_default-clause-err : goal.returns-in_default-clause-err
returns-in_default-clause-err g c _ = nothing_yet _ _

-- what is written so far is a beginning of all lines
begun : (g : _) (c : After-advance_telling g) → AppendsBeginning (g.W.Write.contents c.args.out.now) (g.W.Write.contents c.loop-step.out) (trace_text (g.N.Names.name_of c.args.names.now) (sequential (network_of g.M.Atomic.meaning c.args.network.now) c.args.until).records)
begun g c =
    let inv = c.loop-step.invariant in
    let net = network_of g.M.Atomic.meaning c.args.network.now in
    let more = subst (λ u. (more : List Record) × (inv.done ++ more ≡ (sequential net u).records)) inv.until
    (part_begins g.M.Atomic.valid g.M.Atomic.meaning c.args.network.now c.loop-step.simulation.until inv.done c.loop-step.simulation.run inv.so_far.part) in
    let name_of = g.N.Names.name_of c.args.names.now in
    moved_begins _ _ (trace_text name_of inv.done) (trace_text name_of more.0) c.loop-step.outputs.lines.text _ inv.written
    (sym (trace_more name_of inv.done more.0) ∙ ap (trace_text name_of) more.1)

pub returns-in_default-advance_telling-clause-err : goal.returns-in_default-advance_telling-clause-err
returns-in_default-advance_telling-clause-err g c _ = begun g (goal.at.returns-in_default-advance_telling-clause-err g c).After-advance_telling

pub returns-in_default-append-clause-err : goal.returns-in_default-append-clause-err
returns-in_default-append-clause-err g c _ = begun g (goal.at.returns-in_default-append-clause-err g c).After-advance_telling

pub returns-in-End-clause-ok : goal.returns-in-End-clause-ok
returns-in-End-clause-ok g c =
    let inv = c.loop-step.invariant in
    let net = network_of g.M.Atomic.meaning c.args.network.now in
    let name_of = g.N.Names.name_of c.args.names.now in
    let last = subst (IsAdvanced _ g.M.Atomic.valid g.M.Atomic.meaning c.args.network.now c.loop-step.simulation c.advance_telling.new.simulation c.loop-step.outputs c.advance_telling.new.outputs c.loop-step.transitions c.advance_telling.new.transitions) c.in-End.is c.in-Ok-advance_telling.ensures.step in
    let got = traced (λ v. v.names.now) (λ v. v.lines.text) g.N.Names.name_of c.loop-step.outputs last.outs c.advance_telling.new.outputs last.outputs in
    let grown = got.1 ∙ ap (λ n. c.loop-step.outputs.lines.text ++ trace_text (g.N.Names.name_of n) last.outs) inv.names in
    let all = (last.all inv.done inv.so_far).records ∙ ap (λ u. (sequential net u).records) inv.until in
    on_ok_weaker c.write_out.result
    (moved_whole _ _ _ (trace_text name_of inv.done) (trace_text name_of last.outs) c.loop-step.outputs.lines.text c.advance_telling.new.outputs.lines.text _ inv.written grown
    (sym (trace_more name_of inv.done last.outs) ∙ ap (trace_text name_of) all)) c.write_out.ensures.ok

other_refusal : {X : Type 0} (e : NotWritten) → e ≡ WriteFailed → e ≡ OutOfMemory → X
other_refusal e failed refused = absurd (cc (sym failed ∙ refused))

pub returns-in-End-clause-err : goal.returns-in-End-clause-err
returns-in-End-clause-err g c = IfErr-weaker c.write_out.result _ _ (λ e failed refused. other_refusal e failed refused) c.write_out.ensures.err

pub loop-step-preserved : goal.loop-step-preserved
loop-step-preserved g c =
    let inv = c.loop-step.invariant in
    let name_of = g.N.Names.name_of c.args.names.now in
    let made = subst (IsAdvanced _ g.M.Atomic.valid g.M.Atomic.meaning c.args.network.now c.loop-step.simulation c.advance_telling.new.simulation c.loop-step.outputs c.advance_telling.new.outputs c.loop-step.transitions c.advance_telling.new.transitions) c.in-Round.is c.in-Ok-advance_telling.ensures.step in
    let outs = traced (λ v. v.names.now) (λ v. v.lines.text) g.N.Names.name_of c.loop-step.outputs made.outs c.advance_telling.new.outputs made.outputs in
    let turns = traced (λ v. v.names.now) (λ v. v.lines.text) g.N.Names.name_of c.loop-step.transitions made.turns c.advance_telling.new.transitions made.transitions in
    let first = outs.1 ∙ ap (λ n. c.loop-step.outputs.lines.text ++ trace_text (g.N.Names.name_of n) made.outs) inv.names in
    let second = turns.1 ∙ (λ i. inv.none i ++ trace_text (g.N.Names.name_of (inv.names' i)) made.turns) in
    let grown : c.append.new.self.text ≡ c.loop-step.outputs.lines.text ++ trace_text name_of (made.outs ++ made.turns) =
    c.in-Ok-append.ensures.appended ∙ (λ i. first i ++ second i)
    ∙ append_assoc c.loop-step.outputs.lines.text (trace_text name_of made.outs) (trace_text name_of made.turns)
    ∙ ap (λ l. c.loop-step.outputs.lines.text ++ l) (sym (trace_more name_of made.outs made.turns)) in
    record {
      done = inv.done ++ (made.outs ++ made.turns);
      so_far = made.on inv.done inv.so_far;
      until = c.in-Ok-advance_telling.ensures.until ∙ inv.until;
      names = outs.0 ∙ inv.names;
      names' = turns.0 ∙ inv.names';
      none = c.in-Ok-append.ensures.emptied;
      written = subst (λ l. MovesBytes (g.W.Write.contents c.args.out.now) (g.W.Write.contents c.write_portion.new.out) l c.write_portion.new.self.text)
          (sym (trace_more name_of inv.done (made.outs ++ made.turns)))
          (moves_on _ _ _ (trace_text name_of inv.done) (trace_text name_of (made.outs ++ made.turns)) c.loop-step.outputs.lines.text c.append.new.self.text c.write_portion.new.self.text
          inv.written grown c.in_ok-write_portion-in-Round.ensures.ok);
    }
