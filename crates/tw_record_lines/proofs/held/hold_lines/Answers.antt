-- Round by round.
use Rattle.std.proofs.Common.{◌++◌, ◌∙◌, [], sym, ap, subst, append_assoc}
use Rattle.tw_network.specs.Contents.{network_of}
use Rattle.tw_rounds.specs.Stepping.{IsAdvanced}
use Rattle.tw_texts.specs.Texts.{trace_text}
use Rattle.tw_theory.specs.Simulator.{sequential}
use Rattle.tw_record_lines.proofs.Written.{trace_more, traced}
use Rattle.tw_record_lines.proofs.held.hold_lines.Goals as goal

pub loop-simulation-init : goal.loop-simulation-init
loop-simulation-init g c = record {
  done = [];
  so_far = c.in_ok-simulation.ensures.begun;
  until = c.in_ok-simulation.ensures.until;
  names = c.new-outputs.ensures.names;
  names' = c.new-transitions.ensures.names;
  none = c.new-transitions.ensures.none;
  held = c.new-outputs.ensures.none;
}

pub advance-requires : goal.advance-requires
advance-requires g c = (c.loop-simulation.invariant.done, c.loop-simulation.invariant.so_far)

pub run_out-requires : goal.run_out-requires
run_out-requires g c = (c.loop-simulation.invariant.done, c.loop-simulation.invariant.so_far)

pub loop-simulation-preserved : goal.loop-simulation-preserved
loop-simulation-preserved g c =
    let inv = c.loop-simulation.invariant in
    let name_of = g.N.Names.name_of c.args.names.now in
    let made = subst (IsAdvanced _ g.M.Atomic.valid g.M.Atomic.meaning c.args.network.now c.loop-simulation.simulation c.advance.new.simulation c.loop-simulation.outputs c.advance.new.outputs c.loop-simulation.transitions c.advance.new.transitions) c.in-Round.is c.in_ok-step.ensures.step in
    let outs = traced (λ v. v.names.now) (λ v. v.lines.text) g.N.Names.name_of c.loop-simulation.outputs made.outs c.advance.new.outputs made.outputs in
    let turns = traced (λ v. v.names.now) (λ v. v.lines.text) g.N.Names.name_of c.loop-simulation.transitions made.turns c.advance.new.transitions made.transitions in
    let first = outs.1 ∙ ap (λ n. c.loop-simulation.outputs.lines.text ++ trace_text (g.N.Names.name_of n) made.outs) inv.names in
    let second = turns.1 ∙ (λ i. inv.none i ++ trace_text (g.N.Names.name_of (inv.names' i)) made.turns) in
    record {
      done = inv.done ++ (made.outs ++ made.turns);
      so_far = made.on inv.done inv.so_far;
      until = c.in_ok-step.ensures.until ∙ inv.until;
      names = outs.0 ∙ inv.names;
      names' = turns.0 ∙ inv.names';
      none = c.in_ok-append-in-Round.ensures.emptied;
      held = c.in_ok-append-in-Round.ensures.appended ∙ (λ i. first i ++ second i)
          ∙ append_assoc c.loop-simulation.outputs.lines.text (trace_text name_of made.outs) (trace_text name_of made.turns)
          ∙ ap (λ l. c.loop-simulation.outputs.lines.text ++ l) (sym (trace_more name_of made.outs made.turns))
          ∙ ap (λ l. l ++ trace_text name_of (made.outs ++ made.turns)) inv.held
          ∙ sym (trace_more name_of inv.done (made.outs ++ made.turns));
    }

pub returns-in-End-clause-fault : goal.returns-in-End-clause-fault
returns-in-End-clause-fault g c =
    let inv = c.loop-simulation.invariant in
    let last = subst (IsAdvanced _ g.M.Atomic.valid g.M.Atomic.meaning c.args.network.now c.loop-simulation.simulation c.advance.new.simulation c.loop-simulation.outputs c.advance.new.outputs c.loop-simulation.transitions c.advance.new.transitions) c.in-End.is c.in_ok-step.ensures.step in
    (last.all inv.done inv.so_far).fault ∙ ap (λ u. (sequential (network_of g.M.Atomic.meaning c.args.network.now) u).fault) inv.until

pub returns-in-End-clause-lines : goal.returns-in-End-clause-lines
returns-in-End-clause-lines g c =
    let inv = c.loop-simulation.invariant in
    let net = network_of g.M.Atomic.meaning c.args.network.now in
    let name_of = g.N.Names.name_of c.args.names.now in
    let last = subst (IsAdvanced _ g.M.Atomic.valid g.M.Atomic.meaning c.args.network.now c.loop-simulation.simulation c.advance.new.simulation c.loop-simulation.outputs c.advance.new.outputs c.loop-simulation.transitions c.advance.new.transitions) c.in-End.is c.in_ok-step.ensures.step in
    let got = traced (λ v. v.names.now) (λ v. v.lines.text) g.N.Names.name_of c.loop-simulation.outputs last.outs c.advance.new.outputs last.outputs in
    let all = (last.all inv.done inv.so_far).records ∙ ap (λ u. (sequential net u).records) inv.until in
    ap (λ lines. lines.text) c.into_lines.ensures
    ∙ got.1 ∙ ap (λ n. c.loop-simulation.outputs.lines.text ++ trace_text (g.N.Names.name_of n) last.outs) inv.names
    ∙ ap (λ l. l ++ trace_text name_of last.outs) inv.held
    ∙ sym (trace_more name_of inv.done last.outs) ∙ ap (trace_text name_of) all
