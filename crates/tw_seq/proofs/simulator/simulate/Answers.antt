-- Round after round until none is left, or a fault.
use Rattle.std.proofs.Common.{◌≡◌, ◌∙◌, ◌++◌, ap, sym, subst, append_assoc}
use Rattle.tw_rounds.specs.Parts.{IsEnd, IsSimulating}
use Rattle.tw_rounds.specs.Stepping.{IsAdvanced}
use Rattle.tw_rounds.proofs.Received.{collected}
use Rattle.tw_seq.proofs.simulator.simulate.Goals as goal
use Rattle.tw_seq.proofs.simulator.simulate.Goals.{In-End}

pub loop-transitions-init : goal.loop-transitions-init
loop-transitions-init g c = record { so_far = subst (λ rs. IsSimulating g.M.Atomic.valid g.M.Atomic.meaning c.args.network.now rs c.in_ok-simulation.simulation) (sym c.new-records.ensures.items) c.in_ok-simulation.ensures.begun; until = c.in_ok-simulation.ensures.until; none = c.new-transitions.ensures.items }

pub advance-requires : goal.advance-requires
advance-requires g c = (c.loop-transitions.records.items, c.loop-transitions.invariant.so_far)

all_is : (g : _) (c : In-End g) → IsEnd g.M.Atomic.meaning c.args.network.now c.args.until c.advance.new.outputs.items c.in-End.fault
all_is g c =
    let inv = c.loop-transitions.invariant in
    let last = subst (IsAdvanced _ g.M.Atomic.valid g.M.Atomic.meaning c.args.network.now c.loop-transitions.simulation c.advance.new.simulation c.loop-transitions.records c.advance.new.outputs c.loop-transitions.transitions c.advance.new.transitions) c.in-End.is c.in_ok-step.ensures.step in
    let got = collected (λ v. v.items) c.loop-transitions.records last.outs c.advance.new.outputs last.outputs in
    subst (λ u. IsEnd g.M.Atomic.meaning c.args.network.now u c.advance.new.outputs.items c.in-End.fault) inv.until
    (subst (λ rs. IsEnd g.M.Atomic.meaning c.args.network.now c.loop-transitions.simulation.until rs c.in-End.fault) (sym got) (last.all c.loop-transitions.records.items inv.so_far))

pub returns-in-End-clause-records : goal.returns-in-End-clause-records
returns-in-End-clause-records g c = (all_is g (goal.at.returns-in-End-clause-records g c).In-End).records

pub returns-in-End-clause-fault : goal.returns-in-End-clause-fault
returns-in-End-clause-fault g c = (all_is g (goal.at.returns-in-End-clause-fault g c).In-End).fault

pub loop-transitions-preserved : goal.loop-transitions-preserved
loop-transitions-preserved g c =
    let inv = c.loop-transitions.invariant in
    let made = subst (IsAdvanced _ g.M.Atomic.valid g.M.Atomic.meaning c.args.network.now c.loop-transitions.simulation c.advance.new.simulation c.loop-transitions.records c.advance.new.outputs c.loop-transitions.transitions c.advance.new.transitions) c.in-Round.is c.in_ok-step.ensures.step in
    let outs = collected (λ v. v.items) c.loop-transitions.records made.outs c.advance.new.outputs made.outputs in
    let turns = collected (λ v. v.items) c.loop-transitions.transitions made.turns c.advance.new.transitions made.transitions ∙ ap (λ l. l ++ made.turns) inv.none in
    let all : c.append.new.self.items ≡ c.loop-transitions.records.items ++ (made.outs ++ made.turns) =
    c.in_ok-append-in-Round.ensures.items ∙ (λ i. outs i ++ turns i) ∙ append_assoc c.loop-transitions.records.items made.outs made.turns in
    record {
      so_far = subst (λ rs. IsSimulating g.M.Atomic.valid g.M.Atomic.meaning c.args.network.now rs c.advance.new.simulation) (sym all) (made.on c.loop-transitions.records.items inv.so_far);
      until = c.in_ok-step.ensures.until ∙ inv.until;
      none = c.in_ok-append-in-Round.ensures.other_items;
    }
