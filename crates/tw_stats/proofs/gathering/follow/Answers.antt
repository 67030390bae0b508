-- Round by round, as for any receiver of the records.
use Rattle.std.proofs.Common.{◌≡◌, ◌∙◌, ◌++◌, [], List, refl, ap, sym, subst}
use Rattle.tw_msgs.specs.declared.record.Record.{Record}
use Rattle.tw_network.specs.Contents.{network_of}
use Rattle.tw_rounds.specs.Parts.{IsSimulating}
use Rattle.tw_rounds.specs.Stepping.{IsAdvanced}
use Rattle.tw_rounds.proofs.Received.{collected}
use Rattle.tw_theory.specs.Simulator.{sequential}
use Rattle.tw_figures.specs.Figures.{IsSteady}
use Rattle.tw_figures.specs.Gathered.{IsGathered}
use Rattle.tw_figures.proofs.Steady.{made_steady, run_steady}
use Rattle.tw_stats.proofs.gathering.follow.Goals as goal
use Rattle.tw_stats.proofs.gathering.follow.Goals.{After-as_slice-records, After-as_slice}

pub loop-transitions-init : goal.loop-transitions-init
loop-transitions-init g c = record {
  done = [];
  so_far = c.requires;
  until = refl;
  gathered = λ from starts h. h;
  followed = refl;
  no_outputs = c.new-outputs.ensures.items;
  no_transitions = c.new-transitions.ensures.items;
}

pub advance-requires : goal.advance-requires
advance-requires g c = (c.loop-transitions.invariant.done, c.loop-transitions.invariant.so_far)

-- the records of a round, in one list
record Made (g : _) (c : After-as_slice-records g) : Type 0 where
  more : List Record
  slice : c.as_slice-records.result.now ≡ more
  so_far : IsSimulating g.M.Atomic.valid g.M.Atomic.meaning c.args.network.now (c.loop-transitions.invariant.done ++ more) c.advance.new.simulation

made_in : (g : _) (c : After-as_slice-records g) → Made g c
made_in g c =
    let inv = c.loop-transitions.invariant in
    let made = subst (IsAdvanced _ g.M.Atomic.valid g.M.Atomic.meaning c.args.network.now c.loop-transitions.simulation c.advance.new.simulation c.loop-transitions.outputs c.advance.new.outputs c.loop-transitions.transitions c.advance.new.transitions) c.in-Round.is c.in_ok-step.ensures.step in
    let outs = collected (λ v. v.items) c.loop-transitions.outputs made.outs c.advance.new.outputs made.outputs ∙ ap (λ l. l ++ made.outs) inv.no_outputs in
    let turns = collected (λ v. v.items) c.loop-transitions.transitions made.turns c.advance.new.transitions made.transitions ∙ ap (λ l. l ++ made.turns) inv.no_transitions in
    record {
      more = made.outs ++ made.turns;
      slice = c.as_slice-records.ensures.value ∙ c.in_ok-append-in-Round.ensures.items ∙ (λ i. outs i ++ turns i);
      so_far = made.on inv.done inv.so_far;
    }

pub take_all-requires : goal.take_all-requires
take_all-requires g c =
    let inv = c.loop-transitions.invariant in
    let made = made_in g (goal.at.take_all-requires g c).After-as_slice-records in (
      inv.done,
      subst (λ l. IsSteady (inv.done ++ l)) (sym made.slice) (made_steady g.M.Atomic.valid g.M.Atomic.meaning c.args.network.now (inv.done ++ made.more) c.advance.new.simulation c.facts.ensures.network made.so_far),
    )

pub loop-transitions-preserved : goal.loop-transitions-preserved
loop-transitions-preserved g c =
    let inv = c.loop-transitions.invariant in
    let made = made_in g (goal.at.loop-transitions-preserved g c).After-as_slice-records in
    let steady = subst (λ l. IsSteady (inv.done ++ l)) (sym made.slice) (made_steady g.M.Atomic.valid g.M.Atomic.meaning c.args.network.now (inv.done ++ made.more) c.advance.new.simulation c.facts.ensures.network made.so_far) in
    record {
      done = inv.done ++ made.more;
      so_far = made.so_far;
      until = c.in_ok-step.ensures.until ∙ inv.until;
      gathered = λ from starts h. subst (λ l. IsGathered from starts (inv.done ++ l) c.take_all.new.self) made.slice
          (c.in_ok-take_all-in-Round.ensures.gathered from starts inv.done steady (inv.gathered from starts h));
      followed = c.take_all.ensures.followed ∙ inv.followed;
      no_outputs = c.clear.ensures.items;
      no_transitions = c.in_ok-append-in-Round.ensures.other_items;
    }

-- the records of the last outputs are those that are left of the whole run
record Ended (g : _) (c : After-as_slice g) : Type 0 where
  whole : c.loop-transitions.invariant.done ++ c.as_slice.result.now ≡ (sequential (network_of g.M.Atomic.meaning c.args.network.now) c.args.simulation.until).records
  met : c.in-End.fault ≡ (sequential (network_of g.M.Atomic.meaning c.args.network.now) c.args.simulation.until).fault

ended_in : (g : _) (c : After-as_slice g) → Ended g c
ended_in g c =
    let inv = c.loop-transitions.invariant in
    let net = network_of g.M.Atomic.meaning c.args.network.now in
    let last = subst (IsAdvanced _ g.M.Atomic.valid g.M.Atomic.meaning c.args.network.now c.loop-transitions.simulation c.advance.new.simulation c.loop-transitions.outputs c.advance.new.outputs c.loop-transitions.transitions c.advance.new.transitions) c.in-End.is c.in_ok-step.ensures.step in
    let outs = collected (λ v. v.items) c.loop-transitions.outputs last.outs c.advance.new.outputs last.outputs ∙ ap (λ l. l ++ last.outs) inv.no_outputs in
    let all = last.all inv.done inv.so_far in
    record {
      whole = ap (λ l. inv.done ++ l) (c.as_slice.ensures.value ∙ outs) ∙ all.records ∙ ap (λ u. (sequential net u).records) inv.until;
      met = all.fault ∙ ap (λ u. (sequential net u).fault) inv.until;
    }

pub take_all-requires-in-End : goal.take_all-requires-in-End
take_all-requires-in-End g c =
    let inv = c.loop-transitions.invariant in
    let end = ended_in g c in (
      inv.done,
      subst IsSteady (sym end.whole) (run_steady (network_of g.M.Atomic.meaning c.args.network.now) c.args.simulation.until c.facts.ensures.network c.requires.part.small),
    )

pub returns-in-End-clause-gathered : goal.returns-in-End-clause-gathered
returns-in-End-clause-gathered g c from starts h =
    let inv = c.loop-transitions.invariant in
    let end = ended_in g (goal.at.returns-in-End-clause-gathered g c).After-as_slice in
    subst (λ l. IsGathered from starts l c.take_all-in-End.new.self) end.whole
    (c.in_ok-take_all-in-End.ensures.gathered from starts inv.done
    (subst IsSteady (sym end.whole) (run_steady (network_of g.M.Atomic.meaning c.args.network.now) c.args.simulation.until c.facts.ensures.network c.requires.part.small))
    (inv.gathered from starts h))

pub returns-in-End-clause-fault : goal.returns-in-End-clause-fault
returns-in-End-clause-fault g c = (ended_in g (goal.at.returns-in-End-clause-fault g c).After-as_slice).met
