-- A round more, or the end.
use Rattle.std.proofs.Common.{rules, ℕ, ◌≡◌, ◌≤◌, ◌<◌, ◌-◌, ◌∙◌, ◌++◌, [], ap, sym, refl, subst, None, Some}
use Rattle.std.specs.Prelude.{length}
use Rattle.tw_network.specs.Contents.{network_of}
use Rattle.tw_rounds.specs.Invariant.{IsToCome}
use Rattle.tw_rounds.specs.Parts.{IsSimulating, stage_of}
use Rattle.tw_rounds.specs.Stepping.{IsLast, IsRound}
use Rattle.tw_rounds.specs.Turning.{all_outputs, all_turns}
use Rattle.tw_theory.specs.Simulator.{Fault, round_time, turn_records}
use Rattle.tw_theory.proofs.Elements.{each_weaker}
use Rattle.tw_vtime.specs.Stamps.{never, phase_of, stamp}
use Rattle.tw_rounds.proofs.RoundOutputs.{transition_of}
use Rattle.tw_rounds.proofs.RoundsKept.{round_none, round_some}
use Rattle.tw_rounds.proofs.Parted.{part_end, part_small, part_underway, part_fault, part_on, part_sooner}
use Rattle.tw_rounds.proofs.simulation.advance.Goals as goal
use Rattle.tw_rounds.proofs.simulation.advance.Goals.{After-simulation, After-next_time, In-Some}

-- the simulation stands so, by its fields
underway : (g : _) (c : After-simulation g) → IsSimulating g.M.Atomic.valid g.M.Atomic.meaning c.args.network.now c.requires.0 (stage_of c.simulation.inside.until c.simulation.inside.run c.simulation.inside.bench.agenda.times c.simulation.inside.bench.arrivals.bags.items)
underway g c = subst (IsSimulating g.M.Atomic.valid g.M.Atomic.meaning c.args.network.now c.requires.0) (sym c.simulation.view_is) c.requires.1

end_is : (g : _) (c : After-next_time g) → c.unwrap-end.result ≡ stamp c.simulation.inside.until 0 0
end_is g c = search rules

before_end : (g : _) (c : In-Some g) → c.in-Some.time < stamp c.simulation.inside.until 0 0
before_end g c =
    let end : c.unwrap-end.result ≡ stamp c.simulation.inside.until 0 0 = search rules in
    subst (λ e. c.in-Some.time < e) end c.in-Some.ensures.before

pub next_time-requires-clause-inputs : goal.next_time-requires-clause-inputs
next_time-requires-clause-inputs g c =
    let part = (underway g (goal.at.next_time-requires-clause-inputs g c).After-simulation).part in
    each_weaker (IsToCome (length c.args.network.now.models) part.reaching.from) (λ m. (m.stamp < never) × (phase_of m.stamp ≡ 1)) (λ m h. (h.before_end, h.phase)) c.simulation.inside.run.at.inputs part.reaching.underway.inputs

pub returns-in_default-clause-step : goal.returns-in_default-clause-step
returns-in_default-clause-step g c =
    subst (λ s. IsLast g.R.Receiver.takes g.M.Atomic.valid g.M.Atomic.meaning c.args.network.now s c.args.outputs.now c.args.outputs.now None) c.simulation.view_is
    (record {
      outs = [];
      outputs = refl;
      all = λ done h. part_end g.M.Atomic.valid g.M.Atomic.meaning c.args.network.now c.simulation.inside.until done c.simulation.inside.run h.part [] refl
          (subst (λ e. e ≤ round_time c.simulation.inside.run.at) (end_is g (goal.at.returns-in_default-clause-step g c).After-next_time) c.in_default.ensures.none);
    })

pub make_round-requires-clause-time : goal.make_round-requires-clause-time
make_round-requires-clause-time g c =
    let part = (underway g (goal.at.make_round-requires-clause-time g c).After-simulation).part in
    part_small g.M.Atomic.valid g.M.Atomic.meaning c.args.network.now c.simulation.inside.until c.requires.0 c.simulation.inside.run part c.in-Some.time c.in-Some.ensures.time (before_end g (goal.at.make_round-requires-clause-time g c).In-Some)

pub make_round-requires-clause-underway : goal.make_round-requires-clause-underway
make_round-requires-clause-underway g c =
    let part = (underway g (goal.at.make_round-requires-clause-underway g c).After-simulation).part in
    part_underway g.M.Atomic.valid g.M.Atomic.meaning c.args.network.now c.simulation.inside.until c.requires.0 c.simulation.inside.run part c.in-Some.time c.in-Some.ensures.time (before_end g (goal.at.make_round-requires-clause-underway g c).In-Some)

pub returns-in-Some-stop-clause-step : goal.returns-in-Some-stop-clause-step
returns-in-Some-stop-clause-step g c =
    let meaning = g.M.Atomic.meaning in
    let net = network_of meaning c.args.network.now in
    let until = c.simulation.inside.until in
    let run = c.simulation.inside.run in
    let t = c.in-Some.time in
    let before = before_end g (goal.at.returns-in-Some-stop-clause-step g c).In-Some in
    let part = (underway g (goal.at.returns-in-Some-stop-clause-step g c).After-simulation).part in
    let under = part_underway g.M.Atomic.valid meaning c.args.network.now until c.requires.0 run part t c.in-Some.ensures.time before in
    let made = round_some net t run c.in_ok-stop.stop c.in_ok-stop.ensures.stop (c.in-Some-stop.component, c.in-Some-stop.limit) c.in-Some-stop.is in
    let at = c.transition.ensures ∙ transition_of t under.even in
    let met : ℕ → Fault = λ s. record { component = c.in-Some-stop.component; stamp = s; limit = c.in-Some-stop.limit } in
    let outs = made.1 ∙ ap (λ l. l ++ all_outputs net t run) part.empty in
    subst (λ s. IsLast g.R.Receiver.takes g.M.Atomic.valid meaning c.args.network.now s c.args.outputs.now c.make_round.new.outputs (Some (met c.transition.result))) c.simulation.view_is
    (record {
      outs = all_outputs net t run;
      outputs = c.in_ok-stop.ensures.outputs;
      all = λ done h. part_fault g.M.Atomic.valid meaning c.args.network.now until done run h.part t c.in-Some.ensures.time before
          (all_outputs net t run) (met c.transition.result) (sym outs)
          (made.0 ∙ ap (λ (s : ℕ). Some (met s)) (sym at));
    })

pub returns-clause-step : goal.returns-clause-step
returns-clause-step g c =
    let meaning = g.M.Atomic.meaning in
    let net = network_of meaning c.args.network.now in
    let until = c.simulation.inside.until in
    let run = c.simulation.inside.run in
    let bench = c.make_round.new.bench in
    let t = c.in-Some.time in
    let none : c.in_ok-stop.stop ≡ None = c.in_default-stop.is in
    let before = before_end g (goal.at.returns-clause-step g c).In-Some in
    let part = (underway g (goal.at.returns-clause-step g c).After-simulation).part in
    let made = round_none net t run c.in_ok-stop.stop c.in_ok-stop.ensures.stop none in
    let both = made.1 ∙ ap (λ l. l ++ (all_outputs net t run ++ turn_records (all_turns net t run))) part.empty in
    subst (λ s. IsRound g.R.Receiver.takes g.M.Atomic.valid meaning c.args.network.now s (stage_of until c.make_round.new.run bench.agenda.times bench.arrivals.bags.items) c.args.outputs.now c.make_round.new.outputs c.args.transitions.now c.make_round.new.transitions) c.simulation.view_is
    (record {
      outs = all_outputs net t run;
      turns = turn_records (all_turns net t run);
      outputs = c.in_ok-stop.ensures.outputs;
      transitions = c.in_ok-stop.ensures.transitions none;
      on = λ done h. record {
        part = part_on g.M.Atomic.valid meaning c.args.network.now until done run h.part t c.in-Some.ensures.time before
            c.make_round.new.run (c.in_ok-stop.ensures.going none) (c.in_ok-stop.ensures.underway none)
            (all_outputs net t run ++ turn_records (all_turns net t run)) made.0 (sym both);
        agenda = c.in_ok-stop.ensures.agenda none;
        empty = c.in_ok-stop.ensures.bags none;
      };
    })

pub returns-clause-sooner : goal.returns-clause-sooner
returns-clause-sooner g c _ =
    let none : c.in_ok-stop.stop ≡ None = c.in_default-stop.is in
    let part = (underway g (goal.at.returns-clause-sooner g c).After-simulation).part in
    subst (λ s. stamp s.until 0 0 - round_time c.make_round.new.run.at < stamp s.until 0 0 - round_time s.run.at) c.simulation.view_is
    (part_sooner g.M.Atomic.valid g.M.Atomic.meaning c.args.network.now c.simulation.inside.until c.requires.0 c.simulation.inside.run part c.in-Some.time c.in-Some.ensures.time (before_end g (goal.at.returns-clause-sooner g c).In-Some)
    c.make_round.new.run (c.in_ok-stop.ensures.going none) (c.in_ok-stop.ensures.underway none))
