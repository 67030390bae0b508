-- Round after round until none is left, or a fault.
use Rattle.std.proofs.Common.{◌∙◌, ◌++◌, refl, ap, subst}
use Rattle.tw_network.specs.Contents.{network_of}
use Rattle.tw_rounds.specs.Stepping.{IsAdvanced}
use Rattle.tw_theory.specs.Simulator.{sequential}
use Rattle.tw_listen.proofs.outcome.run_out.Goals as goal

pub loop-simulation-init : goal.loop-simulation-init
loop-simulation-init g c = record { done = c.requires.0; so_far = c.requires.1; until = refl }

pub advance-requires : goal.advance-requires
advance-requires g c = (c.loop-simulation.invariant.done, c.loop-simulation.invariant.so_far)

pub returns-in-End : goal.returns-in-End
returns-in-End g c =
    let inv = c.loop-simulation.invariant in
    let last = subst (IsAdvanced _ g.M.Atomic.valid g.M.Atomic.meaning c.args.network.now c.loop-simulation.simulation c.advance.new.simulation c.loop-simulation.outputs c.advance.new.outputs c.loop-simulation.transitions c.advance.new.transitions) c.in-End.is c.in_ok-step.ensures.step in
    (last.all inv.done inv.so_far).fault ∙ ap (λ u. (sequential (network_of g.M.Atomic.meaning c.args.network.now) u).fault) inv.until

pub loop-simulation-preserved : goal.loop-simulation-preserved
loop-simulation-preserved g c =
    let inv = c.loop-simulation.invariant in
    let made = subst (IsAdvanced _ g.M.Atomic.valid g.M.Atomic.meaning c.args.network.now c.loop-simulation.simulation c.advance.new.simulation c.loop-simulation.outputs c.advance.new.outputs c.loop-simulation.transitions c.advance.new.transitions) c.in-Round.is c.in_ok-step.ensures.step in
    record {
      done = inv.done ++ (made.outs ++ made.turns);
      so_far = made.on inv.done inv.so_far;
      until = c.in_ok-step.ensures.until ∙ inv.until;
    }
