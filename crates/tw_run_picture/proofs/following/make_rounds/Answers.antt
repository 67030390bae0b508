-- Round by round, as for any receiver of the records.
use Rattle.std.proofs.Common.{◌∙◌, ◌++◌, [], inr, refl, ap, subst}
use Rattle.tw_network.specs.Contents.{network_of}
use Rattle.tw_rounds.specs.Stepping.{IsAdvanced}
use Rattle.tw_theory.specs.Simulator.{sequential}
use Rattle.tw_run_picture.proofs.following.make_rounds.Goals as goal

pub loop-transitions-init : goal.loop-transitions-init
loop-transitions-init g c = record {
  done = [];
  so_far = c.requires;
  until = refl;
}

pub advance-requires : goal.advance-requires
advance-requires g c = (c.loop-transitions.invariant.done, c.loop-transitions.invariant.so_far)

pub loop-transitions-preserved : goal.loop-transitions-preserved
loop-transitions-preserved g c =
    let inv = c.loop-transitions.invariant in
    let made = subst (IsAdvanced _ g.M.Atomic.valid g.M.Atomic.meaning c.args.network.now c.loop-transitions.simulation c.advance.new.simulation c.loop-transitions.outputs c.advance.new.outputs c.loop-transitions.transitions c.advance.new.transitions) c.in-Round.is c.in_ok-step.ensures.step in
    record {
      done = inv.done ++ (made.outs ++ made.turns);
      so_far = made.on inv.done inv.so_far;
      until = c.in_ok-step.ensures.until ∙ inv.until;
    }

-- the records of the last outputs are those that are left of the whole run
pub returns-in-End : goal.returns-in-End
returns-in-End g c =
    let inv = c.loop-transitions.invariant in
    let last = subst (IsAdvanced _ g.M.Atomic.valid g.M.Atomic.meaning c.args.network.now c.loop-transitions.simulation c.advance.new.simulation c.loop-transitions.outputs c.advance.new.outputs c.loop-transitions.transitions c.advance.new.transitions) c.in-End.is c.in_ok-step.ensures.step in
    inr ((last.all inv.done inv.so_far).fault ∙ ap (λ u. (sequential (network_of g.M.Atomic.meaning c.args.network.now) u).fault) inv.until)
