use Rattle.std.proofs.Common.{◌≡◌, ◌≤◌, arith, rules, subst, sym}
use Rattle.tw_figures.proofs.Steady.{run_steady}
use Rattle.tw_figures.specs.Figures.{IsSteady}
use Rattle.tw_models.specs.Model.{model_meaning}
use Rattle.tw_network.specs.Contents.{network_of}
use Rattle.tw_theory.specs.Simulator.{sequential}
use Rattle.tw_vtime.specs.Stamps.{max_tick}
use Rattle.tw_test_stats.proofs.made.assert_changes.Goals as goal

pub write_figures_of-written-requires : goal.write_figures_of-written-requires
write_figures_of-written-requires g c =
    let net = network_of model_meaning c.args.network.now in
    let made : c.as_slice-2.result.now ≡ (sequential net 5).records = search rules in
    let small : 5 ≤ max_tick = omega arith in
    subst IsSteady (sym made) (run_steady net 5 c.facts.ensures.network small)
