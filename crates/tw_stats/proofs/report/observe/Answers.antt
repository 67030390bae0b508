use Rattle.tw_stats.specs.Reports.{TellsObservation}
use Rattle.tw_figures.proofs.Zipping.{zip_more_at}
use Rattle.tw_stats.proofs.report.observe.Goals as goal

pub loop-watch-preserved : goal.loop-watch-preserved
loop-watch-preserved c =
    zip_more_at TellsObservation c.args.watches.now c.loop-watch.observations.items c.loop-watch.watch-index _ c.observed.result _
    c.loop-watch-test.true c.in_ok-push.ensures.items c.loop-watch.invariant (record { tells = λ from start moves h. c.observed.ensures from start moves h })
