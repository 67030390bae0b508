use Rattle.std.proofs.Common.{take}
use Rattle.std.specs.List.{AllZip}
use Rattle.tw_stats.specs.Reports.{TellsObservation}
use Rattle.tw_stats.proofs.report.observe.Given as goal

abbrev pub invariant-loop-watch : goal.invariant-loop-watch
invariant-loop-watch l = AllZip TellsObservation (take l.watch-index l.watches) l.observations.items
