use Rattle.tw_figures.proofs.Watching.{AreTaking}
use Rattle.tw_figures.proofs.member.watch_on.Given as goal

abbrev pub invariant-loop-watch : goal.invariant-loop-watch
invariant-loop-watch l = AreTaking l.from l.tick l.words l.fn.watches l.watches l.watch-index
