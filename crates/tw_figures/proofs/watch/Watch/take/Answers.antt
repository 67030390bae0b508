use Rattle.std.proofs.Common.{◌∙◌, ◌<◌, ◌≤◌, ap, subst, sym}
use Rattle.tw_figures.specs.Observed.{power_sums}
use Rattle.tw_figures.proofs.Watching.{comes_on, counts_on}
use Rattle.tw_figures.proofs.watch.Watch.take.Goals as goal

pub returns-then-tick-from-clause-watch : goal.returns-then-tick-from-clause-watch
returns-then-tick-from-clause-watch c start moves r at said next h =
    let old = c.args.self.now in
    comes_on c.args.from start moves r old h c.new-self.result (c.new-self.ensures ∙ ap (power_sums old.place) (sym said))
    (subst (λ n. n < c.args.from) (sym at) c.if-tick-from.true) next

pub returns-else-tick-from-clause-watch : goal.returns-else-tick-from-clause-watch
returns-else-tick-from-clause-watch c start moves r at said next h =
    let old = c.args.self.now in
    counts_on c.args.from start moves r old h c.new-self.result (c.new-self.ensures ∙ ap (power_sums old.place) (sym said))
    (subst (λ n. c.args.from ≤ n) (sym at) c.if-tick-from.false)
