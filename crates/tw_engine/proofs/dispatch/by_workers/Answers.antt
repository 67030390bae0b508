use Rattle.std.proofs.Common.{◌∙◌, ap, subst, sym}
use Rattle.tw_cli.specs.declared.jobs.Task.{Task}
use Rattle.tw_cli.specs.declared.jobs.Task.TheVariants.{Stats}
use Rattle.tw_engine.specs.Jobs.{IsTaskDone}
use Rattle.tw_engine.proofs.dispatch.by_workers.Goals as goal

pub returns-in-Some : goal.returns-in-Some
returns-in-Some g c =
    let here = c.in-Stats in
    let old = g.W.Write.contents c.args.out.now in
    let new = g.W.Write.contents c.stats_by_workers.new.out in
    λ script. subst (λ (t : Task). IsTaskDone t c.args.until c.of_view.result c.args.bytes.now script old new)
    (sym (here.is ∙ ap (λ by. Stats here.from here.only here.json here.progress by) c.in-Some.is))
    (c.stats_by_workers.result, c.of_view.ensures, c.stats_by_workers.ensures)
