use Rattle.std.proofs.Common.{◌<◌, ap, sym, subst, ◌∙◌}
use Rattle.std.specs.List.{AllByRecursion as Each}
use Rattle.tw_exec.proofs.Marks.{reaches_by}
use Rattle.tw_fossils.specs.Columns.{IsRising}
use Rattle.tw_theory.specs.Marks.{any_between}
use Rattle.tw_exec.proofs.marking.reaches.Goals as goal

pub returns-in-Some : goal.returns-in-Some
returns-in-Some c =
    let records = c.records.ensures in
    reaches_by c.args.from c.args.before c.ge.result c.records.result.now c.in-Some.last.now c.ge.ensures (sym c.in-Some.ensures.value)
    (subst IsRising (sym records) c.requires.rising) (subst (Each (λ r. r.stamp < c.args.before)) (sym records) c.requires.before)
    ∙ ap (any_between c.args.from c.args.before) records
