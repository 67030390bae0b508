use Rattle.std.proofs.Common.{◌≡◌, ◌∙◌, min, ap, map, sym}
use Rattle.std.proofs.lemmas.List.{take_all}
use Rattle.tw_theory.specs.Executive.{least_next}
use Rattle.tw_gvt.proofs.Leasts.{least_more}
use Rattle.tw_vtime.proofs.Comparing.{ord_min-is}
use Rattle.tw_gvt.proofs.least.least_of.Goals as goal

pub loop-process-preserved : goal.loop-process-preserved
loop-process-preserved g c =
    let lesser : c.min-least.result ≡ min c.loop-process.least c.least_in.result = c.min-least.ensures ∙ ord_min-is c.loop-process.least c.least_in.result in
    lesser ∙ (λ i. min (c.loop-process.invariant i) (c.least_in.ensures i))
    ∙ sym (least_more c.args.processes.now c.loop-process.process-index c.process-item.result c.loop-process-test.true c.process-item.is)

pub returns : goal.returns
returns g c =
    let lesser : c.min.result ≡ min c.loop-process.least c.least.result = c.min.ensures ∙ ord_min-is c.loop-process.least c.least.result in
    let all = take_all c.loop-process.process-index c.args.processes.now c.loop-process-test.false in
    lesser ∙ (λ i. min ((c.loop-process.invariant ∙ ap (λ l. least_next (map (λ p. p.process) l)) all) i) (c.least.ensures i))
