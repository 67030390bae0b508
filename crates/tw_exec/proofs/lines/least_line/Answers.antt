use Rattle.std.proofs.Common.{◌≡◌, ◌∙◌, min, ap, map, sym}
use Rattle.std.proofs.lemmas.List.{take_all}
use Rattle.tw_vtime.proofs.Comparing.{ord_min-is}
use Rattle.tw_theory.specs.Traces.{least_line}
use Rattle.tw_exec.proofs.LeastLines.{line_more}
use Rattle.tw_exec.proofs.lines.least_line.Goals as goal

pub loop-process-preserved : goal.loop-process-preserved
loop-process-preserved g c =
    let lesser : c.min-least.result ≡ min c.loop-process.least c.line.result = c.min-least.ensures ∙ ord_min-is c.loop-process.least c.line.result in
    lesser ∙ (λ i. min (c.loop-process.invariant i) (c.line.ensures i))
    ∙ sym (line_more c.args.processes.now c.loop-process.process-index c.process-item.result c.loop-process-test.true c.process-item.is)

pub returns : goal.returns
returns g c =
    c.loop-process.invariant ∙ ap (λ l. least_line (map (λ p. p.process) l)) (take_all c.loop-process.process-index c.args.processes.now c.loop-process-test.false)
