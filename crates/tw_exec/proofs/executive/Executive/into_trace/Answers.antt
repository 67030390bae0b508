use Rattle.std.proofs.Common.{◌≡◌, ℕ, ap, map, subst, ◌∙◌, Ok}
use Rattle.tw_exec.proofs.LeastLines.{held_columns, merged_before, merged_there}
use Rattle.tw_network.specs.Contents.{network_of}
use Rattle.tw_theory.specs.Simulator.{sequential}
use Rattle.tw_theory.specs.Traces.{IsMerged, before, least_line}
use Rattle.tw_exec.proofs.executive.Executive.into_trace.Goals as goal

pub into_trace-requires : goal.into_trace-requires
into_trace-requires g c = held_columns c.self.invariant.0

pub returns-in-Ok-clause-sequential : goal.returns-in-Ok-clause-sequential
returns-in-Ok-clause-sequential g c =
    subst (λ e. c.in-Ok.trace.items ≡ before (least_line e.world.processes) (sequential (network_of g.M.Atomic.meaning e.network) e.until).records) c.self.view_is
    (merged_before c.self.invariant.0 {E = ℕ} c.least_line-line.result (Ok c.in-Ok.trace) (c.least_line-line.ensures ∙ ap (λ ps. least_line (map (λ p. p.process) ps)) c.as_slice.ensures.value) c.in-Ok.ensures.trace c.in-Ok.ensures.records)

pub returns-in-Ok-clause-merged : goal.returns-in-Ok-clause-merged
returns-in-Ok-clause-merged g c =
    subst (λ e. IsMerged (least_line e.world.processes) e.world c.in-Ok.trace.items) c.self.view_is
    (merged_there c.self.invariant.0 {E = ℕ} c.least_line-line.result (Ok c.in-Ok.trace) (c.least_line-line.ensures ∙ ap (λ ps. least_line (map (λ p. p.process) ps)) c.as_slice.ensures.value) c.in-Ok.ensures.trace c.in-Ok.ensures.records)
