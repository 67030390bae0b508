use Rattle.std.proofs.Common.{◌≡◌, ℕ, ap, map, subst, sym, ◌∙◌}
use Rattle.std.specs.Prelude.{IfOk}
use Rattle.tw_exec.proofs.LeastLines.{held_columns, merged_before, merged_there}
use Rattle.tw_fossils.specs.Columns.{AreColumns}
use Rattle.tw_network.specs.Contents.{network_of}
use Rattle.tw_theory.specs.Executive.{column_of}
use Rattle.tw_theory.specs.Simulator.{sequential}
use Rattle.tw_theory.specs.Traces.{IsMerged, before, least_line, of_component}
use Rattle.tw_exec.proofs.executive.Executive.trace.Goals as goal

pub merge-requires : goal.merge-requires
merge-requires g c = subst (AreColumns 0) (sym c.as_slice-2.ensures.value) (held_columns c.self.invariant.0)

pub returns-clause-sequential : goal.returns-clause-sequential
returns-clause-sequential g c =
    subst (λ e. IfOk c.merge.result (λ trace. trace.items ≡ before (least_line e.world.processes) (sequential (network_of g.M.Atomic.meaning e.network) e.until).records)) c.self.view_is
    (merged_before c.self.invariant.0 c.least_line-line.result c.merge.result (c.least_line-line.ensures ∙ ap (λ ps. least_line (map (λ p. p.process) ps)) c.as_slice.ensures.value) c.merge.ensures.trace (subst (λ cs. IfOk c.merge.result (λ trace. (k : ℕ) → of_component k trace.items ≡ before c.least_line-line.result (column_of cs k))) c.as_slice-2.ensures.value c.merge.ensures.records))

pub returns-clause-merged : goal.returns-clause-merged
returns-clause-merged g c =
    subst (λ e. IfOk c.merge.result (λ trace. IsMerged (least_line e.world.processes) e.world trace.items)) c.self.view_is
    (merged_there c.self.invariant.0 c.least_line-line.result c.merge.result (c.least_line-line.ensures ∙ ap (λ ps. least_line (map (λ p. p.process) ps)) c.as_slice.ensures.value) c.merge.ensures.trace (subst (λ cs. IfOk c.merge.result (λ trace. (k : ℕ) → of_component k trace.items ≡ before c.least_line-line.result (column_of cs k))) c.as_slice-2.ensures.value c.merge.ensures.records))
