use Rattle.std.proofs.Common.{◌≡◌, ◌<◌, [], length, ap, sym, subst, ◌∙◌, arith}
use Rattle.std.specs.Prelude.{IsSomeAnd, slice_get}
use Rattle.std.proofs.lemmas.Option.{get_or_from_slice_get, slice_get_read}
use Rattle.tw_exec.proofs.Kept.{as_many_columns, columns_of_models, sequential}
use Rattle.tw_network.specs.Contents.{network_of}
use Rattle.tw_theory.specs.Executive.{column_of}
use Rattle.tw_theory.specs.Simulator.{records_before}
use Rattle.tw_exec.proofs.executive.Executive.committed.Goals as goal

pub returns-clause-sequential : goal.returns-clause-sequential
returns-clause-sequential g c =
    let columns = c.self.inside.columns in
    let models = columns_of_models c.self.invariant.0 in
    let near : c.args.component < length columns.items = omega (arith, c.requires, ap (λ e. length e.network.models) c.self.view_is, models) in
    let at = slice_get_read columns.items _ c.args.component c.index.result.now columns.ok.0 (omega (arith, near, columns.ok.0)) c.index.ensures in
    let column : c.records.result.now ≡ column_of columns.items c.args.component = c.records.ensures ∙ sym (get_or_from_slice_get columns.items c.args.component c.index.result.now [] at) in
    subst (λ e. IsSomeAnd (slice_get e.world.processes c.args.component) (λ p. c.records.result.now ≡ records_before (network_of g.M.Atomic.meaning e.network) e.until c.args.component p.line)) c.self.view_is
    (sequential c.self.invariant.0 c.args.component c.records.result.now (omega (arith, near, as_many_columns c.self.invariant.0)) column)
