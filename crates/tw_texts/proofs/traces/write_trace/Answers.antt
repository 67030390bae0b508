use Rattle.std.proofs.Common.{◌∙◌, ◌++◌, ap}
use Rattle.tw_texts.specs.Texts.{record_line, step_line}
use Rattle.tw_texts.proofs.Portions.{moved_more, all_out, moved_is_beginning}
use Rattle.tw_texts.proofs.traces.write_trace.Goals as goal

pub returns-in_default-clause-err : goal.returns-in_default-clause-err
returns-in_default-clause-err g c =
    λ refused. moved_is_beginning (λ r. record_line (g.N.Names.name_of c.args.names.now r.component) r) _ _ c.args.records.now
    c.loop-record.record-index _ c.loop-record.invariant

pub returns-in_default-add-clause-err : goal.returns-in_default-add-clause-err
returns-in_default-add-clause-err g c =
    λ refused. moved_is_beginning (λ r. record_line (g.N.Names.name_of c.args.names.now r.component) r) _ _ c.args.records.now
    c.loop-record.record-index _ c.loop-record.invariant

pub loop-record-preserved : goal.loop-record-preserved
loop-record-preserved g c =
    moved_more (λ r. record_line (g.N.Names.name_of c.args.names.now r.component) r) _ _ _ c.args.records.now
    c.loop-record.record-index c.record-item.result _ _ _ c.loop-record-test.true c.record-item.is
    (c.in-Ok-add.ensures
    ∙ ap (λ bag. c.loop-record.lines.text ++ step_line c.name-name.result.now c.record-item.result.stamp c.record-item.result.kind bag c.as_slice.result.now) c.as_slice-bag.ensures
    ∙ ap (λ words. c.loop-record.lines.text ++ step_line c.name-name.result.now c.record-item.result.stamp c.record-item.result.kind c.record-item.result.bag words)
    (c.as_slice.ensures.value ∙ c.in-Ok.ensures.ok ∙ ap (λ empty. empty ++ c.record-item.result.words) c.clear.ensures.items)
    ∙ ap (λ name. c.loop-record.lines.text ++ record_line name c.record-item.result) c.name-name.ensures) c.loop-record.invariant c.in_ok-write_portion.ensures.ok

pub returns-clause-ok : goal.returns-clause-ok
returns-clause-ok g c =
    all_out c.write_out.result (λ r. record_line (g.N.Names.name_of c.args.names.now r.component) r) _ _ _ c.args.records.now
    c.loop-record.record-index _ c.loop-record-test.false c.loop-record.invariant c.write_out.ensures.ok
