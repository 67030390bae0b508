-- The head of one column more.
use Rattle.std.proofs.Common.{◌≡◌, length, ap, sym, ◌∙◌, arith, add-one, slice_set}
use Rattle.tw_fossils.proofs.Counting.{begun, begun_size, begun_more, begun_all}
use Rattle.tw_fossils.specs.Merging.{head_before}
use Rattle.tw_fossils.proofs.first.first_stamps.Goals as goal

pub set-requires : goal.set-requires
set-requires c =
    omega (arith, ap length c.loop-number.invariant, begun_size c.args.line c.loop-number.number c.args.columns.now, c.loop-number-test.true)

pub loop-number-preserved : goal.loop-number-preserved
loop-number-preserved c =
    let i = c.loop-number.number in
    let column = c.index-columns-number.result in
    let head : c.stamp_before.result ≡ head_before c.args.line column = c.stamp_before.ensures c.records.result.now c.first.ensures.item ∙ ap (head_before c.args.line) c.records.ensures in
    c.set.ensures
    ∙ (λ k. slice_set (c.loop-number.invariant k) i (head k))
    ∙ begun_more c.args.line i c.args.columns.now column c.loop-number-test.true c.index-columns-number.is
    ∙ ap (λ n. begun c.args.line n c.args.columns.now) (sym (add-one i))

pub returns : goal.returns
returns c = c.loop-number.invariant ∙ begun_all c.args.line c.loop-number.number c.args.columns.now c.loop-number-test.false
