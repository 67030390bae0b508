-- One component more.
use Rattle.std.proofs.Common.{◌∙◌, length, sym, ap, arith, add-one, slice_set}
use Rattle.tw_rounds.proofs.Dues.{begun, begun_size, begun_more, begun_all}
use Rattle.tw_rounds.proofs.rounds.start_agenda.Goals as goal

pub set-requires : goal.set-requires
set-requires g c =
    let size = ap length c.loop-component.invariant ∙ begun_size c.loop-component.component c.args.moments.now in
    let l = c.loop-component-test.true in
    omega (arith, size, l)

pub loop-component-preserved : goal.loop-component-preserved
loop-component-preserved g c =
    let moments = c.args.moments.now in
    let i = c.loop-component.component in
    let now = c.index-moments-component.result in
    let due = ap (λ m. m.due) c.now.view_is ∙ ap (λ m. m.due) c.index-moments-component.is in
    c.set.ensures
    ∙ (λ k. slice_set (c.loop-component.invariant k) i (due k))
    ∙ begun_more i moments now c.loop-component-test.true
    ∙ ap (λ n. begun n moments) (sym (add-one i))

pub returns : goal.returns
returns g c = c.loop-component.invariant ∙ begun_all c.loop-component.component c.args.moments.now c.loop-component-test.false
