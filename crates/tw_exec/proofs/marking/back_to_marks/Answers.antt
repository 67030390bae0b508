use Rattle.std.proofs.Common.{◌≡◌, suc, ◌+◌, length, map, take, Some, refl, ap, sym, ◌∙◌, arith}
use Rattle.std.specs.Prelude.{slice_get, slice_set}
use Rattle.std.proofs.lemmas.List.{length-set}
use Rattle.std.proofs.lemmas.Option.{slice_get_read}
use Rattle.tw_exec.specs.Rewinding.{at_marks}
use Rattle.tw_exec.proofs.Marks.{cut_more, same_there, steps_more}
use Rattle.tw_theory.specs.Marks.{rewound_steps}
use Rattle.tw_exec.proofs.marking.back_to_marks.Goals as goal

pub loop-c-preserved : goal.loop-c-preserved
loop-c-preserved g c =
    let k = c.loop-c.c in
    let ss = c.args.stamps.now in
    let ps = c.args.processes.now.items in
    let now = c.loop-c.processes in
    let old = c.index_mut.result.now in
    let stamp_at = slice_get_read ss (length ss) k c.index-stamps-c.result refl c.loop-c-test.true c.index-stamps-c.is in
    let here = slice_get_read now.items (length now.items) k old refl (omega (arith, c.loop-c-test.true, c.loop-c.invariant.many, c.requires)) c.index_mut.ensures.value in
    let at : slice_get ps k ≡ Some old = sym (same_there k ss ps) ∙ ap (λ l. slice_get l k) (sym c.loop-c.invariant.cut) ∙ here in
    let next : suc k ≡ k + 1 = omega arith in
    let more = ap (λ n. rewound_steps (take n ss) (map (λ p. p.process) ps)) next in
    record {
      cut = (λ i. slice_set (c.loop-c.invariant.cut i) k (c.back_to-undone.ensures.cut i)) ∙ sym (cut_more k ss ps c.index-stamps-c.result old stamp_at at) ∙ ap (λ n. at_marks (take n ss) ps) next;
      many = length-set now.items k c.back_to-undone.new.process ∙ c.loop-c.invariant.many;
      counted = omega (arith, c.saturating_add-count.ensures, c.loop-c.invariant.counted, c.back_to-undone.ensures.count, steps_more k ss ps c.index-stamps-c.result old stamp_at at, more);
    }
