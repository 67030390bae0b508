use Rattle.std.proofs.Common.{◌-◌, ◌++◌, drop, length, arith, ap, subst, sym, ◌∙◌}
use Rattle.tw_msgs.specs.Messages.{Sorted}
use Rattle.tw_lists.specs.Lists.{restored}
use Rattle.tw_lists.proofs.Loops.{restored_more, restored_sorted, tail_is}
use Rattle.tw_lists.proofs.lists.EventLists.restore.Goals as goal

pub restore_last-requires-clause-sorted : goal.restore_last-requires-clause-sorted
restore_last-requires-clause-sorted c =
    subst (λ v. Sorted (drop (length v.consumed - 1) v.consumed ++ v.pending)) (sym c.loop.invariant.restored_so_far)
    (restored_sorted c.args.self.now c.loop.counter c.args.n (omega arith) c.requires.n c.requires.sorted)

pub restore_last-requires-clause-some : goal.restore_last-requires-clause-some
restore_last-requires-clause-some c none = (tail_is c.args.self.now.consumed c.args.self.now.pending c.loop.counter (omega (arith, c.requires.n))).some (sym (ap (λ v. v.consumed) c.loop.invariant.restored_so_far) ∙ none)

pub loop-preserved : goal.loop-preserved
loop-preserved c = record {
  restored_so_far = c.restore_last.ensures ∙ ap (restored 1) c.loop.invariant.restored_so_far ∙ restored_more c.args.self.now c.loop.counter (omega (arith, c.requires.n));
}
