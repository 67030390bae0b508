use Rattle.std.proofs.Common.{◌+◌, ◌-◌, ◌++◌, drop, length, ap, sym, subst, ◌∙◌, arith, refl, slice_index_or, pos}
use Rattle.std.proofs.Math.Seq.{drop-cons}
use Rattle.std.proofs.lemmas.List.{take_more}
use Rattle.tw_msgs.specs.Messages.{Sorted}
use Rattle.tw_lists.specs.Lists.{restored}
use Rattle.tw_lists.proofs.Parts.{part_none, part_more, part_back, part_differs, part_longer, part_whole}
use Rattle.tw_lists.proofs.lists.EventLists.consume_equal.Goals as goal

pub loop-item-init : goal.loop-item-init
loop-item-init c = record { taken_is = refl; part = part_none c.args.stamp c.args.bag.now c.args.self.now }

pub loop-item-preserved : goal.loop-item-preserved
loop-item-preserved c =
    let bag = c.args.bag.now in
    let n = c.loop-item.item-index in
    let item = slice_index_or bag n (0, pos 0) in
    let within = c.loop-item-test.true in
    let next = take_more bag n (0, pos 0) within in
    record {
      taken_is = ap (λ k. k + 1) c.loop-item.invariant.taken_is;
      part = part_more c.args.stamp n bag c.args.self.now c.loop-item.self c.loop-item.invariant.part c.consume_first.new.self item next (c.is_next.ensures.yes c.if-not-is_next.false) c.consume_first.ensures;
    }

pub restore-requires-clause-sorted : goal.restore-requires-clause-sorted
restore-requires-clause-sorted c =
    let back = part_back c.args.stamp c.loop-item.item-index c.args.bag.now c.args.self.now c.loop-item.self c.loop-item.invariant.part c.order_law.ensures in
    subst (λ k. Sorted (drop (length c.loop-item.self.consumed - k) c.loop-item.self.consumed ++ c.loop-item.self.pending)) (sym c.loop-item.invariant.taken_is) back.sorted

pub restore-requires-then-is_at-clause-sorted : goal.restore-requires-then-is_at-clause-sorted
restore-requires-then-is_at-clause-sorted c =
    let back = part_back c.args.stamp c.loop-item.item-index c.args.bag.now c.args.self.now c.loop-item.self c.loop-item.invariant.part c.order_law.ensures in
    subst (λ k. Sorted (drop (length c.loop-item.self.consumed - k) c.loop-item.self.consumed ++ c.loop-item.self.pending)) (sym c.loop-item.invariant.taken_is) back.sorted

pub returns-then-not-is_next-clause-no : goal.returns-then-not-is_next-clause-no
returns-then-not-is_next-clause-no c _ =
    let bag = c.args.bag.now in
    let n = c.loop-item.item-index in
    let item = slice_index_or bag n (0, pos 0) in
    let part = c.loop-item.invariant.part in
    let rest = drop-cons bag n (0, pos 0) c.loop-item-test.true in (
      part_differs c.args.stamp n bag c.args.self.now c.loop-item.self part item _ rest (c.is_next.ensures.no (c.if-not-is_next.true)),
      c.restore.ensures ∙ ap (λ k. restored k c.loop-item.self) c.loop-item.invariant.taken_is ∙ (part_back c.args.stamp n bag c.args.self.now c.loop-item.self part c.order_law.ensures).same,
    )

pub returns-then-is_at-clause-no : goal.returns-then-is_at-clause-no
returns-then-is_at-clause-no c _ =
    let bag = c.args.bag.now in
    let n = c.loop-item.item-index in
    let part = c.loop-item.invariant.part in (
      part_longer c.args.stamp n bag c.args.self.now c.loop-item.self part (omega (arith, c.loop-item.auto.item-index-end, c.loop-item-test.false)) (c.is_at.ensures.yes c.if-is_at.true),
      c.restore-then-is_at.ensures ∙ ap (λ k. restored k c.loop-item.self) c.loop-item.invariant.taken_is ∙ (part_back c.args.stamp n bag c.args.self.now c.loop-item.self part c.order_law.ensures).same,
    )

pub returns-clause-yes : goal.returns-clause-yes
returns-clause-yes c _ =
    let bag = c.args.bag.now in
    let n = c.loop-item.item-index in
    let part = c.loop-item.invariant.part in
    let all = part_whole c.args.stamp n bag c.args.self.now c.loop-item.self part (omega (arith, c.loop-item.auto.item-index-end, c.loop-item-test.false)) (c.is_at.ensures.no c.if-is_at.false) in
    (all.carry, all.same)
