-- What lies in the vector after the sort is what the slice holds, which is the one sorted permutation.
use Rattle.std.proofs.Common.{◌≡◌, ◌∙◌, ◌≤◌, length, subst, sym, ap, arith}
use Rattle.std.specs.List.{refill}
use Rattle.std.specs.List.Sorted.{IsPermutation}
use Rattle.std.proofs.lemmas.Grind.{common_steps}
use Rattle.tw_msgs.specs.Bags.{Bag, IsSorted}
use Rattle.tw_msgs.proofs.Bags.{IsSorted-from, short-sorted, sorted_bag-only}
use Rattle.tw_msgs.proofs.bag.Bag.sort.Goals as goal
use Rattle.tw_msgs.proofs.bag.Bag.sort.Goals.{Else-len-gt1}

pub returns-then-len-gt1-clause-sorted : goal.returns-then-len-gt1-clause-sorted
returns-then-len-gt1-clause-sorted c =
    let held = c.as_mut_slice.ensures.value ∙ c.self.view_is in
    let same : IsPermutation c.args.self.now c.sort_unstable.new.self = subst (λ (b : Bag). IsPermutation b c.sort_unstable.new.self) held c.sort_unstable.ensures.permutation in
    let filled : refill (length c.self.inside.items.items) c.self.inside.items.items c.sort_unstable.new.self ≡ c.sort_unstable.new.self = grind (arith, common_steps) in
    filled ∙ sorted_bag-only c.args.self.now c.sort_unstable.new.self same c.sort_unstable.ensures.sorted

pub returns-then-len-gt1-clause-in_order : goal.returns-then-len-gt1-clause-in_order
returns-then-len-gt1-clause-in_order c =
    let filled : refill (length c.self.inside.items.items) c.self.inside.items.items c.sort_unstable.new.self ≡ c.sort_unstable.new.self = grind (arith, common_steps) in
    subst IsSorted (sym filled) (IsSorted-from c.sort_unstable.new.self c.sort_unstable.ensures.sorted)

-- one item at most
short : (c : Else-len-gt1) → length c.args.self.now ≤ 1
short c =
    let n = c.len.ensures.value ∙ ap length c.self.view_is in
    let l = c.if-len-gt1.false in
    omega (arith, n, l)

pub returns-else-len-gt1-clause-in_order : goal.returns-else-len-gt1-clause-in_order
returns-else-len-gt1-clause-in_order c = (short-sorted c.args.self.now (short c)).0

pub returns-else-len-gt1-clause-sorted : goal.returns-else-len-gt1-clause-sorted
returns-else-len-gt1-clause-sorted c = (short-sorted c.args.self.now (short c)).1
