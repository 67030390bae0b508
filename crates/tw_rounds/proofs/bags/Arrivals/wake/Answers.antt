-- Sorted, and each once.
use Rattle.tw_rounds.proofs.Woken.{once_rising, once_more, once_awake}
use Rattle.tw_rounds.proofs.bags.Arrivals.wake.Goals as goal

pub returns-clause-rising : goal.returns-clause-rising
returns-clause-rising c =
    once_rising c.args.self.now.awake.items c.args.imminent.now c.extend_from_slice.new.self.items c.sort_unstable.new.self.items c.dedup.new.self.items
    c.in_ok-extend_from_slice.ensures.items c.sort_unstable.ensures.permutation c.sort_unstable.ensures.sorted c.dedup.ensures.filtered

pub returns-clause-imminent : goal.returns-clause-imminent
returns-clause-imminent c =
    once_more c.args.self.now.awake.items c.args.imminent.now c.extend_from_slice.new.self.items c.sort_unstable.new.self.items c.dedup.new.self.items
    c.in_ok-extend_from_slice.ensures.items c.sort_unstable.ensures.permutation c.sort_unstable.ensures.sorted c.dedup.ensures.filtered

pub returns-clause-awake : goal.returns-clause-awake
returns-clause-awake c =
    once_awake c.args.self.now.awake.items c.args.imminent.now c.extend_from_slice.new.self.items c.sort_unstable.new.self.items c.dedup.new.self.items
    c.in_ok-extend_from_slice.ensures.items c.sort_unstable.ensures.permutation c.sort_unstable.ensures.sorted c.dedup.ensures.filtered
    c.args.self.now.bags.items c.requires.awake c.requires.imminent
