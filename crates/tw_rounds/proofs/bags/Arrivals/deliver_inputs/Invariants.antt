-- The inputs from here on complete the bags.
use Rattle.std.proofs.Common.{◌≡◌, ◌<◌, ◌≤◌, ◌-◌, drop, length}
use Rattle.std.specs.List.{AllByRecursion as Each}
use Rattle.tw_rounds.specs.Dealing.{dealt}
use Rattle.tw_rounds.specs.Waking.{WakesAll}
use Rattle.tw_theory.specs.Bundles.{Ascending}
use Rattle.tw_theory.specs.Simulator.{with_stamp, past_stamp}
use Rattle.tw_rounds.proofs.bags.Arrivals.deliver_inputs.Given as goal

abbrev pub invariant-loop-next : goal.invariant-loop-next
invariant-loop-next l = record {
  bags : dealt 0 l.self.bags.items (with_stamp l.at (drop l.next l.inputs)) ≡ dealt 0 l.fn.self.bags.items (with_stamp l.at (drop l.fn.given l.inputs));
  past : past_stamp l.at (drop l.next l.inputs) ≡ past_stamp l.at (drop l.fn.given l.inputs);
  awake : WakesAll l.self.bags.items l.self.awake.items;
  size : length l.self.bags.items ≡ length l.fn.self.bags.items;
  to : Each (λ m. m.to < length l.fn.self.bags.items) (drop l.next l.inputs);
  order : Ascending (drop l.next l.inputs);
  from : Each (λ m. l.at ≤ m.stamp) (drop l.next l.inputs);
}

abbrev pub decreases-loop-next : goal.decreases-loop-next
decreases-loop-next l = length l.inputs - l.next
