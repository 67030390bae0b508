-- The items from here on complete the bags, and so do the places from here on.
use Rattle.std.proofs.Common.{◌≡◌, drop, length}
use Rattle.tw_network.specs.Contents.{network_of}
use Rattle.tw_rounds.specs.Dealing.{dealt}
use Rattle.tw_rounds.specs.Waking.{WakesAll}
use Rattle.tw_theory.specs.Network.{routed, copies}
use Rattle.tw_rounds.proofs.bags.route.Given as goal

abbrev pub invariant-loop-to : goal.invariant-loop-to
invariant-loop-to g l = record {
  bags : dealt 0 l.arrivals.bags.items (copies l.at l.value (drop l.to-index l.to-items)) ≡ dealt 0 l.initial.arrivals.bags.items (copies l.at l.value l.to-items);
  size : length l.arrivals.bags.items ≡ length l.initial.arrivals.bags.items;
  awake : WakesAll l.arrivals.bags.items l.arrivals.awake.items;
}

abbrev pub invariant-loop-port : goal.invariant-loop-port
invariant-loop-port g l =
    let net = network_of g.M.Atomic.meaning l.network in
    record {
      bags : dealt 0 l.arrivals.bags.items (routed net l.source l.at (drop l.port-index l.port-items)) ≡ dealt 0 l.initial.arrivals.bags.items (routed net l.source l.at l.port-items);
      size : length l.arrivals.bags.items ≡ length l.initial.arrivals.bags.items;
      awake : WakesAll l.arrivals.bags.items l.arrivals.awake.items;
    }
