-- The outputs from here on complete the records and the bags.
use Rattle.std.proofs.Common.{◌≡◌, ◌++◌, List, drop, length}
use Rattle.tw_msgs.specs.declared.record.Record.{Record}
use Rattle.tw_network.specs.Contents.{network_of}
use Rattle.tw_rounds.specs.Dealing.{dealt}
use Rattle.tw_rounds.specs.Receiving.{Receives}
use Rattle.tw_rounds.specs.Waking.{WakesAll}
use Rattle.tw_theory.specs.Simulator.{outputs, all_sent}
use Rattle.tw_rounds.proofs.Sweeping.{onward}
use Rattle.tw_rounds.proofs.outputs.make_outputs.Given as goal

abbrev pub invariant-loop-component : goal.invariant-loop-component
invariant-loop-component g l =
    let net = network_of g.M.Atomic.meaning l.round.network.now in
    let from = onward l.imminent l.component-index in
    record {
      told : List Record;
      received : Receives g.R.Receiver.takes l.initial.receiver told l.receiver;
      records : told ++ outputs net l.round.time from (drop from l.moments) ≡ outputs net l.round.time 0 l.moments;
      bags : dealt 0 l.arrivals.bags.items (all_sent net (outputs net l.round.time from (drop from l.moments))) ≡ dealt 0 l.initial.arrivals.bags.items (all_sent net (outputs net l.round.time 0 l.moments));
      size : length l.arrivals.bags.items ≡ length l.initial.arrivals.bags.items;
      awake : WakesAll l.arrivals.bags.items l.arrivals.awake.items;
    }
