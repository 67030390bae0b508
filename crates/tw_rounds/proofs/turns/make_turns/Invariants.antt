-- The components from here on stand as they did and have their bags; what they do completes the round.
use Rattle.std.proofs.Common.{◌≡◌, List, []}
use Rattle.tw_msgs.specs.declared.record.Record.{Record}
use Rattle.tw_rounds.specs.Agenda.{dues}
use Rattle.tw_rounds.specs.Receiving.{Receives}
use Rattle.tw_rounds.proofs.Sweeping.{onward}
use Rattle.tw_rounds.proofs.TurnsSwept.{Swept}
use Rattle.tw_rounds.proofs.turns.make_turns.Given as goal

abbrev pub invariant-loop-component : goal.invariant-loop-component
invariant-loop-component g l = record {
  told : List Record;
  received : Receives g.R.Receiver.takes l.initial.receiver told l.receiver;
  swept : Swept g.M.Atomic.valid g.M.Atomic.meaning l.round.network.now l.round.time l.initial.moments l.initial.bags [] (onward l.component-items l.component-index) l.moments l.bags told;
  agenda : l.agenda.times ≡ dues l.moments;
}
