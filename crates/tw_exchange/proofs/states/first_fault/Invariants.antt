-- No component so far meets a limit, and all is as it was.
use Rattle.std.proofs.Common.{◌≡◌}
use Rattle.tw_exchange.specs.States.{fault_from}
use Rattle.tw_exchange.proofs.states.first_fault.Given as goal

abbrev pub invariant-loop-component : goal.invariant-loop-component
invariant-loop-component g l = record {
  same : l.executive ≡ l.fn.executive;
  none : fault_from g.M.Atomic.meaning 0 l.fn.executive ≡ fault_from g.M.Atomic.meaning l.component l.fn.executive;
}
