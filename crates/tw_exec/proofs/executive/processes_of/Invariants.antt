-- The processes so far, each at the start of its component.
use Rattle.std.proofs.Common.{◌≡◌, length}
use Rattle.std.specs.Arc.{arc_value}
use Rattle.tw_exec.specs.Running.{AreNew}
use Rattle.tw_exec.proofs.executive.processes_of.Given as goal

abbrev pub invariant-loop-component : goal.invariant-loop-component
invariant-loop-component g l = record {
  made : AreNew g.M.Atomic.meaning (arc_value l.network) l.cancel l.processes.items;
  count : length l.processes.items ≡ l.component;
}
