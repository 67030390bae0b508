use Rattle.std.proofs.Common.{◌≡◌, ◌+◌, ◌≤◌, length}
use Rattle.tw_process.specs.Process.{with_cut}
use Rattle.tw_theory.specs.Contents.{steps_from}
use Rattle.tw_rollback.proofs.rollback.back_to.Given as goal

abbrev pub invariant-loop-last : goal.invariant-loop-last
invariant-loop-last g l = record {
  same : with_cut l.stamp l.process ≡ with_cut l.stamp l.fn.process;
  before_is : l.before ≡ length l.fn.process.process.history;
  left : l.before + steps_from l.stamp l.process.process ≡ steps_from l.stamp l.fn.process.process + length l.process.process.history;
  shorter : length l.process.process.history ≤ l.before;
}

abbrev pub decreases-loop-last : goal.decreases-loop-last
decreases-loop-last g l = length l.process.process.history
