-- None of the steps looked at stands between.
use Rattle.std.proofs.Common.{◌≡◌, ◌≤◌, drop, false, length}
use Rattle.tw_theory.specs.Contents.{records_of}
use Rattle.tw_theory.specs.Marks.{any_between}
use Rattle.tw_process.proofs.process.Process.has_step_between.Given as goal

abbrev pub invariant-loop-left : goal.invariant-loop-left
invariant-loop-left g l = record {
  within : l.left ≤ length l.self.process.history;
  none : any_between l.from l.before (drop l.left (records_of l.self.process.history)) ≡ false;
}

abbrev pub decreases-loop-left : goal.decreases-loop-left
decreases-loop-left g l = l.left
