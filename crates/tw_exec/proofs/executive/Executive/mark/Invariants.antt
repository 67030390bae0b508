-- The marks of the components so far.
use Rattle.std.proofs.Common.{◌≡◌, take}
use Rattle.tw_theory.specs.Marks.{marks}
use Rattle.tw_exec.proofs.executive.Executive.mark.Given as goal

abbrev pub invariant-loop-process : goal.invariant-loop-process
invariant-loop-process g l = l.stamps.items ≡ marks (take l.process-index l.self.world.processes)
