-- The least of the processes so far.
use Rattle.std.proofs.Common.{◌≡◌, map, take}
use Rattle.tw_theory.specs.Executive.{least_next}
use Rattle.tw_gvt.proofs.least.least_of.Given as goal

abbrev pub invariant-loop-process : goal.invariant-loop-process
invariant-loop-process g l = l.least ≡ least_next (map (λ p. p.process) (take l.process-index l.processes))
