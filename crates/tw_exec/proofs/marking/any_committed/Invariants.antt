-- Whether one of the components so far has such a step.
use Rattle.std.proofs.Common.{◌≡◌, map, take}
use Rattle.tw_theory.specs.Marks.{any_committed}
use Rattle.tw_exec.proofs.marking.any_committed.Given as goal

abbrev pub invariant-loop-c : goal.invariant-loop-c
invariant-loop-c g l = l.any ≡ any_committed l.gvt (take l.c l.stamps) (map (λ p. p.process) (take l.c l.processes)) (take l.c l.columns)
