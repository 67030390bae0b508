use Rattle.std.proofs.Common.{◌≡◌, map, take}
use Rattle.tw_theory.specs.Traces.{least_line}
use Rattle.tw_exec.proofs.lines.least_line.Given as goal

abbrev pub invariant-loop-process : goal.invariant-loop-process
invariant-loop-process g l = l.least ≡ least_line (map (λ p. p.process) (take l.process-index l.processes))
