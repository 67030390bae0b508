use Rattle.std.proofs.Common.{◌≡◌, ◌+◌, drop}
use Rattle.tw_machine.specs.Values.{place}
use Rattle.tw_machine.proofs.values.place.Given as goal

-- as many as were passed, and those at the front of what is left
abbrev pub invariant-loop-other : goal.invariant-loop-other
invariant-loop-other l = record { passed : l.count ≡ l.other-index; rest : l.count + place l.value (drop l.other-index l.values) ≡ place l.value l.values }
