use Rattle.std.proofs.Common.{◌≡◌, pos, drop}
use Rattle.tw_machine.specs.Values.{sum_from}
use Rattle.tw_machine.proofs.values.sum_of.Given as goal

-- the sum so far, and what is left to add
abbrev pub invariant-loop-value : goal.invariant-loop-value
invariant-loop-value l = sum_from l.sum (drop l.value-index l.values) ≡ sum_from (pos 0) l.values
