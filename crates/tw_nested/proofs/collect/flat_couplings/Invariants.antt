use Rattle.tw_nested.specs.Flat.{IsCollected}
use Rattle.tw_nested.proofs.collect.flat_couplings.Given as goal

abbrev pub invariant-loop-from : goal.invariant-loop-from
invariant-loop-from l = IsCollected l.count l.edges l.atoms l.flat.items l.from 0
