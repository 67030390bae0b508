use Rattle.tw_nested.specs.Flat.{IsCollected}
use Rattle.tw_nested.proofs.collect.collect.Given as goal

abbrev pub invariant-loop-to : goal.invariant-loop-to
invariant-loop-to l = IsCollected l.count l.edges l.atoms l.flat.items l.from l.to
