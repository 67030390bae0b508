use Rattle.std.proofs.Common.{arith}
use Rattle.tw_nested.proofs.reach.sources.Goals as goal

pub returns-clause-all : goal.returns-clause-all
returns-clause-all c = λ k d lt. c.loop-from.invariant.1 k d (omega (arith, lt, c.loop-from-test.false))
