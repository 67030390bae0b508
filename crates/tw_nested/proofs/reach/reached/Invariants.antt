use Rattle.std.proofs.Common.{◌≡◌, length}
use Rattle.tw_nested.proofs.Passes.{IsPass}
use Rattle.tw_nested.proofs.reach.reached.Given as goal

abbrev pub invariant-loop-from : goal.invariant-loop-from
invariant-loop-from l = (length l.seen.items ≡ l.count) × IsPass l.edges l.start l.seen.items l.from-index
