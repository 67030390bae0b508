-- As many empty bags as were counted.
use Rattle.std.proofs.Common.{◌≡◌, [], replicate}
use Rattle.tw_rounds.proofs.bags.Arrivals.new.Given as goal

abbrev pub invariant-loop : goal.invariant-loop
invariant-loop l = l.bags.items ≡ replicate l.counter []
