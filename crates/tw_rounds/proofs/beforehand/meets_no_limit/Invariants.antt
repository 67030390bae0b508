-- The first components are in time, as they tell and as they are.
use Rattle.std.proofs.Common.{take}
use Rattle.std.specs.List.{AllByRecursion as Each}
use Rattle.tw_rounds.specs.InTime.{EndsInTime, IsInTime}
use Rattle.tw_rounds.proofs.beforehand.meets_no_limit.Given as goal

abbrev pub invariant-loop-component : goal.invariant-loop-component
invariant-loop-component g l =
    Each (λ m. IsInTime l.until (g.M.Atomic.longest m)) (take l.component l.network.models)
    × Each (λ m. EndsInTime l.until (g.M.Atomic.meaning m)) (take l.component l.network.models)
