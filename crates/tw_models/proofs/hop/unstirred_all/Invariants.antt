use Rattle.std.proofs.Common.{◌≡◌, ◌≤◌, length, take}
use Rattle.tw_models.specs.Hop.{unstirred_all}
use Rattle.tw_models.proofs.hop.unstirred_all.Given as goal

abbrev pub invariant-loop-left : goal.invariant-loop-left
invariant-loop-left l = record { within : l.left ≤ length l.bag; rest : unstirred_all l.x (take l.left l.bag) ≡ unstirred_all l.fn.x l.bag }

abbrev pub decreases-loop-left : goal.decreases-loop-left
decreases-loop-left l = l.left
