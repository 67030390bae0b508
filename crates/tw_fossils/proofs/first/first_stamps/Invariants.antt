-- The heads of the columns so far.
use Rattle.std.proofs.Common.{◌≡◌}
use Rattle.tw_fossils.proofs.Counting.{begun}
use Rattle.tw_fossils.proofs.first.first_stamps.Given as goal

abbrev pub invariant-loop-number : goal.invariant-loop-number
invariant-loop-number l = l.heads.times ≡ begun l.line l.number l.columns
