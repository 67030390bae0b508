use Rattle.std.proofs.Common.{◌-◌, ◌≤◌}
use Rattle.tw_tournament.specs.Winners.{IsPower}
use Rattle.tw_tournament.proofs.tournament.row_of.Given as goal

abbrev pub invariant-loop-row : goal.invariant-loop-row
invariant-loop-row l = record {
  some : 1 ≤ l.row;
  bound : l.row ≤ 8589934592;
  power : IsPower l.row;
}

abbrev pub decreases-loop-row : goal.decreases-loop-row
decreases-loop-row l = l.count - l.row
