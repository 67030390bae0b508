use Rattle.std.proofs.Common.{◌≡◌, ◌<◌, ◌+◌, length, drop, set}
use Rattle.tw_tournament.specs.Winners.{IsWonBut}
use Rattle.tw_tournament.proofs.playing.play.Given as goal

-- the winner that may be wrong is the one to be played next; the row stays
abbrev pub invariant-loop-upper : goal.invariant-loop-upper
invariant-loop-upper l = record {
  size : length l.winners ≡ l.row + l.row;
  above : l.upper < l.row;
  row : drop l.row l.winners ≡ drop l.row (set l.fn.winners l.place l.fn.time);
  won : IsWonBut l.upper l.winners l.row;
}

abbrev pub decreases-loop-upper : goal.decreases-loop-upper
decreases-loop-upper l = l.upper
