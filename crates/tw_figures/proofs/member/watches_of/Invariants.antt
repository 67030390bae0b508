use Rattle.std.proofs.Common.{◌≡◌, [], ℕ, map, take}
use Rattle.std.specs.List.{All}
use Rattle.tw_figures.specs.Observed.{IsWatch}
use Rattle.tw_figures.proofs.member.watches_of.Given as goal

abbrev pub invariant-loop-observation : goal.invariant-loop-observation
invariant-loop-observation l = record {
  watches : (from : ℕ) → All (IsWatch from l.words []) l.watches.items;
  places : map (λ w. w.place) l.watches.items ≡ map (λ o. o.place) (take l.observation-index l.observations);
}
