use Rattle.std.proofs.Common.{◌≡◌, [], take}
use Rattle.tw_figures.specs.Gathered.{IsGathered, followed_in_all, followed_of_all, start_words}
use Rattle.tw_network.specs.Contents.{network_of}
use Rattle.tw_stats.proofs.gathering.start.Given as goal

abbrev pub invariant-loop-component : goal.invariant-loop-component
invariant-loop-component g l = record {
  gathered : IsGathered l.from (take l.component (start_words (network_of g.M.Atomic.meaning l.network))) [] l.gathered;
  followed : followed_of_all l.gathered.members.items ≡ take l.component (followed_in_all l.labels);
}
