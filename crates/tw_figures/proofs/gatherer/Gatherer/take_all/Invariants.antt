use Rattle.std.proofs.Common.{◌≡◌, ◌++◌, ℕ, ℤ, List, take}
use Rattle.tw_msgs.specs.declared.record.Record.{Record}
use Rattle.tw_figures.specs.Figures.{IsSteady}
use Rattle.tw_figures.specs.Gathered.{IsGathered, followed_of_all}
use Rattle.tw_figures.proofs.gatherer.Gatherer.take_all.Given as goal

abbrev pub invariant-loop-step : goal.invariant-loop-step
invariant-loop-step l = record {
  gathered : (from : ℕ) (starts : List (List ℤ)) (records : List Record) → IsSteady (records ++ l.steps) → IsGathered from starts records l.fn.self
      → IsGathered from starts (records ++ take l.step-index l.steps) l.self;
  followed : followed_of_all l.self.members.items ≡ followed_of_all l.fn.self.members.items;
}
