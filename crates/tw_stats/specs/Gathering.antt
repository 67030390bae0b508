-- What is gathered of a network's run.
--     run_ticks until fault      how many ticks a run has that ends in this fault, or in none
--     BeforeEnd fault      its stamp is not the end of time
--     IsMade run made      a run that is made has the records and the fault of this one
--     IsGathering starts rs met labels from until g      what is gathered of a run with these records that ends in this fault, or in none
use Rattle.std.specs.Prelude.{◌≡◌, ◌≢◌, ◌≤◌, ℕ, ℤ, List, Option, Some, None, max}
use Rattle.std.specs.List.{All}
use Rattle.tw_figures.specs.Gathered.{IsGathered, followed_in_all, followed_of_all}
use Rattle.tw_figures.specs.declared.labels.Labels.{Labels}
use Rattle.tw_msgs.specs.declared.record.Record.{Record}
use Rattle.tw_stats.specs.declared.gathering.Gathering.{Gathering}
use Rattle.tw_stats.specs.declared.gathering.MadeRun.{MadeRun}
use Rattle.tw_vtime.specs.Stamps.{never, tick_of}
use Rattle.tw_theory.specs.Simulator.{Fault, Run}

-- up to the end tick, or up to that of the fault
abbrev pub run_ticks : ℕ → Option Fault → ℕ
run_ticks until None = until
run_ticks until (Some fault) = tick_of fault.stamp

abbrev pub BeforeEnd : Option Fault → Type 0
BeforeEnd None = Unit {0}
BeforeEnd (Some fault) = fault.stamp ≢ never

pub record IsMade {S : Type 0} (run : Run S) (made : MadeRun) : Type 0 where
  pub records : made.records.now ≡ run.records
  pub fault : made.fault ≡ run.fault

-- its components start in states of these words, and these are their figures and observations
pub record IsGathering (starts : List (List ℤ)) (rs : List Record) (met : Option Fault) (labels : List Labels) (from until : ℕ) (g : Gathering) : Type 0 where
  pub gathered : IsGathered from starts rs g.gathered
  pub followed : followed_of_all g.gathered.members.items ≡ followed_in_all labels
  pub fault : g.fault ≡ met
  pub ticks : g.ticks ≡ run_ticks until met
  -- no figure has had its last value from a later tick on than the end, or the first tick
  pub reached : All (λ m. All (λ c. c.since ≤ max from g.ticks) m.courses.items) g.gathered.members.items
  pub in_time : BeforeEnd g.fault
