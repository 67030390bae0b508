-- A run that is made a round at a time, and whose records are handed over as they come.
--     Reaching valid meaning contents bound run      the rounds still to be made from this run complete the whole run
--     after done run      this run, with these records before it
--     IsPart valid meaning contents until done run      these records were handed over, and the rest of the whole run is to come
--     IsEnd meaning contents until done fault      these are all records of the whole run, and its fault
--     Stage      what a simulation keeps between two rounds
--     IsRunning valid meaning contents stage      so it stands, after some records
--     time_left until stage      how far the next round is from the end tick
--     IsSimulating valid meaning contents done stage      so it stands between two rounds, after these records
use Rattle.std.specs.Prelude.{◌≡◌, ℕ, ◌+◌, ◌-◌, ◌<◌, ◌≤◌, List, [], Option, None, length, replicate}
use Rattle.tw_atomic.specs.Atomic.{Meaning}
use Rattle.tw_msgs.specs.Bags.{Bag}
use Rattle.tw_msgs.specs.declared.record.Record.{Record}
use Rattle.tw_network.specs.Contents.{Contents, network_of}
use Rattle.tw_rounds.specs.Agenda.{dues}
use Rattle.tw_rounds.specs.InOrder.{rounds_in_order}
use Rattle.tw_rounds.specs.Invariant.{IsUnderway}
use Rattle.tw_theory.specs.Simulator.{Fault, Run, round_time, rounds_from, sequential}
use Rattle.tw_vtime.specs.Stamps.{max_tick, never, stamp}

-- at most `left` rounds more, from a run in which nothing is due before `from`
pub record Reaching {M S : Type 0} (valid : M → S → Type 0) (meaning : M → Meaning S) (contents : Contents M) (bound : ℕ) (run : Run S) : Type 0 where
  pub from : ℕ
  pub left : ℕ
  pub underway : IsUnderway valid meaning contents from run
  pub same : rounds_from (network_of meaning contents) bound left run None ≡ rounds_in_order (network_of meaning contents) bound
  pub enough : bound ≤ from + left
  pub top : from ≤ never

abbrev pub after : {S : Type 0} → List Record → Run S → Run S
after done run = record { at = run.at; records = done; fault = run.fault }

pub record IsPart {M S : Type 0} (valid : M → S → Type 0) (meaning : M → Meaning S) (contents : Contents M) (until : ℕ) (done : List Record) (run : Run S) : Type 0 where
  pub reaching : Reaching valid meaning contents (stamp until 0 0) (after done run)
  pub small : until ≤ max_tick
  pub going : run.fault ≡ None
  pub empty : run.records ≡ []

pub record IsEnd {M S : Type 0} (meaning : M → Meaning S) (contents : Contents M) (until : ℕ) (done : List Record) (met : Option Fault) : Type 0 where
  pub records : done ≡ (sequential (network_of meaning contents) until).records
  pub fault : met ≡ (sequential (network_of meaning contents) until).fault

-- the end tick, the run whose records were all handed over, the times on the agenda, and the bags of the components
pub record Stage (S : Type 0) : Type 0 where
  pub until : ℕ
  pub run : Run S
  pub times : List ℕ
  pub bags : List Bag

pub record IsSimulating {M S : Type 0} (valid : M → S → Type 0) (meaning : M → Meaning S) (contents : Contents M) (done : List Record) (stage : Stage S) : Type 0 where
  pub part : IsPart valid meaning contents stage.until done stage.run
  pub agenda : stage.times ≡ dues stage.run.at.moments
  pub empty : stage.bags ≡ replicate (length stage.run.at.moments) []

abbrev pub IsRunning : {M S : Type 0} → (M → S → Type 0) → (M → Meaning S) → Contents M → Stage S → Type 0
IsRunning valid meaning contents stage = (done : List Record) × IsSimulating valid meaning contents done stage

abbrev pub time_left : {S : Type 0} → ℕ → Stage S → ℕ
time_left until stage = stamp until 0 0 - round_time stage.run.at

-- the next round is nearer to the end tick than it was
abbrev pub ComesNearer : {S : Type 0} → Stage S → Stage S → Type 0
ComesNearer old new = time_left old.until new < time_left old.until old

abbrev pub stage_of : {S : Type 0} → ℕ → Run S → List ℕ → List Bag → Stage S
stage_of until run times bags = record { until = until; run = run; times = times; bags = bags }
