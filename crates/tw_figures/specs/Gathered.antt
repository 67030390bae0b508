-- What is gathered of a component, and of a network.
--     start_words net      the words of each component's start state
--     IsMember from start records member      the counts of those of a component's records that are at a tick or later, the courses of its figures from that tick on, and its observations
--     IsAboveMicrosteps n records      the least number that every microstep of these records is below
--     AreCounted rs gathered      how many records these are, and the microsteps of theirs
--     IsGathered from starts rs gathered      of each component that starts in a state of these words, and of all records at that tick or later
--     followed_of member, followed_in labels      what the figures of a component tell, and the places of its observations
--     followed_of_all members, followed_in_all labels      the same of each component
use Rattle.std.specs.Prelude.{◌≡◌, ◌<◌, ◌≤◌, ℕ, ℤ, List, Some, length, map, slice_get}
use Rattle.std.specs.List.{All, AllByRecursion as Each}
use Rattle.tw_msgs.specs.declared.record.Record.{Record}
use Rattle.tw_theory.specs.Network.{Network}
use Rattle.tw_theory.specs.Traces.{of_component}
use Rattle.tw_vtime.specs.Stamps.{micro_of}
use Rattle.tw_figures.specs.Counts.{counts_of}
use Rattle.tw_figures.specs.Figures.{IsCourse, from_on, transitions}
use Rattle.tw_figures.specs.Observed.{IsWatch}
use Rattle.tw_figures.specs.declared.figure.Measure.{Measure}
use Rattle.tw_figures.specs.declared.labels.Labels.{Labels}
use Rattle.tw_figures.specs.declared.gatherer.Gatherer.{Gatherer}
use Rattle.tw_figures.specs.declared.member.Member.{Member}

-- the words of each component's start state
abbrev pub start_words : {S : Type 0} → Network S → List (List ℤ)
start_words net = map (λ m. m.words m.start) net.models

pub record IsMember (from : ℕ) (start : List ℤ) (records : List Record) (member : Member) : Type 0 where
  pub counts : member.counts ≡ counts_of (from_on from records)
  pub courses : All (IsCourse from start (transitions records)) member.courses.items
  pub watches : All (IsWatch from start (transitions records)) member.watches.items

pub record IsAboveMicrosteps (n : ℕ) (records : List Record) : Type 0 where
  pub above : Each (λ r. micro_of r.stamp < n) records
  pub least : (m : ℕ) → Each (λ r. micro_of r.stamp < m) records → n ≤ m

pub record AreCounted (rs : List Record) (gathered : Gatherer) : Type 0 where
  pub records : gathered.records ≡ length rs
  pub microsteps : IsAboveMicrosteps gathered.microsteps rs

pub record IsGathered (from : ℕ) (starts : List (List ℤ)) (rs : List Record) (gathered : Gatherer) : Type 0 where
  pub begin : gathered.from ≡ from
  pub size : length gathered.members.items ≡ length starts
  pub members : (c : ℕ) (start : List ℤ) (member : Member) → slice_get starts c ≡ Some start → slice_get gathered.members.items c ≡ Some member
      → IsMember from start (of_component c rs) member
  pub counted : AreCounted (from_on from rs) gathered

abbrev pub followed_of : Member → List Measure × List ℕ
followed_of member = (map (λ c. c.measure) member.courses.items, map (λ w. w.place) member.watches.items)

abbrev pub followed_in : Labels → List Measure × List ℕ
followed_in labels = (map (λ f. f.measure) labels.figures.items, map (λ o. o.place) labels.observations.items)

abbrev pub followed_in_all : List Labels → List (List Measure × List ℕ)
followed_in_all labels = map followed_in labels

abbrev pub followed_of_all : List Member → List (List Measure × List ℕ)
followed_of_all members = map followed_of members
