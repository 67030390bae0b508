-- What is told of a run.
--     TellsFigure from ticks course told, TellsPart from ticks member part      what is told of a course, and of what is gathered of a component, over so many ticks, of which `from` is the first
--     TellsObservation watch observed      what is told of an observation from the tick on from which it counts
--     IsToldOf from label start records ticks part      what is told of a component that starts in a state of these words and has these records
--     AreTold from labels starts rs ticks parts      what is told of all components of a run with these records
--     first_tick from      the tick from which on a report tells: the start of the run, where none was asked for
--     IsReportOf starts rs met from until labels report      what is told of a run with these records that ends in this fault, or in none
--     IsReport net from until labels report      the same of the sequential run of a network until an end tick
use Rattle.std.specs.Prelude.{◌≡◌, ◌-◌, ℕ, ℤ, List, Option, Some, length, slice_get, unwrap_or}
use Rattle.std.specs.List.{AllZip}
use Rattle.tw_figures.specs.Counts.{counts_of}
use Rattle.tw_figures.specs.Figures.{IsCourse, from_on, transitions}
use Rattle.tw_figures.specs.Gathered.{IsAboveMicrosteps, start_words}
use Rattle.tw_figures.specs.Labelled.{Label}
use Rattle.tw_figures.specs.Observed.{IsObserved, IsWatch}
use Rattle.tw_figures.specs.Told.{IsTold}
use Rattle.tw_figures.specs.declared.course.Course.{Course}
use Rattle.tw_figures.specs.declared.member.Member.{Member}
use Rattle.tw_figures.specs.declared.observed.Observed.{Observed}
use Rattle.tw_figures.specs.declared.told.Told.{Told}
use Rattle.tw_figures.specs.declared.watch.Watch.{Watch}
use Rattle.tw_msgs.specs.declared.record.Record.{Record}
use Rattle.tw_theory.specs.Network.{Network}
use Rattle.tw_theory.specs.Simulator.{Fault, sequential}
use Rattle.tw_theory.specs.Traces.{of_component}
use Rattle.tw_stats.specs.Gathering.{run_ticks}
use Rattle.tw_stats.specs.declared.report.Part.{Part}
use Rattle.tw_stats.specs.declared.report.Report.{Report}

pub record TellsFigure (from ticks : ℕ) (course : Course) (told : Told) : Type 0 where
  pub tells : (start : List ℤ) (moves : List Record) → IsCourse from start moves course → IsTold from course.measure start moves ticks told

pub record TellsObservation (watch : Watch) (observed : Observed) : Type 0 where
  pub tells : (from : ℕ) (start : List ℤ) (moves : List Record) → IsWatch from start moves watch → IsObserved from watch.place start moves observed

pub record TellsPart (from ticks : ℕ) (member : Member) (part : Part) : Type 0 where
  pub counts : part.counts ≡ member.counts
  pub figures : AllZip (TellsFigure from ticks) member.courses.items part.figures.items
  pub observations : AllZip TellsObservation member.watches.items part.observations.items

-- the records before the first tick do not count, but they made the state in which the component comes to it
pub record IsToldOf (from : ℕ) (label : Label) (start : List ℤ) (records : List Record) (ticks : ℕ) (part : Part) : Type 0 where
  pub counts : part.counts ≡ counts_of (from_on from records)
  pub figures : AllZip (λ figure told. IsTold from figure.1 start (transitions records) ticks told) label.figures part.figures.items
  pub observations : AllZip (λ observation observed. IsObserved from observation.1 start (transitions records) observed) label.observations part.observations.items

pub record AreTold (from : ℕ) (labels : List Label) (starts : List (List ℤ)) (rs : List Record) (ticks : ℕ) (parts : List Part) : Type 0 where
  pub size : length parts ≡ length labels
  pub each : (c : ℕ) (label : Label) (start : List ℤ) (part : Part) → slice_get labels c ≡ Some label → slice_get starts c ≡ Some start → slice_get parts c ≡ Some part
      → IsToldOf from label start (of_component c rs) ticks part

abbrev pub first_tick : Option ℕ → ℕ
first_tick from = unwrap_or from 0

-- of the records of the run from that tick on, and over its time from there, which is none where the run ends before; its components start in states of
-- these words
pub record IsReportOf (starts : List (List ℤ)) (rs : List Record) (met : Option Fault) (from : Option ℕ) (until : ℕ) (labels : List Label) (report : Report) : Type 0 where
  pub parts : AreTold (first_tick from) labels starts rs report.ticks report.parts.items
  pub begin : report.from ≡ from
  pub end : report.until ≡ until
  pub ticks : report.ticks ≡ run_ticks until met - first_tick from
  pub records : report.records ≡ length (from_on (first_tick from) rs)
  pub microsteps : IsAboveMicrosteps report.microsteps (from_on (first_tick from) rs)
  pub fault : report.fault ≡ met

abbrev pub IsReport : {S : Type 0} → Network S → Option ℕ → ℕ → List Label → Report → Type 0
IsReport net from until labels report = IsReportOf (start_words net) (sequential net until).records (sequential net until).fault from until labels report
