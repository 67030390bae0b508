-- How far a run has come: none of its records is of a later tick than its last.
use Rattle.std.proofs.Common.{◌≡◌, ◌∙◌, ℕ, ◌<◌, ◌≤◌, max, List, [], Some, None, get_or, ap, refl, sym, subst, arith}
use Rattle.std.specs.Prelude.{◌==◌, Option}
use Rattle.std.specs.List.{All, AllByRecursion as Each}
use Rattle.std.proofs.lemmas.Option.{none-some, same_Some, slice_get-get_or}
use Rattle.tw_laws.proofs.AtGvt.{all_phase_one}
use Rattle.tw_laws.proofs.History.Rounds.{Reached, Running, Faulted, met_by, rounds_reach}
use Rattle.tw_laws.proofs.Traces.{sequential_trace}
use Rattle.tw_msgs.specs.declared.record.Record.{Record}
use Rattle.tw_theory.specs.Network.{IsNetwork, Network}
use Rattle.tw_theory.specs.Simulator.{Fault, Run, rounds, sequential}
use Rattle.tw_theory.specs.Traces.{of_component}
use Rattle.tw_vtime.specs.Stamps.{max_tick, never, stamp, tick_of}
use Rattle.tw_figures.specs.Figures.{is_transition}
use Rattle.tw_figures.specs.Gathered.{IsGathered, followed_in_all, followed_of_all, start_words}
use Rattle.tw_figures.specs.declared.course.Course.{Course}
use Rattle.tw_figures.specs.declared.gatherer.Gatherer.{Gatherer}
use Rattle.tw_figures.specs.declared.labels.Labels.{Labels}
use Rattle.tw_figures.specs.declared.member.Member.{Member}
use Rattle.tw_theory.proofs.Elements.{each-filter, each_weaker}
use Rattle.tw_stats.specs.Gathering.{BeforeEnd, IsGathering, run_ticks}
use Rattle.tw_stats.specs.declared.gathering.Gathering.{Gathering}

-- a fault stands before the end of time, and behind all records
pub record IsInTime (rs : List Record) (s : ℕ) : Type 0 where
  pub within : s < never
  pub past : Each (λ r. r.stamp < s) rs

module _ {S : Type 0} (net : Network S) (until : ℕ) (ok : IsNetwork net) (bound : until ≤ max_tick) where
  fault_of_run : (b : ℕ) (run : Run S) → b ≤ never → Reached net b run → (fault : Fault) → run.fault ≡ Some fault → IsInTime run.records fault.stamp
  fault_of_run b run top (Running at) fault e = absurd (none-some fault (sym at.going ∙ e))
  fault_of_run b run top (Faulted f l at) fault e =
      let same : f ≡ fault.stamp = ap (λ (x : Fault). x.stamp) (same_Some (met_by at.component f at.limit) fault (sym at.fault ∙ e)) in
      record { within = omega (arith, same, l, top); past = subst (λ n. Each (λ r. r.stamp < n) run.records) same at.past }

  pub fault_in_time : (fault : Fault) → (sequential net until).fault ≡ Some fault → IsInTime (sequential net until).records fault.stamp
  unfolding sequential
  fault_in_time fault e =
      fault_of_run (stamp until 0 0) (rounds net (stamp until 0 0)) (omega arith)
      (rounds_reach net (stamp until 0 0) (stamp until 0 0) (all_phase_one net net.inputs ok.inputs) (omega arith) (omega arith) (omega arith) (omega arith)) fault e

  pub fault_before_end : (met : Option Fault) → met ≡ (sequential net until).fault → BeforeEnd met
  fault_before_end None e = tt
  fault_before_end (Some fault) e = λ end. (let h = (fault_in_time fault (sym e)).within in omega (arith, h, end))

  within_ticks : (met : Option Fault) → met ≡ (sequential net until).fault → Each (λ r. tick_of r.stamp ≤ run_ticks until met) (sequential net until).records
  within_ticks None e =
      each_weaker (λ r. r.stamp < stamp until 0 0) (λ r. tick_of r.stamp ≤ until) (λ r l. omega arith) (sequential net until).records (sequential_trace net until ok bound).1
  within_ticks (Some fault) e =
      each_weaker (λ r. r.stamp < fault.stamp) (λ r. tick_of r.stamp ≤ tick_of fault.stamp) (λ r l. omega arith) (sequential net until).records (fault_in_time fault (sym e)).past

  -- no figure has had its last value from a later tick on than the end, or the first tick
  pub since_within : (from : ℕ) (gathered : Gatherer) → IsGathered from (start_words net) (sequential net until).records gathered
      → All (λ (m : Member). All (λ (c : Course). c.since ≤ max from (run_ticks until (sequential net until).fault)) m.courses.items) gathered.members.items
  since_within from gathered h = λ k d l j e m.
      let ticks = run_ticks until (sequential net until).fault in
      let latest = max from ticks in
      let size = h.size in
      let start = slice_get-get_or (start_words net) k [] (omega (arith, size, l)) in
      let member = h.members k (get_or (start_words net) k []) (get_or gathered.members.items k d) start (slice_get-get_or gathered.members.items k d l) in
      let all = each_weaker (λ r. tick_of r.stamp ≤ ticks) (λ r. tick_of r.stamp ≤ latest) (λ r p. omega arith) (sequential net until).records (within_ticks (sequential net until).fault refl) in
      let own = each-filter (λ r. tick_of r.stamp ≤ latest) (λ r. r.component == k) (sequential net until).records all in
      (member.courses j e m).since latest (omega arith) (each-filter (λ r. tick_of r.stamp ≤ latest) is_transition (of_component k (sequential net until).records) own)

  -- so of what is gathered of a whole run all is known
  pub whole : (from : ℕ) (labels : List Labels) (gathered : Gatherer) (fault : Option Fault) (g : Gathering)
      → IsGathered from (start_words net) (sequential net until).records gathered → followed_of_all gathered.members.items ≡ followed_in_all labels → fault ≡ (sequential net until).fault
      → g.gathered ≡ gathered → g.fault ≡ fault → g.ticks ≡ run_ticks until fault
      → IsGathering (start_words net) (sequential net until).records (sequential net until).fault labels from until g
  whole from labels gathered fault g is followed met same ended ticks =
      let time : g.ticks ≡ run_ticks until (sequential net until).fault = ticks ∙ ap (run_ticks until) met in
      record {
        gathered = subst (IsGathered from (start_words net) (sequential net until).records) (sym same) is;
        followed = ap (λ (o : Gatherer). followed_of_all o.members.items) same ∙ followed;
        fault = ended ∙ met;
        ticks = time;
        reached = subst (λ (n : ℕ). All (λ (m : Member). All (λ (x : Course). x.since ≤ max from n) m.courses.items) g.gathered.members.items) (sym time)
            (subst (λ (o : Gatherer). All (λ (m : Member). All (λ (x : Course). x.since ≤ max from (run_ticks until (sequential net until).fault)) m.courses.items) o.members.items) (sym same) (since_within from gathered is));
        in_time = subst BeforeEnd (sym ended) (fault_before_end fault met);
      }
