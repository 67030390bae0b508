-- Where a run has ended and all before its end is committed, what is committed is the simulator's whole trace, and nothing else.
use Rattle.std.proofs.Common.{◌≡◌, ℕ, suc, ◌<◌, ◌≤◌, length, min, true, List, Some, [], ◌∷◌, refl, sym, ◌∙◌, subst, arith}
use Rattle.std.specs.List.{AllByRecursion as Each}
use Rattle.std.specs.Prelude.{nat_lt, nat_le, slice_get}
use Rattle.std.proofs.lemmas.Bool.{and_parts, cond_both, leb-true, ltb-true}
use Rattle.tw_atomic.specs.Atomic.{Meaning}
use Rattle.tw_exec.specs.Running.{Running, IsSoundly}
use Rattle.tw_laws.proofs.Ending.{state_law}
use Rattle.tw_laws.proofs.Outcomes.{all_before, outcome_law}
use Rattle.tw_laws.proofs.Traces.{sequential_trace}
use Rattle.tw_msgs.specs.Counting.{total}
use Rattle.tw_msgs.specs.declared.record.Record.{Record}
use Rattle.tw_network.specs.Contents.{network_of}
use Rattle.tw_theory.specs.Contents.{Process}
use Rattle.tw_theory.specs.Network.{Network}
use Rattle.tw_theory.specs.Outcomes.{Complete, Fault as InFault, Going, IsOutcome, RunState, all_past}
use Rattle.tw_theory.specs.Simulator.{Fault, sequential}
use Rattle.tw_theory.specs.Traces.{IsMerged, before, least_line}
use Rattle.tw_vtime.specs.Stamps.{never, stamp}
use Rattle.tw_exchange.specs.Ends.{IsNotOver, IsOver}
use Rattle.tw_exchange.specs.States.{state_of}

-- what stands before s stands before any later stamp
kept_before : (s l : ℕ) (rs : List Record) → s ≤ l → Each (λ r. r.stamp < l) (before s rs)
kept_before s l [] late = tt
kept_before s l (r ∷ rs) late =
    cond_both (nat_lt r.stamp s) _ _ (Each (λ r. r.stamp < l)) (λ e. (let k = ltb-true r.stamp s e in omega arith, kept_before s l rs late)) (λ e. kept_before s l rs late)

-- so where all records stand before s, all stand before a later stamp
all_kept : (s l : ℕ) (rs : List Record) → s ≤ l → before s rs ≡ rs → before l rs ≡ rs
all_kept s l rs late all = subst (λ xs. before l xs ≡ xs) all (all_before l (before s rs) (kept_before s l rs late))

past_least : {S : Type 0} (s : ℕ) (ps : List (Process S)) → s ≤ never → all_past s ps ≡ true → s ≤ least_line ps
past_least s [] stamped past = stamped
past_least s (p ∷ ps) stamped past =
    let both = and_parts (nat_le s p.line) (all_past s ps) past in
    let here = leb-true s p.line both.0 in
    let rest = past_least s ps stamped both.1 in
    omega (arith, here, rest)

past_lines : {S : Type 0} (s : ℕ) (ps : List (Process S)) → s ≤ never → ((d : ℕ) (p : Process S) → slice_get ps d ≡ Some p → s ≤ p.line) → s ≤ least_line ps
past_lines s [] stamped past = stamped
past_lines s (p ∷ ps) stamped past =
    let here = past 0 p refl in
    let rest = past_lines s ps stamped (λ d q at. past (suc d) q at) in
    omega (arith, here, rest)

module _ {M S : Type 0} (meaning : M → Meaning S) (e : Running M S) (sound : IsSoundly meaning e) where
  abbrev ended : Network S
  ended = network_of meaning e.network

  pub complete_end : (trace : List Record) → state_of meaning e ≡ Complete
      → trace ≡ before (least_line e.world.processes) (sequential (network_of meaning e.network) e.until).records
      → IsOutcome (network_of meaning e.network) e.until Complete trace
  complete_end trace state is =
      let bound = sound.bound in
      let end = stamp e.until 0 0 in
      let stamped : end ≤ never = omega (arith, bound) in
      let records = (sequential ended e.until).records in
      let all = all_before end records (sequential_trace ended e.until sound.network sound.bound).1 in (
        (state_law.complete ended e.until e.world sound.network sound.bound sound.sound state).0,
        is ∙ all_kept end (least_line e.world.processes) records (past_lines end e.world.processes stamped ((state_law.past ended e.until e.world).0 state)) all,
      )

  pub fault_end : (met : Fault) (trace : List Record) → all_past met.stamp e.world.processes ≡ true → state_of meaning e ≡ InFault met
      → trace ≡ before (least_line e.world.processes) (sequential (network_of meaning e.network) e.until).records
      → IsOutcome (network_of meaning e.network) e.until (InFault met) trace
  fault_end met trace past state is =
      let bound = sound.bound in
      let said = (state_law.shows ended e.until e.world met).0 state in
      let gvt : met.stamp ≡ e.world.gvt = said.1 in
      let early = said.2.before in
      let stamped : met.stamp ≤ never = omega (arith, bound, gvt, early) in
      let records = (sequential ended e.until).records in
      let simulated = (state_law.fault ended e.until e.world sound.network sound.bound sound.sound met state).1 in
      let all = outcome_law.before_fault ended e.until sound.network sound.bound met simulated in
      (simulated, is ∙ all_kept met.stamp (least_line e.world.processes) records (past_least met.stamp e.world.processes stamped past) all ∙ sym all)

  -- ## How many records it has

  -- where the least line is not before gvt or the end of the run, all that is committed was merged
  merged_all : (trace : List Record) → min e.world.gvt (stamp e.until 0 0) ≤ least_line e.world.processes → IsMerged (least_line e.world.processes) e.world trace
      → total length e.world.columns ≡ length trace
  merged_all trace late merged = sym (outcome_law.count ended e.until e.world sound.sound (least_line e.world.processes) late trace merged)

  pub complete_all : (trace : List Record) → state_of meaning e ≡ Complete → IsMerged (least_line e.world.processes) e.world trace → total length e.world.columns ≡ length trace
  complete_all trace state merged =
      let bound = sound.bound in
      let end = stamp e.until 0 0 in
      let stamped : end ≤ never = omega (arith, bound) in
      let past : end ≤ least_line e.world.processes = past_lines end e.world.processes stamped ((state_law.past ended e.until e.world).0 state) in
      merged_all trace (omega (arith, past)) merged

  pub fault_all : (met : Fault) (trace : List Record) → all_past met.stamp e.world.processes ≡ true → state_of meaning e ≡ InFault met → IsMerged (least_line e.world.processes) e.world trace
      → total length e.world.columns ≡ length trace
  fault_all met trace past state merged =
      let bound = sound.bound in
      let said = (state_law.shows ended e.until e.world met).0 state in
      let gvt : met.stamp ≡ e.world.gvt = said.1 in
      let early = said.2.before in
      let stamped : met.stamp ≤ never = omega (arith, bound, gvt, early) in
      let least : met.stamp ≤ least_line e.world.processes = past_least met.stamp e.world.processes stamped past in
      merged_all trace (omega (arith, gvt, least)) merged

-- ## Whether it is over

-- a run that is over stands as its end says
over_state : {M S : Type 0} (meaning : M → Meaning S) (e : Running M S) (end : RunState) → IsOver meaning e end → state_of meaning e ≡ end
over_state meaning e Complete over = over
over_state meaning e (InFault met) over = over.0
over_state meaning e Going over = absurd over

-- so where it does not end as it stands, it is not over
pub not_over : {M S : Type 0} (meaning : M → Meaning S) (e : Running M S) (state : RunState) → state ≡ state_of meaning e → (IsOver meaning e state → ⊥) → IsNotOver meaning e
not_over meaning e state is not = λ end over. not (subst (IsOver meaning e) (sym (is ∙ over_state meaning e end over)) over)
