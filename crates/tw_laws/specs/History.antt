-- The law of committed history: local runs that are taken up to a stamp g, and that balance before g, are the sequential simulator's run before g.
-- It speaks of lines, columns, histories, inputs and waiting anti-messages alone: of nothing in transit, nor of how anything came about.
--     IsRunTo net until g h      the premise: local runs taken up to g, balanced before g
--     IsCommitted net until g h      the conclusion: the sequential records and moments before g, and no fault before g
--     IsFaulting net until g h is_run c limit      component c is the least that meets a limit at g, and nothing is in transit at g either
use Rattle.std.specs.Prelude.{Err, ℕ, zero, suc, ◌+◌, ◌<◌, ◌≤◌, ◌≡◌, ◌⊎◌, List, [], ◌∷◌, ◌++◌, length, take, drop, Some}
use Rattle.tw_msgs.specs.Counting.{total, one_at}
use Rattle.tw_msgs.specs.Messages.{IsBeforeFirst}
use Rattle.tw_msgs.specs.declared.message.Message.{Message}
use Rattle.tw_msgs.specs.declared.record.Record.{Record}
use Rattle.tw_vtime.specs.Stamps.{stamp, phase_of, max_tick}
use Rattle.tw_vtime.specs.declared.limits.Limit.{Limit}
use Rattle.tw_theory.specs.Balance.{all_consumed}
use Rattle.tw_theory.specs.Contents.{before_all, steps_before, records_of, sent_by}
use Rattle.tw_theory.specs.LocalRun.{Step, Leads, next_of, local_step, OverLimit}
use Rattle.tw_theory.specs.Network.{Network}
use Rattle.tw_theory.specs.Simulator.{Fault, sequential, records_before, moment_at, all_sent}
use Rattle.tw_theory.specs.Transitions.{Moment}

-- how many times a message stands in a list
abbrev pub count : Message → List Message → ℕ
count m ms = total (one_at m) ms

-- the sum of f over the first n
unfoldable pub sum_below : (ℕ → ℕ) → ℕ → ℕ
sum_below f zero = 0
sum_below f (suc n) = sum_below f n + f n

-- messages to component c, of phase 1, in order
abbrev pub AreInputs : ℕ → List Message → Type 0
AreInputs c [] = Unit {0}
AreInputs c (m ∷ ms) = (m.to ≡ c) × (phase_of m.stamp ≡ 1) × IsBeforeFirst m ms × AreInputs c ms

-- each message is of phase 1
unfoldable pub AllPhaseOne : List Message → Type 0
AllPhaseOne [] = Unit {0}
AllPhaseOne (m ∷ ms) = (phase_of m.stamp ≡ 1) × AllPhaseOne ms

-- what each component holds: its commit line, its committed records, its uncommitted steps, its inputs and the anti-messages that wait
pub record Holdings (S : Type 0) : Type 0 where
  pub line : ℕ → ℕ
  pub column : ℕ → List Record
  pub history : ℕ → List (Step S)
  pub inputs : ℕ → List Message
  pub waiting : ℕ → List Message

-- component c's history is a beginning of its local run from the simulator's moment at its line, and its next step is not before g
pub record StandsTo {S : Type 0} (net : Network S) (until g : ℕ) (h : Holdings S) (c : ℕ) : Type 0 where
  pub from : Moment S
  pub now : Moment S
  pub pending : List Message
  pub from_is : moment_at net until c (h.line c) ≡ Some from
  pub runs : Leads net c from (h.inputs c) (h.history c) now pending
  pub next : g ≤ next_of now pending

-- how often a message was sent: by the outside, by committed outputs and by uncommitted ones
abbrev pub sent_count : {S : Type 0} → Network S → Holdings S → Message → ℕ
sent_count net h m =
    count m net.inputs + sum_below (λ c. count m (all_sent net (h.column c)) + count m (sent_by (h.history c))) (length net.models)

-- all local runs were taken up to g, and before g nothing is in transit
pub record IsRunTo {S : Type 0} (net : Network S) (until g : ℕ) (h : Holdings S) : Type 0 where
  -- up to the end of the run at most
  pub horizon : g ≤ stamp until 0 0
  pub given : AllPhaseOne net.inputs
  -- no line passes g, nor the fault
  pub lines : (c : ℕ) → c < length net.models → h.line c ≤ g
  pub unstopped : (c : ℕ) (met : Fault) → c < length net.models → (sequential net until).fault ≡ Some met → h.line c ≤ met.stamp
  -- each column is what the simulator does before the line
  pub columns : (c : ℕ) → c < length net.models → h.column c ≡ records_before net until c (h.line c)
  -- the inputs are for the component, of phase 1, in order
  pub inputs : (c : ℕ) → c < length net.models → AreInputs c (h.inputs c)
  -- the history is the local run on them, taken up to g
  pub stands : (c : ℕ) → c < length net.models → StandsTo net until g h c
  -- before g: times sent + waiting = times consumed in the column + among the inputs
  pub balance : (m : Message) → m.to < length net.models → m.stamp < g → sent_count net h m + count m (h.waiting m.to) ≡ count m (all_consumed (h.column m.to)) + count m (h.inputs m.to)
  -- before g: what waits is no input
  pub apart : (m : Message) → m.to < length net.models → m.stamp < g → (count m (h.waiting m.to) ≡ 0) ⊎ (count m (h.inputs m.to) ≡ 0)

-- the steps before g are the simulator's
pub record IsCommitted {S : Type 0} (net : Network S) (until g : ℕ) (h : Holdings S) : Type 0 where
  pub unstopped : (met : Fault) → (sequential net until).fault ≡ Some met → g ≤ met.stamp
  pub records : (c : ℕ) → c < length net.models → h.column c ++ records_of (take (steps_before g (h.history c)) (h.history c)) ≡ records_before net until c g
  pub moment : (c : ℕ) → c < length net.models → (stand : StandsTo net until g h c) → moment_at net until c g ≡ Some (before_all (drop (steps_before g (h.history c)) (h.history c)) stand.now)

abbrev pub CommittedHistory : Type 0 → Type 0
CommittedHistory S = (net : Network S) (until g : ℕ) (h : Holdings S) → until ≤ max_tick → IsRunTo net until g h → IsCommitted net until g h

-- a fault is of a component of the network, at a transition before the end of the run
abbrev pub FaultStamp : Type 0 → Type 0
FaultStamp S =
    (net : Network S) (until : ℕ) → until ≤ max_tick → AllPhaseOne net.inputs
    → (met : Fault) → (sequential net until).fault ≡ Some met → (met.component < length net.models) × (met.stamp < stamp until 0 0) × (phase_of met.stamp ≡ 1)

-- the next step of component c is at g, and meets this limit
pub record MeetsAt {S : Type 0} (net : Network S) (until g : ℕ) (h : Holdings S) (c : ℕ) (stand : StandsTo net until g h c) (limit : Limit) : Type 0 where
  pub at : next_of stand.now stand.pending ≡ g
  pub meets : local_step net c stand.now stand.pending ≡ Err (OverLimit limit)

-- nothing is in transit at g either, and c is the least component whose next step is at g and meets a limit
pub record IsFaulting {S : Type 0} (net : Network S) (until g : ℕ) (h : Holdings S) (is_run : IsRunTo net until g h) (c : ℕ) (limit : Limit) : Type 0 where
  pub before : g < stamp until 0 0
  pub odd : phase_of g ≡ 1
  pub balance : (m : Message) → m.to < length net.models → m.stamp ≡ g → sent_count net h m + count m (h.waiting m.to) ≡ count m (all_consumed (h.column m.to)) + count m (h.inputs m.to)
  pub apart : (m : Message) → m.to < length net.models → m.stamp ≡ g → (count m (h.waiting m.to) ≡ 0) ⊎ (count m (h.inputs m.to) ≡ 0)
  pub below : c < length net.models
  pub meets : MeetsAt net until g h c (is_run.stands c below) limit
  pub least : (d : ℕ) (is_below : d < length net.models) (other : Limit) → d < c → MeetsAt net until g h d (is_run.stands d is_below) other → ⊥

-- it is the simulator's fault
abbrev pub FaultLaw : Type 0 → Type 0
FaultLaw S =
    (net : Network S) (until g : ℕ) (h : Holdings S) → until ≤ max_tick → (is_run : IsRunTo net until g h)
    → (c : ℕ) (limit : Limit) → IsFaulting net until g h is_run c limit → (sequential net until).fault ≡ Some (record { component = c; stamp = g; limit = limit })
