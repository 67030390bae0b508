-- When an executive is sound, and the executive at the start.
--     new_world net cancel      each process at its model's start, with its network inputs pending; gvt and all lines are 0.0.0
--     IsSound net until w      what every action keeps
use Rattle.std.specs.Prelude.{ℕ, suc, ◌<◌, ◌≤◌, ◌≡◌, List, [], ◌∷◌, length, true, Some, slice_get, replicate}
use Rattle.std.specs.List.{AllByRecursion as Each}
use Rattle.tw_atomic.specs.Atomic.{Meaning}
use Rattle.tw_msgs.specs.Messages.{sorted_messages, has, Sorted}
use Rattle.tw_msgs.specs.declared.message.Item.{Item}
use Rattle.tw_msgs.specs.declared.message.Message.{Message}
use Rattle.tw_msgs.specs.declared.record.Record.{Record}
use Rattle.tw_vtime.specs.Stamps.{stamp}
use Rattle.tw_theory.specs.Balance.{Balance}
use Rattle.tw_theory.specs.Bundles.{addressed}
use Rattle.tw_theory.specs.Contents.{Cancel, Aggressive, Process, inputs, Stands}
use Rattle.tw_theory.specs.Executive.{World, mail_of, column_of, least_of}
use Rattle.tw_theory.specs.LocalRun.{Step}
use Rattle.tw_theory.specs.Network.{Network, count_of, Fits}
use Rattle.tw_theory.specs.Simulator.{Fault, sequential, up_to, records_before, moment_at}
use Rattle.tw_theory.specs.Transitions.{Moment, start_moment}

-- ---- the start

abbrev pub new_process : {S : Type 0} → Network S → Cancel → ℕ → Meaning S → Process S
new_process net cancel c model = record {
  now = start_moment model;
  pending = sorted_messages (addressed c net.inputs);
  history = [];
  waiting = [];
  outgoing = [];
  owed = [];
  line = 0;
  cancel = cancel;
}

-- those of the components from c on
abbrev pub new_processes : {S : Type 0} → Network S → Cancel → ℕ → List (Meaning S) → List (Process S)
new_processes net cancel c [] = []
new_processes net cancel c (model ∷ models) = new_process net cancel c model ∷ new_processes net cancel (suc c) models

abbrev pub new_world : {S : Type 0} → Network S → Cancel → World S
new_world net cancel = record {
  processes = new_processes net cancel 0 net.models;
  mail = replicate (count_of net) [];
  columns = replicate (count_of net) [];
  gvt = 0;
}

-- ---- soundness

-- a message to component c, which fits
pub record IsFor {S : Type 0} (net : Network S) (c : ℕ) (m : Message) : Type 0 where
  pub to : m.to ≡ c
  pub fits : Fits net m

-- each step stands before s
abbrev pub AllBefore : {S : Type 0} → ℕ → List (Step S) → Type 0
AllBefore s [] = Unit {0}
AllBefore s (step ∷ steps) = (step.entry.stamp < s) × AllBefore s steps

-- no message both waits and is among the inputs
abbrev pub Apart : {S : Type 0} → Process S → Type 0
Apart p = (m : Message) → has m p.waiting ≡ true → has m (inputs p) ≡ true → ⊥

-- Process c of a sound executive, with its column and mailbox
pub record IsSoundProcess {S : Type 0} (net : Network S) (until gvt c : ℕ) (column : List Record) (mail : List Item) (p : Process S) : Type 0 where
  -- it has committed what the sequential simulator does before its line
  pub column_is : column ≡ records_before net until c p.line
  -- and stands from where the sequential simulator has it there
  pub from : Moment S
  pub from_is : moment_at net until c p.line ≡ Some from
  pub stands : Stands net c from p
  pub sorted : Sorted (inputs p)
  pub within : AllBefore (stamp until 0 0) p.history
  pub apart : Apart p
  pub for_inputs : Each (IsFor net c) (inputs p)
  pub for_waiting : Each (IsFor net c) p.waiting
  pub for_mail : Each (λ i. IsFor net c i.message) mail
  pub fit_outgoing : Each (λ i. Fits net i.message) p.outgoing
  pub fit_owed : Each (Fits net) p.owed
  -- no line passes gvt, or the fault of the sequential simulator
  pub line_le : p.line ≤ gvt
  pub line_le_fault : (met : Fault) → (sequential net until).fault ≡ Some met → up_to until p.line ≤ met.stamp

-- it cancels so; and where anti-messages are made at once, nothing is owed
pub record Cancels {S : Type 0} (cancel : Cancel) (p : Process S) : Type 0 where
  pub is : p.cancel ≡ cancel
  pub nothing_owed : cancel ≡ Aggressive → p.owed ≡ []

pub record IsSound {S : Type 0} (net : Network S) (until : ℕ) (w : World S) : Type 0 where
  pub processes : length w.processes ≡ count_of net
  pub mail : length w.mail ≡ count_of net
  pub columns : length w.columns ≡ count_of net
  pub each : (c : ℕ) (p : Process S) → slice_get w.processes c ≡ Some p → IsSoundProcess net until w.gvt c (column_of w.columns c) (mail_of w.mail c) p
  -- they all cancel in one way
  pub cancel : Cancel
  pub cancels : Each (Cancels cancel) w.processes
  pub balance : Balance net w
  -- nothing that can still change stands before gvt
  pub gvt_le : w.gvt ≤ least_of w
