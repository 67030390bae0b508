-- What contracts see of an executive, and what its actions answer and make of it.
--     Running M S      a network, the end tick of the run, and the world of the theory
--     start meaning n way until      an executive at its start
--     answer meaning action e, after meaning action e      what an action answers, and the executive after it
--     IsReason meaning action e why      the theory refuses the action so
--     AreExact meaning action e result      no such component or item, a stamp before global virtual time, no step due: exactly where the theory says so
--     WantsRoom meaning action e      its process would hold too many nodes
--     IsWanting meaning action e why      where that is why, it would
--     IsActed meaning action e result e'      what comes of an action, and of the executive
--     AreRefusals meaning action e result      what is refused for want of nodes or of memory
--     IsDelivery action      want of nodes is found before want of memory
--     committed_records meaning e      what the sequential simulator records before its least commit line
--     IsSoundly meaning e      what is true of every executive
use Rattle.std.specs.Prelude.{ℕ, ◌≡◌, ◌≤◌, ◌↔◌, IfErr, IfOk, IfSome, IsErrOf, OnErr, OnOk, List, map, None, Ok, Result, Some, slice_get, ⊤, Err}
use Rattle.tw_atomic.specs.Atomic.{Meaning}
use Rattle.tw_exec.specs.Actions.{reason}
use Rattle.tw_actions.specs.declared.action.Done.{Done}
use Rattle.tw_exec.specs.declared.refused.Refused.{Refused}
use Rattle.tw_exec.specs.declared.refused.Refused.TheVariants.{OutOfMemory, Full, NothingDue, OverLimit, NoSuch, BeforeGvt, Committed}
use Rattle.tw_msgs.specs.declared.message.Item.{Item}
use Rattle.tw_msgs.specs.declared.record.Record.{Record}
use Rattle.tw_network.specs.Contents.{Contents, network_of}
use Rattle.tw_process.specs.Process.{Held, IsNew}
use Rattle.tw_theory.specs.Contents.{Cancel}
use Rattle.tw_theory.specs.Executive as theory
use Rattle.tw_theory.specs.Executive.{World, Action, Answer, act}
use Rattle.tw_theory.specs.Memory.{TakesMemory, WantsNodes}
use Rattle.tw_theory.specs.Network.{IsNetwork}
use Rattle.tw_theory.specs.Simulator.{sequential}
use Rattle.tw_theory.specs.Traces.{before, least_line}
use Rattle.tw_theory.specs.Soundness.{IsSound, new_world}
use Rattle.tw_vtime.specs.Stamps.{max_tick, stamp}

pub record Running (M S : Type 0) : Type 0 where
  pub network : Contents M
  -- only steps before this tick are made
  pub until : ℕ
  pub world : World S

abbrev pub start : {M S : Type 0} → (M → Meaning S) → Contents M → Cancel → ℕ → Running M S
start meaning n way until = record { network = n; until = until; world = new_world (network_of meaning n) way }

abbrev pub acted : {M S : Type 0} → (M → Meaning S) → Action → Running M S → Answer × World S
acted meaning action e = act (network_of meaning e.network) e.until e.world action

abbrev pub answer : {M S : Type 0} → (M → Meaning S) → Action → Running M S → Answer
answer meaning action e = (acted meaning action e).0

abbrev pub after : {M S : Type 0} → (M → Meaning S) → Action → Running M S → Running M S
after meaning action e = record e { world = (acted meaning action e).1 }

-- where the theory knows this reason, it refuses the action for it
abbrev pub IsReason : {M S : Type 0} → (M → Meaning S) → Action → Running M S → Refused → Type 0
IsReason meaning action e why = IfSome (reason why) (λ r. answer meaning action e ≡ Err r)

-- these three are found before memory or nodes can be wanting: each comes exactly where the theory refuses the action so
pub record AreExact {M S : Type 0} (meaning : M → Meaning S) (action : Action) (e : Running M S) (result : Result Done Refused) : Type 0 where
  pub no_such : answer meaning action e ≡ Err theory.NoSuch ↔ IsErrOf result NoSuch
  pub before_gvt : answer meaning action e ≡ Err theory.BeforeGvt ↔ IsErrOf result BeforeGvt
  pub nothing_due : answer meaning action e ≡ Err theory.NothingDue ↔ IsErrOf result NothingDue

-- its process would hold more nodes than there may be
abbrev pub WantsRoom : {M S : Type 0} → (M → Meaning S) → Action → Running M S → Type 0
WantsRoom meaning action e = WantsNodes (network_of meaning e.network) e.world action

-- where it is refused for want of nodes (12)
abbrev pub IsWanting : {M S : Type 0} → (M → Meaning S) → Action → Running M S → Refused → Type 0
IsWanting meaning action e Full = WantsRoom meaning action e
IsWanting meaning action e OutOfMemory = ⊤
IsWanting meaning action e NothingDue = ⊤
IsWanting meaning action e (OverLimit limit) = ⊤
IsWanting meaning action e NoSuch = ⊤
IsWanting meaning action e BeforeGvt = ⊤
IsWanting meaning action e Committed = ⊤

-- a receipt looks for nodes before it asks for memory; a step asks for memory first
abbrev pub IsDelivery : Action → Type 0
IsDelivery (theory.Step c) = ⊥
IsDelivery (theory.Post c) = ⊥
IsDelivery (theory.Deliver q i) = ⊤
IsDelivery (theory.Back c s) = ⊥
IsDelivery theory.Raise = ⊥
IsDelivery (theory.Harvest c) = ⊥

-- what the theory's action answers and makes; refused, it changes nothing, and 15, 14 and 16 come exactly where the theory
-- refuses it so, 12 only where there is no room
pub record IsActed {M S : Type 0} (meaning : M → Meaning S) (action : Action) (e : Running M S) (result : Result Done Refused) (e' : Running M S) : Type 0 where
  pub done : OnOk result (e' ≡ after meaning action e)
  pub answer : IfOk result (λ came. answer meaning action e ≡ Ok came)
  pub refused : IfErr result (IsReason meaning action e)
  pub exact : AreExact meaning action e result
  pub full : IfErr result (IsWanting meaning action e)
  pub stays : OnErr result (e' ≡ e)

-- of a delivery 12 exactly where there is no room; and want of memory only of an action that takes any
pub record AreRefusals {M S : Type 0} (meaning : M → Meaning S) (action : Action) (e : Running M S) (result : Result Done Refused) : Type 0 where
  pub limit : IsDelivery action → (WantsRoom meaning action e ↔ IsErrOf result Full)
  pub memory : IfErr result (λ why. reason why ≡ None → TakesMemory action)

-- its network is one, it ends at a tick that a stamp has, and it is sound
pub record IsSoundly {M S : Type 0} (meaning : M → Meaning S) (e : Running M S) : Type 0 where
  pub network : IsNetwork (network_of meaning e.network)
  pub bound : e.until ≤ max_tick
  pub sound : IsSound (network_of meaning e.network) e.until e.world

-- what the sequential simulator records before the least commit line
abbrev pub committed_records : {M S : Type 0} → (M → Meaning S) → Running M S → List Record
committed_records meaning e = before (least_line e.world.processes) (sequential (network_of meaning e.network) e.until).records

-- ---- how it is held

-- the world of these processes, mailboxes and columns
abbrev pub shown : {M S : Type 0} → List (Held M S) → List (List Item) → List (List Record) → ℕ → World S
shown ps mail columns gvt = record {
  processes = map (λ p. p.process) ps;
  mail = mail;
  columns = columns;
  gvt = gvt;
}

-- what an executive knows of process c beside its contents
pub record IsOwn {M S : Type 0} (n : Contents M) (c : ℕ) (p : Held M S) : Type 0 where
  pub network_is : p.network ≡ n
  pub component_is : p.component ≡ c
  -- no step that was committed stands at its line or later
  pub floor_le : p.floor ≤ p.process.line

pub record IsHeld {M S : Type 0} (meaning : M → Meaning S) (n : Contents M) (until end gvt : ℕ) (ps : List (Held M S)) (mail : List (List Item)) (columns : List (List Record)) : Type 0 where
  pub network : IsNetwork (network_of meaning n)
  pub bound : until ≤ max_tick
  pub end_is : end ≡ stamp until 0 0
  pub sound : IsSound (network_of meaning n) until (shown ps mail columns gvt)
  pub own : (c : ℕ) (p : Held M S) → slice_get ps c ≡ Some p → IsOwn n c p

-- each is at the start of its component
abbrev pub AreNew : {M S : Type 0} → (M → Meaning S) → Contents M → Cancel → List (Held M S) → Type 0
AreNew {M} {S} meaning n way ps = (c : ℕ) (p : Held M S) → slice_get ps c ≡ Some p → IsNew meaning n way c p
