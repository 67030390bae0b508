-- How the state of a run is found.
--     state_of meaning e      the state of the run of an executive
--     limit_at meaning e c p      the limit that component c meets at gvt
use Rattle.std.specs.Prelude.{ℕ, Bool, ◌==◌, ◌&&◌, drop, if◌then◌else◌, Option, None}
use Rattle.tw_atomic.specs.Atomic.{Meaning}
use Rattle.tw_exec.specs.Running.{Running}
use Rattle.tw_network.specs.Contents.{network_of}
use Rattle.tw_theory.specs.Contents.{Process, next}
use Rattle.tw_theory.specs.Exchange.{is_empty}
use Rattle.tw_theory.specs.LocalRun.{local_step}
use Rattle.tw_theory.specs.Outcomes as theory
use Rattle.tw_vtime.specs.declared.limits.Limit.{Limit}

-- the state of the run of an executive
abbrev pub state_of : {M S : Type 0} → (M → Meaning S) → Running M S → theory.RunState
state_of meaning e = theory.state (network_of meaning e.network) e.until e.world

-- the limit that component c meets at gvt, if its next step is there and meets one
abbrev pub limit_at : {M S : Type 0} → (M → Meaning S) → Running M S → ℕ → Process S → Option Limit
limit_at meaning e c p = if next p == e.world.gvt then theory.limit_of (local_step (network_of meaning e.network) c p.now p.pending) else None

-- the first fault from component c on
abbrev pub fault_from : {M S : Type 0} → (M → Meaning S) → ℕ → Running M S → theory.RunState
fault_from meaning c e = theory.first_fault (network_of meaning e.network) e.world.gvt c (drop c e.world.processes)

-- nothing of p is outgoing, and nothing that it owes is of stamp g
abbrev pub is_quiet : {S : Type 0} → ℕ → Process S → Bool
is_quiet g p = is_empty p.outgoing && theory.none_at g p.owed
