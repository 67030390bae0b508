-- What a sweep makes of an executive.
--     replayed meaning actions e      the executive after these actions
--     sweep_of meaning e      the actions of a sweep
--     pass_of meaning e, passes_left meaning n e, passes_of meaning e      the actions of a pass; of at most n passes; of those that a sweep begins with
--     deliveries_from q e      what is left of its deliveries from the mailbox of q on
--     is_idle p      nothing of p is outgoing, and nothing owed is overdue
--     IsCutShort meaning actions e e' why      a beginning of these actions was taken, up to one that takes memory and was refused for this reason
use Rattle.std.specs.Prelude.{◌≡◌, ◌&&◌, ℕ, Bool, List, ◌∷◌, ◌++◌, drop, ⊤}
use Rattle.tw_atomic.specs.Atomic.{Meaning}
use Rattle.tw_exec.specs.Running.{Running}
use Rattle.tw_network.specs.Contents.{network_of}
use Rattle.tw_theory.specs.Bundles.{overdue}
use Rattle.tw_theory.specs.Contents.{Process, next}
use Rattle.tw_theory.specs.Exchange.{deliveries, is_empty, pass, passes, sweep, work}
use Rattle.tw_theory.specs.Executive.{Action, replay}
use Rattle.tw_theory.specs.Memory.{TakesMemory, WantsNodes}
use Rattle.tw_exchange.specs.declared.refused.SweepRefused.{SweepRefused}
use Rattle.tw_exchange.specs.declared.refused.SweepRefused.TheVariants.{OutOfMemory, Full}

abbrev pub replayed : {M S : Type 0} → (M → Meaning S) → List Action → Running M S → Running M S
replayed meaning actions e = record e { world = replay (network_of meaning e.network) e.until e.world actions }

-- the actions of a sweep of this executive
abbrev pub sweep_of : {M S : Type 0} → (M → Meaning S) → Running M S → List Action
sweep_of meaning e = sweep (network_of meaning e.network) e.until e.world

abbrev pub pass_of : {M S : Type 0} → (M → Meaning S) → Running M S → List Action
pass_of meaning e = pass (network_of meaning e.network) e.until e.world

-- at most n passes more
abbrev pub passes_left : {M S : Type 0} → (M → Meaning S) → ℕ → Running M S → List Action
passes_left meaning n e = passes (network_of meaning e.network) e.until n e.world

-- until nothing is in transit and nothing owed is overdue
abbrev pub passes_of : {M S : Type 0} → (M → Meaning S) → Running M S → List Action
passes_of meaning e = passes_left meaning (work e.world) e

abbrev pub deliveries_from : {M S : Type 0} → ℕ → Running M S → List Action
deliveries_from q e = deliveries q (drop q e.world.mail)

abbrev pub is_idle : {S : Type 0} → Process S → Bool
is_idle p = is_empty p.outgoing && is_empty (overdue (next p) p.owed)

-- refused for want of nodes (12): the process of this action would hold too many; of want of memory (4) no more is said
abbrev pub IsWanting : {M S : Type 0} → (M → Meaning S) → Running M S → Action → SweepRefused → Type 0
IsWanting meaning e action OutOfMemory = ⊤
IsWanting meaning e action Full = WantsNodes (network_of meaning e.network) e.world action

pub record IsCutShort {M S : Type 0} (meaning : M → Meaning S) (actions : List Action) (e e' : Running M S) (why : SweepRefused) : Type 0 where
  pub done : List Action
  -- this one was refused, and it takes memory
  pub next : Action
  pub takes : TakesMemory next
  pub rest : List Action
  pub is : done ++ next ∷ rest ≡ actions
  pub after : e' ≡ replayed meaning done e
  pub wanting : IsWanting meaning e' next why

-- ---- while it goes on

-- these actions were taken of all, and these are left
pub record IsUnderWay {M S : Type 0} (meaning : M → Meaning S) (all left : List Action) (e e' : Running M S) : Type 0 where
  pub done : List Action
  pub is : done ++ left ≡ all
  pub after : e' ≡ replayed meaning done e
