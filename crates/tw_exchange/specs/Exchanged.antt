-- What contracts see of an exchange, and what its calls make of it.
--     Exchanged M S      an executive, of each component whether it is given out, and the board's publisher
--     IsNotAhead publisher e      no more is posted than global virtual time and the number of committed records
--     with_executive e x, with_busy c b x      the same exchange, changed in one part
--     bound_at window x      the steps of a component that is given out now stand before it
--     IsNext window x c      c is the component to be given out
--     IsOrder window burst x order      its order
--     IsNearOrder window burst reach x order      an order of it that goes less far
--     NoneNext window x      there is none
--     IsReadyIn valid meaning n order      where its component stands, it can take what comes
--     IsGivenOut valid meaning window x x' result      an order of x comes out, and its component is given out; or none, where there is none
--     posted e publisher      it has posted how far e has come
--     IsExact stamps ps      each component that is free stands in the agenda under its next stamp
--     IsExactBut b stamps ps, IsExactUpTo n stamps ps      each but b does; each below n
use Rattle.std.specs.Prelude.{◌≡◌, ◌≢◌, ◌<◌, ◌≤◌, ◌+◌, ◌-◌, ◌==◌, ℕ, min, nat_le, if◌then◌else◌, Bool, true, false, List, map, length, Option, Some, None, Result, IfOk, IfSome, OnErr, slice_get, slice_set}
use Rattle.tw_atomic.specs.Atomic.{Meaning}
use Rattle.tw_board.specs.Known.{Known}
use Rattle.tw_exec.specs.Chains.{start_at}
use Rattle.tw_exec.specs.Running.{Running}
use Rattle.tw_network.specs.Contents.{Contents}
use Rattle.tw_theory.specs.Board.{AtMost, numbers_of}
use Rattle.tw_theory.specs.Chains.{Start}
use Rattle.tw_theory.specs.Contents as theory
use Rattle.tw_theory.specs.Contents.{Process, next}
use Rattle.tw_theory.specs.Exchange.{IsDrawn, bound_of}
use Rattle.tw_theory.specs.Standing.{IsReady}
use Rattle.tw_vtime.specs.Stamps.{max_microstep, max_tick, never, stamp, tick_of}

pub record Exchanged (M S : Type 0) : Type 0 where
  pub executive : Running M S
  -- of each component, whether it is given out
  pub busy : List Bool
  -- which board, and what was posted on it
  pub publisher : Known

abbrev pub IsNotAhead : {M S : Type 0} → Known → Running M S → Type 0
IsNotAhead publisher e = AtMost publisher.numbers (numbers_of e.world)

abbrev pub with_executive : {M S : Type 0} → Running M S → Exchanged M S → Exchanged M S
with_executive e x = record x { executive = e }

abbrev pub posted : {M S : Type 0} → Running M S → Known → Known
posted e publisher = record { board = publisher.board; numbers = numbers_of e.world }

-- a component is given out, or free again; of a component that is not there nothing changes
abbrev pub with_busy : {M S : Type 0} → ℕ → Bool → Exchanged M S → Exchanged M S
with_busy c busy x = record x { busy = slice_set x.busy c busy }

abbrev pub bound_at : {M S : Type 0} → ℕ → Exchanged M S → ℕ
bound_at window x = bound_of x.executive.until x.executive.world.gvt window

abbrev pub IsNext : {M S : Type 0} → ℕ → Exchanged M S → ℕ → Type 0
IsNext window x c = IsDrawn x.executive.until x.executive.world.gvt window x.busy x.executive.world.processes c

-- the first stamp of the tick after gvt's and the window, where there is such a tick
abbrev pub window_end : ℕ → ℕ → ℕ
window_end gvt window = if nat_le (tick_of gvt + window + 1) max_tick then stamp (tick_of gvt + window + 1) 0 0 else never

-- the first stamp of the tick so many ticks after that of the next step, of the one after it at least; or the bound, where that is before it
abbrev pub near_bound : ℕ → ℕ → ℕ → ℕ
near_bound reach bound next = min bound (window_end next (reach - 1))

abbrev pub near_burst : ℕ → ℕ → ℕ
near_burst reach burst = if reach == 0 then min burst 1 else burst

-- an order of that component: from where it stands, for at most burst steps within the window
pub record IsOrder {M S : Type 0} (window burst : ℕ) (x : Exchanged M S) (order : Start S) : Type 0 where
  pub next : IsNext window x order.component
  pub start : order ≡ start_at (bound_at window x) burst order.component x.executive.network next.process

-- an order of that component that reaches only so many ticks beyond its next step, or, where that is 0, of one step
pub record IsNearOrder {M S : Type 0} (window burst reach : ℕ) (x : Exchanged M S) (order : Start S) : Type 0 where
  pub next : IsNext window x order.component
  pub start : order ≡ start_at (near_bound reach (bound_at window x) (theory.next next.process)) (near_burst reach burst) order.component x.executive.network next.process

abbrev pub NoneNext : {M S : Type 0} → ℕ → Exchanged M S → Type 0
NoneNext window x = (c : ℕ) → IsNext window x c → ⊥

-- of the model of its component
abbrev pub IsReadyIn : {M S : Type 0} → (M → S → Type 0) → (M → Meaning S) → Contents M → Start S → Type 0
IsReadyIn {M} valid meaning n order = (m : M) → slice_get n.models order.component ≡ Some m → IsReady (valid m) (meaning m) order.component order.now order.messages

pub record IsGivenOut {M S E : Type 0} (valid : M → S → Type 0) (meaning : M → Meaning S) (window : ℕ) (x x' : Exchanged M S) (result : Result (Option (Start S)) E) : Type 0 where
  -- what comes out
  pub known : IfOk result (λ drawn. IfSome drawn (λ order. order.component < length x.executive.network.models))
  pub ready : IfOk result (λ drawn. IfSome drawn (IsReadyIn valid meaning x.executive.network))
  pub limit : IfOk result (λ drawn. IfSome drawn (λ order. order.micro_limit ≤ max_microstep))
  pub busy : IfOk result (λ drawn. IfSome drawn (λ order. x' ≡ with_busy order.component true x))
  -- none, exactly where there is no such component
  pub none : IfOk result (λ drawn. drawn ≡ None → NoneNext window x)
  pub none_stays : IfOk result (λ drawn. drawn ≡ None → x' ≡ x)
  -- refused
  pub stays : OnErr result (x' ≡ x)

-- ---- how it is held

-- what has no stamp in the agenda is given out
abbrev pub is_out : Option ℕ → Bool
is_out None = true
is_out (Some s) = false

abbrev pub busy_in : List (Option ℕ) → List Bool
busy_in stamps = map is_out stamps

pub record IsExact {S : Type 0} (stamps : List (Option ℕ)) (ps : List (Process S)) : Type 0 where
  pub count : length stamps ≡ length ps
  pub next_is : (c s : ℕ) (p : Process S) → slice_get stamps c ≡ Some (Some s) → slice_get ps c ≡ Some p → s ≡ next p

pub record IsExactBut {S : Type 0} (b : ℕ) (stamps : List (Option ℕ)) (ps : List (Process S)) : Type 0 where
  pub count : length stamps ≡ length ps
  pub next_is : (c s : ℕ) (p : Process S) → c ≢ b → slice_get stamps c ≡ Some (Some s) → slice_get ps c ≡ Some p → s ≡ next p

pub record IsExactUpTo {S : Type 0} (n : ℕ) (stamps : List (Option ℕ)) (ps : List (Process S)) : Type 0 where
  pub count : length stamps ≡ length ps
  pub next_is : (c s : ℕ) (p : Process S) → c < n → slice_get stamps c ≡ Some (Some s) → slice_get ps c ≡ Some p → s ≡ next p
