-- An order that was given out is due: of a component of the network, of steps before the end tick.
use Rattle.std.proofs.Common.{◌≡◌, ℕ, ◌<◌, ◌≤◌, length, Some, ap, arith}
use Rattle.std.specs.Prelude.{slice_get}
use Rattle.tw_atomic.specs.Atomic.{Meaning}
use Rattle.tw_theory.specs.Chains.{Start}
use Rattle.tw_theory.specs.Contents.{next}
use Rattle.tw_theory.specs.Standing.{IsReady}
use Rattle.tw_vtime.specs.Stamps.{max_microstep}
use Rattle.tw_exchange.specs.Ends.{IsDue}
use Rattle.tw_exchange.specs.Exchanged.{Exchanged, IsNearOrder, bound_at, near_bound}

-- it never ends later than the window
near_le : (reach bound next : ℕ) → near_bound reach bound next ≤ bound
near_le reach bound next = omega arith

pub drawn_due : {M S : Type 0} (valid : M → S → Type 0) (meaning : M → Meaning S) (window burst reach : ℕ) (x : Exchanged M S) (order : Start S) → IsNearOrder window burst reach x order
    → order.component < length x.executive.network.models
    → ((m : M) → slice_get x.executive.network.models order.component ≡ Some m → IsReady (valid m) (meaning m) order.component order.now order.messages)
    → order.micro_limit ≤ max_microstep → IsDue valid meaning x.executive.network x.executive.until order
drawn_due {M} {S} valid meaning window burst reach x order is near ready low =
    let from = ap (λ s. s.before) is.start in
    let within = near_le reach (bound_at window x) (next is.next.process) in
    record {
      near = near;
      ready = ready;
      limit = ap (λ s. s.micro_limit) is.start;
      low = low;
      before = omega (arith, from, within);
    }
