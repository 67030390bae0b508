-- Whatever is done to an exchange, its network and its end tick stay; and what it gives out is of these.
use Rattle.std.proofs.Common.{◌≡◌, ◌<◌, ◌≤◌, ℕ, List, length, None, Some, Ok, Err, true, refl, sym, ap, subst, arith}
use Rattle.std.specs.Prelude.{IfErr, IfOk, IfSome, OnErr, OnOk, Option, Result, slice_get}
use Rattle.tw_actions.specs.declared.chain.Finished.{Finished}
use Rattle.tw_atomic.specs.Atomic.{Meaning}
use Rattle.tw_exec.specs.Chains.{IsInstalledOn}
use Rattle.tw_exec.specs.Running.{after}
use Rattle.tw_network.specs.Contents.{Contents}
use Rattle.tw_theory.specs.Chains.{Chain, Start}
use Rattle.tw_theory.specs.Executive.{Action}
use Rattle.tw_theory.specs.Standing.{IsReady}
use Rattle.tw_vtime.specs.Stamps.{max_microstep}
use Rattle.tw_exchange.proofs.Due.{drawn_due}
use Rattle.tw_exchange.proofs.UnderWay.{done_of}
use Rattle.tw_exchange.specs.Ends.{IsDue}
use Rattle.tw_exchange.specs.Exchanged.{Exchanged, IsNearOrder, IsOrder, bound_at, with_busy, with_executive}
use Rattle.tw_exchange.specs.Sweeping.{IsCutShort, replayed}
use Rattle.tw_exchange.specs.declared.refused.SweepRefused.{SweepRefused}

-- of this network, until this tick
abbrev pub IsOf : {M S : Type 0} → Contents M → ℕ → Exchanged M S → Type 0
IsOf n until x = (x.executive.network ≡ n) × (x.executive.until ≡ until)

module _ {M S : Type 0} (meaning : M → Meaning S) (n : Contents M) (until : ℕ) where
  -- an action, done or refused
  pub acted : {X E : Type 0} (action : Action) (old new : Exchanged M S) (result : Result X E) → OnOk result (new ≡ with_executive (after meaning action old.executive) old) → OnErr result (new ≡ old)
      → IsOf n until old → IsOf n until new
  acted action old new (Ok done) is stays h = subst (IsOf n until) (sym is) h
  acted action old new (Err why) is stays h = subst (IsOf n until) (sym stays) h

  -- actions, all or a beginning of them
  pub passed : {X : Type 0} (all : List Action) (old new : Exchanged M S) (result : Result X SweepRefused) → OnOk result (new.executive ≡ replayed meaning all old.executive)
      → IfErr result (IsCutShort meaning all old.executive new.executive) → IsOf n until old → IsOf n until new
  passed all old new result whole cut h = subst (λ e. (e.network ≡ n) × (e.until ≡ until)) (sym (done_of meaning all old.executive new.executive result whole cut).1) h

  -- a chain that was handed in
  pub handed : {E : Type 0} (chain : Chain M S) (old new : Exchanged M S) (result : Result Finished E) → IfOk result (IsInstalledOn meaning chain old.executive new.executive) → OnErr result (new ≡ old)
      → IsOf n until old → IsOf n until new
  handed chain old new (Ok finished) is stays h = subst (λ e. (e.network ≡ n) × (e.until ≡ until)) (sym is.steps) h
  handed chain old new (Err why) is stays h = subst (IsOf n until) (sym stays) h

  -- an order that was given out, or none
  pub given : {E : Type 0} (old new : Exchanged M S) (result : Result (Option (Start S)) E) → IfOk result (λ drawn. IfSome drawn (λ order. new ≡ with_busy order.component true old))
      → IfOk result (λ drawn. drawn ≡ None → new ≡ old) → OnErr result (new ≡ old) → IsOf n until old → IsOf n until new
  given old new (Ok (Some order)) busy none stays h = subst (IsOf n until) (sym busy) h
  given old new (Ok None) busy none stays h = subst (IsOf n until) (sym (none refl)) h
  given old new (Err why) busy none stays h = subst (IsOf n until) (sym stays) h

  -- ## What is given out is due

  whole_due : (valid : M → S → Type 0) (window burst : ℕ) (x : Exchanged M S) (order : Start S) → IsOrder window burst x order → order.component < length x.executive.network.models
      → ((m : M) → slice_get x.executive.network.models order.component ≡ Some m → IsReady (valid m) (meaning m) order.component order.now order.messages) → order.micro_limit ≤ max_microstep
      → IsDue valid meaning x.executive.network x.executive.until order
  whole_due valid window burst x order is near ready low =
      let from = ap (λ s. s.before) is.start in
      record {
        near = near;
        ready = ready;
        limit = ap (λ s. s.micro_limit) is.start;
        low = low;
        before = omega (arith, from);
      }

  of_these : (valid : M → S → Type 0) (x : Exchanged M S) (order : Start S) → IsOf n until x → IsDue valid meaning x.executive.network x.executive.until order → IsDue valid meaning n until order
  of_these valid x order is due = subst (λ u. IsDue valid meaning n u order) is.1 (subst (λ m. IsDue valid meaning m x.executive.until order) is.0 due)

  pub ordered : {E : Type 0} (valid : M → S → Type 0) (window burst : ℕ) (x : Exchanged M S) (result : Result (Option (Start S)) E) → IfOk result (λ drawn. IfSome drawn (IsOrder window burst x))
      → IfOk result (λ drawn. IfSome drawn (λ order. order.component < length x.executive.network.models))
      → IfOk result (λ drawn. IfSome drawn (λ order. (m : M) → slice_get x.executive.network.models order.component ≡ Some m → IsReady (valid m) (meaning m) order.component order.now order.messages))
      → IfOk result (λ drawn. IfSome drawn (λ order. order.micro_limit ≤ max_microstep)) → IsOf n until x → IfOk result (λ drawn. IfSome drawn (IsDue valid meaning n until))
  ordered valid window burst x (Ok (Some order)) is near ready low of = of_these valid x order of (whole_due valid window burst x order is near ready low)
  ordered valid window burst x (Ok None) is near ready low of = tt
  ordered valid window burst x (Err why) is near ready low of = tt

  pub ordered_near : {E : Type 0} (valid : M → S → Type 0) (window burst reach : ℕ) (x : Exchanged M S) (result : Result (Option (Start S)) E) → IfOk result (λ drawn. IfSome drawn (IsNearOrder window burst reach x))
      → IfOk result (λ drawn. IfSome drawn (λ order. order.component < length x.executive.network.models))
      → IfOk result (λ drawn. IfSome drawn (λ order. (m : M) → slice_get x.executive.network.models order.component ≡ Some m → IsReady (valid m) (meaning m) order.component order.now order.messages))
      → IfOk result (λ drawn. IfSome drawn (λ order. order.micro_limit ≤ max_microstep)) → IsOf n until x → IfOk result (λ drawn. IfSome drawn (IsDue valid meaning n until))
  ordered_near valid window burst reach x (Ok (Some order)) is near ready low of = of_these valid x order of (drawn_due valid meaning window burst reach x order is near ready low)
  ordered_near valid window burst reach x (Ok None) is near ready low of = tt
  ordered_near valid window burst reach x (Err why) is near ready low of = tt
