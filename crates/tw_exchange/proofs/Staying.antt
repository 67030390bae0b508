-- Steps post nothing: so a chain that is handed in leaves the mailboxes as they are. And what a run that goes on keeps, whatever is done.
use Rattle.std.proofs.Common.{◌≡◌, ℕ, zero, suc, List, None, Some, Ok, Err, refl, sym, subst, ◌∙◌}
use Rattle.std.specs.Prelude.{IfErr, OnErr, OnOk, Option, Result, nat_lt, slice_get, Ok, Err}
use Rattle.std.proofs.lemmas.Bool.{cond_both}
use Rattle.atomic_table.specs.Seated.{TableId}
use Rattle.tw_atomic.specs.Atomic.{Meaning}
use Rattle.tw_exec.specs.Chains.{IsInstalledOn}
use Rattle.tw_exec.specs.Running.{after}
use Rattle.tw_laws.specs.Chains.{steps_of_one}
use Rattle.tw_network.specs.Contents.{Contents}
use Rattle.tw_actions.specs.declared.chain.Finished.{Finished}
use Rattle.tw_theory.specs.Chains.{Chain}
use Rattle.tw_theory.specs.Contents.{Process, next}
use Rattle.tw_theory.specs.Executive.{Action, World, Step, Answer, NothingDue, act, act_step, if_made, replay}
use Rattle.tw_theory.specs.LocalRun.{Made, NoStep, local_step}
use Rattle.tw_theory.specs.Network.{Network}
use Rattle.tw_vtime.specs.Stamps.{stamp}
use Rattle.tw_exchange.specs.Exchanged.{Exchanged, with_executive}
use Rattle.tw_exchange.specs.Further.{IsFurther, IsSince, Reached, reached}
use Rattle.tw_exchange.specs.Sweeping.{IsCutShort, replayed}
use Rattle.tw_exchange.proofs.Coming.{since_further}
use Rattle.tw_exchange.proofs.UnderWay.{done_of}
use Rattle.tw_exchange.specs.declared.refused.SweepRefused.{SweepRefused}

module _ {S : Type 0} (net : Network S) (until : ℕ) where
  made_mail : (w : World S) (c : ℕ) (p : Process S) (next : Result (Made S) NoStep) → (if_made w c p next).1.mail ≡ w.mail
  made_mail w c p (Ok made) = refl
  made_mail w c p (Err why) = refl

  step_mail : (w : World S) (c : ℕ) (p : Option (Process S)) → (act_step net until w c p).1.mail ≡ w.mail
  step_mail w c None = refl
  step_mail w c (Some p) =
      let late : Answer × World S = (Err NothingDue, w) in
      cond_both (nat_lt (next p) (stamp until 0 0)) (if_made w c p (local_step net c p.now p.pending)) late (λ x. x.1.mail ≡ w.mail)
      (λ e. made_mail w c p (local_step net c p.now p.pending)) (λ e. refl)

  acted_mail : (w : World S) (c : ℕ) → (act net until w (Step c)).1.mail ≡ w.mail
  unfolding act
  acted_mail w c = step_mail w c (slice_get w.processes c)

  pub steps_mail : (w : World S) (c n : ℕ) → (replay net until w (steps_of_one c n)).mail ≡ w.mail
  steps_mail w c zero = refl
  steps_mail w c (suc n) = steps_mail (act net until w (Step c)).1 c n ∙ acted_mail w c

module _ {M S : Type 0} (meaning : M → Meaning S) (given : Contents M → ℕ → TableId → Type 0) (begun : Reached → Type 0) where
  abbrev pub IsGoing : Exchanged M S → Type 0
  IsGoing x = given x.executive.network x.executive.until x.publisher.board × IsSince begun x.executive.world

  -- actions, all or a beginning of them, leave it so
  pub stays_going : {X : Type 0} (all : List Action) (old new : Exchanged M S) (result : Result X SweepRefused)
      → OnOk result (new.executive ≡ replayed meaning all old.executive) → IfErr result (IsCutShort meaning all old.executive new.executive) → new.publisher.board ≡ old.publisher.board
      → IsFurther (reached old.executive.world) (reached new.executive.world) → IsGoing old → IsGoing new
  stays_going all old new result whole cut board further h =
      let done = done_of meaning all old.executive new.executive result whole cut in (
        subst (λ b. given new.executive.network new.executive.until b) (sym board) (subst (λ e. given e.network e.until old.publisher.board) (sym done.1) h.0),
        since_further begun old.executive.world new.executive.world h.1 further,
      )

  -- and so do an action, and a chain that is handed in
  pub acted_going : {X E : Type 0} (action : Action) (old new : Exchanged M S) (result : Result X E) → OnOk result (new ≡ with_executive (after meaning action old.executive) old) → OnErr result (new ≡ old)
      → IsFurther (reached old.executive.world) (reached new.executive.world) → IsGoing old → IsGoing new
  acted_going action old new (Ok done) is stays further h = (
    subst (λ x. given x.executive.network x.executive.until x.publisher.board) (sym is) h.0,
    since_further begun old.executive.world new.executive.world h.1 further,
  )
  acted_going action old new (Err why) is stays further h = subst IsGoing (sym stays) h

  pub installed_going : (chain : Chain M S) (old new : Exchanged M S) (finished : Finished) → IsInstalledOn meaning chain old.executive new.executive finished → new.publisher ≡ old.publisher
      → IsFurther (reached old.executive.world) (reached new.executive.world) → IsGoing old → IsGoing new
  installed_going chain old new finished is same further h = (
    subst (λ e. given e.network e.until new.publisher.board) (sym is.steps) (subst (λ p. given old.executive.network old.executive.until p.board) (sym same) h.0),
    since_further begun old.executive.world new.executive.world h.1 further,
  )
