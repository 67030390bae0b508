-- A transition at global virtual time, made and taken back, leaves everything as it was: it sends nothing.
use Rattle.std.proofs.Common.{◌≡◌, ℕ, zero, suc, ◌-◌, ◌<◌, ◌≤◌, true, List, [], ◌∷◌, ◌++◌, length, cond, Option, None, Some, refl, sym, ap, subst, ◌∙◌, arith}
use Rattle.std.specs.Prelude.{IfErr, IfOk, IfSome, OnOk, Result, Ok, Err, nat_le, slice_get, slice_set, ◌==◌}
use Rattle.std.proofs.lemmas.Bool.{eqb-true, le-ltb, lt-ltb}
use Rattle.std.proofs.lemmas.List.{append-nil, set-set}
use Rattle.std.proofs.lemmas.Option.{none-some, same_Some}
use Rattle.tw_atomic.specs.Atomic.{Meaning}
use Rattle.tw_exec.specs.Actions.{reason}
use Rattle.tw_exec.specs.Running.{IsReason, IsSoundly, Running, after, answer}
use Rattle.tw_actions.specs.declared.action.Done.{Done}
use Rattle.tw_exec.specs.declared.refused.Refused.{Refused as Why}
use Rattle.tw_laws.proofs.Inverse.{back_is, set_here}
use Rattle.tw_laws.proofs.Ordered.{AllOrdered, IsOrdered}
use Rattle.tw_laws.proofs.Rewinding.{world_ordered}
use Rattle.tw_network.specs.Contents.{network_of}
use Rattle.tw_theory.proofs.Elements.{set_same}
use Rattle.tw_theory.proofs.Steps.{IfOk-cond, local_step_follows}
use Rattle.tw_theory.proofs.TakingBack.{undo_law}
use Rattle.tw_theory.specs.Contents.{Aggressive, Cancel, Lazy, Process, back_to_first, cut, next, steps_before, undo_last, with_step}
use Rattle.tw_theory.specs.Executive.{Answer, Back, Step, Undone, World, act, act_step, if_made, refusal_of, with_process, NothingDue}
use Rattle.tw_theory.specs.Executive as theory
use Rattle.tw_theory.specs.LocalRun.{Made, NoStep, local_step, if_moved, step_at, transition_made}
use Rattle.tw_theory.specs.LocalRun as local
use Rattle.tw_theory.specs.LocalRun.{Step as StepMade}
use Rattle.tw_theory.specs.Memory.{TakesMemory}
use Rattle.tw_theory.specs.Network.{Network}
use Rattle.tw_theory.specs.Outcomes.{limit_of}
use Rattle.tw_theory.specs.Soundness.{AllBefore}
use Rattle.tw_theory.specs.Transitions.{Move, Moment}
use Rattle.tw_msgs.specs.declared.message.Message.{Message}
use Rattle.tw_vtime.specs.Stamps.{never, phase_of, stamp}
use Rattle.tw_vtime.specs.declared.limits.Limit.{Limit}

-- ## What a transition sends

module _ {S : Type 0} (net : Network S) (c : ℕ) where
  SendsNone : Made S → Type 0
  SendsNone made = made.step.sent ≡ []

  moves_none : (now : Moment S) (pending : List Message) (s : ℕ) (r : Result (Move S) Limit) → IfOk (if_moved (transition_made now pending s) r) (λ made. made.step.sent ≡ [])
  moves_none now pending s (Ok move) = refl
  moves_none now pending s (Err limit) = tt

  sends_at : (now : Moment S) (pending : List Message) (s : ℕ) → phase_of s ≡ 1 → IfOk (step_at net c now pending s) (λ made. made.step.sent ≡ [])
  unfolding step_at
  sends_at now pending s odd =
      IfOk-cond (λ made. made.step.sent ≡ []) (nat_le never s) _ _ (λ late. tt)
      (λ early. IfOk-cond (λ made. made.step.sent ≡ []) (phase_of s == 0) _ _ (λ even. absurd (both even)) (λ _. moves_none now pending s _))
    where
      both : (phase_of s == 0) ≡ true → ⊥
      both even = let zero_is = eqb-true (phase_of s) 0 even in omega (arith, zero_is, odd)

  sends_none : (now : Moment S) (pending : List Message) (made : Made S) → phase_of (local.next_of now pending) ≡ 1 → local_step net c now pending ≡ Ok made → made.step.sent ≡ []
  unfolding local_step
  sends_none now pending made odd e = subst (λ r. IfOk r (λ made. made.step.sent ≡ [])) e (sends_at now pending (local.next_of now pending) odd)

  -- ## Taken back

  all_but_last : (s : ℕ) (steps : List (StepMade S)) (last : StepMade S) → AllBefore s steps → s ≤ last.entry.stamp → steps_before s (steps ++ last ∷ []) ≡ length (steps ++ last ∷ []) - 1
  all_but_last s [] last before late = ap (λ b. cond b 1 0) (le-ltb last.entry.stamp s late)
  all_but_last s (x ∷ steps) last before late =
      ap (λ b. cond b (suc (steps_before s (steps ++ last ∷ []))) 0) (lt-ltb x.entry.stamp s before.0)
      ∙ suc_less (steps_before s (steps ++ last ∷ [])) (length (steps ++ last ∷ [])) (some steps) (all_but_last s steps last before.1 late)
    where
      suc_less : (n k : ℕ) → 0 < k → n ≡ k - 1 → suc n ≡ suc k - 1
      suc_less n k some is = omega (arith, some, is)

      some : (steps : List (StepMade S)) → 0 < length (steps ++ last ∷ [])
      some [] = omega arith
      some (y ∷ ys) = omega arith

  undone : (k : Cancel) (p : Process S) (made : Made S) → p.cancel ≡ k → local_step net c p.now p.pending ≡ Ok made → made.step.sent ≡ [] → undo_last (with_step p made) ≡ p
  undone Aggressive p made way e none =
      undo_law.aggressive net c p made e way ∙ ap (λ l. record p { outgoing = (p.outgoing ++ Rattle.tw_theory.specs.Bundles.positives l) ++ Rattle.tw_theory.specs.Bundles.antis l }) none
      ∙ ap (λ l. record p { outgoing = l }) (append-nil (p.outgoing ++ []) ∙ append-nil p.outgoing)
  undone Lazy p made way e none =
      undo_law.lazy net c p made e way
      ∙ ap (λ l. record p { outgoing = p.outgoing ++ Rattle.tw_theory.specs.Bundles.positives (Rattle.tw_theory.specs.Bundles.sent_anew p.owed l); owed = Rattle.tw_theory.specs.Bundles.still_owed p.owed l ++ l }) none
      ∙ (λ i. record p { outgoing = append-nil p.outgoing i; owed = append-nil p.owed i })

  cut_again : (p : Process S) (made : Made S) → AllBefore (next p) p.history → phase_of (next p) ≡ 1 → local_step net c p.now p.pending ≡ Ok made → cut (next p) (with_step p made) ≡ p
  cut_again p made past odd e =
      let f = local_step_follows net c p.now p.pending made e in
      ap (λ n. back_to_first n (with_step p made)) (all_but_last (next p) p.history made.step past (omega (arith, f.stamp_is)))
      ∙ undone p.cancel p made refl e (sends_none p.now p.pending made odd e)

-- ## Tried

ordered_at : {S : Type 0} (ps : List (Process S)) (c : ℕ) (p : Process S) → AllOrdered ps → slice_get ps c ≡ Some p → IsOrdered p
ordered_at [] c p all at = absurd (none-some p at)
ordered_at (q ∷ ps) zero p all at = subst IsOrdered (same_Some q p at) all.0
ordered_at (q ∷ ps) (suc c) p all at = ordered_at ps c p all.1 at

no_refusal : (d : Done) (why : theory.Refusal) → ◌≡◌ {A = Answer} (Ok d) (Err why) → ⊥
no_refusal d why is = cc

module _ {M S : Type 0} (meaning : M → Meaning S) (e : Running M S) (s : IsSoundly meaning e) (c : ℕ) (p : Process S) (at : slice_get e.world.processes c ≡ Some p)
    (here : next p ≡ e.world.gvt) (before : e.world.gvt < stamp e.until 0 0) (odd : phase_of e.world.gvt ≡ 1) where
  tries : act (network_of meaning e.network) e.until e.world (Step c) ≡ if_made e.world c p (local_step (network_of meaning e.network) c p.now p.pending)
  unfolding act
  tries =
      let late : Answer × World S = (Err NothingDue, e.world) in
      ap (act_step (network_of meaning e.network) e.until e.world c) at
      ∙ ap (λ b. cond b (if_made e.world c p (local_step (network_of meaning e.network) c p.now p.pending)) late) (lt-ltb (next p) (stamp e.until 0 0) (omega (arith, here, before)))

  -- the step is not refused: it meets no limit
  pub no_limit : (d : Done) → answer meaning (Step c) e ≡ Ok d → limit_of (local_step (network_of meaning e.network) c p.now p.pending) ≡ None
  no_limit d is = go (local_step (network_of meaning e.network) c p.now p.pending) (ap (λ x. x.0) (sym tries) ∙ is)
    where
      go : (r : Result (Made S) NoStep) → (if_made e.world c p r).0 ≡ Ok d → limit_of r ≡ None
      go (Ok made) is = refl
      go (Err local.NothingDue) is = refl
      go (Err (local.OverLimit limit)) is = absurd (no_refusal d (theory.OverLimit limit) (sym is))

  -- it is refused for a limit: it meets it
  pub its_limit : (limit : Limit) → answer meaning (Step c) e ≡ Err (theory.OverLimit limit) → limit_of (local_step (network_of meaning e.network) c p.now p.pending) ≡ Some limit
  its_limit limit is = go (local_step (network_of meaning e.network) c p.now p.pending) (ap (λ x. x.0) (sym tries) ∙ is)
    where
      go : (r : Result (Made S) NoStep) → (if_made e.world c p r).0 ≡ Err (theory.OverLimit limit) → limit_of r ≡ Some limit
      go (Ok made) is = absurd (cc)
      go (Err local.NothingDue) is = absurd (cc)
      go (Err (local.OverLimit other)) is = ap Some (cc)

  -- it is taken back
  taken_back : (d : Done) → answer meaning (Step c) e ≡ Ok d → (n : ℕ) × (act (network_of meaning e.network) e.until (after meaning (Step c) e).world (Back c e.world.gvt) ≡ (Ok (Undone n), e.world))
  taken_back d is =
      let back = go (local_step (network_of meaning e.network) c p.now p.pending) refl (ap (λ x. x.0) (sym tries) ∙ is) in
      (back.0, ap (λ x. act (network_of meaning e.network) e.until x.1 (Back c e.world.gvt)) tries ∙ back.1)
    where
      go : (r : Result (Made S) NoStep) → local_step (network_of meaning e.network) c p.now p.pending ≡ r → (if_made e.world c p r).0 ≡ Ok d
          → (n : ℕ) × (act (network_of meaning e.network) e.until (if_made e.world c p r).1 (Back c e.world.gvt) ≡ (Ok (Undone n), e.world))
      go (Err why) made is = absurd (no_refusal d (refusal_of why) (sym is))
      go (Ok made) is _ =
          let q = with_step p made in
          let w = with_process e.world c q in
          let n = Rattle.tw_theory.specs.Contents.steps_from e.world.gvt q in
          let past = (ordered_at e.world.processes c p (world_ordered (network_of meaning e.network) e.until e.world s.sound) at).past in
          let cut_is : cut e.world.gvt q ≡ p = ap (λ k. cut k q) (sym here) ∙ cut_again (network_of meaning e.network) c p made past (omega (arith, odd, here)) is in
          let processes = set-set e.world.processes c q (cut e.world.gvt q) ∙ ap (slice_set e.world.processes c) cut_is ∙ set_same e.world.processes c p at in
          (n, back_is (network_of meaning e.network) e.until w c e.world.gvt q (set_here e.world.processes c p q at) (omega arith) ∙ ap (λ ps. (Ok (Undone n), record e.world { processes = ps })) processes)

  restored_at : (d : Done) → answer meaning (Step c) e ≡ Ok d → (tried new : Running M S) (result : Result Done Why) → tried ≡ after meaning (Step c) e
      → OnOk result (new ≡ after meaning (Back c e.world.gvt) tried) → IfErr result (IsReason meaning (Back c e.world.gvt) tried) → IfErr result (λ why. reason why ≡ None → TakesMemory (Back c e.world.gvt)) → new ≡ e
  restored_at d is tried new (Ok x) stepped done refused memory =
      let back = taken_back d is in
      done ∙ ap (after meaning (Back c e.world.gvt)) stepped ∙ ap (λ x. record e { world = x.1 }) back.1
  restored_at d is tried new (Err why) stepped done refused memory =
      let back = taken_back d is in
      let undone : answer meaning (Back c e.world.gvt) tried ≡ Ok (Undone back.0) = ap (answer meaning (Back c e.world.gvt)) stepped ∙ ap (λ x. x.0) back.1 in
      absurd (go (reason why) refl refused undone)
    where
      go : (r : Option theory.Refusal) → reason why ≡ r → IfSome r (λ x. answer meaning (Back c e.world.gvt) tried ≡ Err x) → {n : ℕ} → answer meaning (Back c e.world.gvt) tried ≡ Ok (Undone n) → ⊥
      go None none refused undone = memory none
      go (Some x) some refused undone = let both = sym undone ∙ refused in absurd (cc)

  pub restored : (d : Done) → answer meaning (Step c) e ≡ Ok d → (tried new : Running M S) (result : Result Done Why) → tried ≡ after meaning (Step c) e → (g : ℕ) → g ≡ e.world.gvt
      → OnOk result (new ≡ after meaning (Back c g) tried) → IfErr result (IsReason meaning (Back c g) tried) → IfErr result (λ why. reason why ≡ None → TakesMemory (Back c g)) → new ≡ e
  restored d is tried new result stepped g same done refused memory =
      restored_at d is tried new result stepped (subst (λ k. OnOk result (new ≡ after meaning (Back c k) tried)) same done) (subst (λ k. IfErr result (IsReason meaning (Back c k) tried)) same refused)
      (subst (λ k. IfErr result (λ why. reason why ≡ None → TakesMemory (Back c k))) same memory)
