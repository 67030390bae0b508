-- Lists of actions: one more of them, taken or refused.
use Rattle.std.proofs.Common.{◌≡◌, ℕ, ◌+◌, List, [], ◌∷◌, ◌++◌, Option, None, Some, Result, Ok, Err, true, false, ◌≤◌, true≢false, refl, sym, ap, ◌∙◌, subst, arith}
use Rattle.std.specs.Prelude.{IfErr, IfOk, IfSome, OnErr, OnOk}
use Rattle.std.specs.Result.{is_ok}
use Rattle.tw_atomic.specs.Atomic.{Meaning}
use Rattle.tw_exec.specs.Actions.{reason}
use Rattle.tw_exec.specs.Running.{Running, IsReason, after, answer}
use Rattle.tw_actions.specs.declared.action.Action.{Action}
use Rattle.tw_actions.specs.declared.action.Done.{Done}
use Rattle.tw_exec.specs.declared.refused.Refused.{Refused}
use Rattle.tw_laws.proofs.Growing.{refused_law}
use Rattle.tw_laws.proofs.Replayed.{replay_law}
use Rattle.tw_network.specs.Contents.{network_of}
use Rattle.tw_theory.specs.Executive.{World, act}
use Rattle.tw_theory.specs.Executive as theory
use Rattle.tw_theory.specs.Memory.{IsReplayed, TakesMemory, one_if_taken}

abbrev pub counted : Result Done Refused → ℕ
counted (Ok done) = 1
counted (Err why) = 0

module _ {M S : Type 0} (meaning : M → Meaning S) (w : World S) (actions : List theory.Action) (k : ℕ) (old new : Running M S) (action : Action) (so_far : IsReplayed (network_of meaning old.network) old.until w actions k old.world) where
  left : (o : Option theory.Refusal) (why : Refused) → reason why ≡ o → new ≡ old → IfSome o (λ r. answer meaning action old ≡ Err r) → (reason why ≡ None → TakesMemory action)
      → IsReplayed (network_of meaning old.network) old.until w (actions ++ action ∷ []) (k + 0) new.world
  left None why is same known memory =
      subst (λ (e : Running M S). IsReplayed (network_of meaning old.network) old.until w (actions ++ action ∷ []) (k + 0) e.world) (sym same)
      (let none : k ≡ k + 0 = omega arith in subst (λ n. IsReplayed (network_of meaning old.network) old.until w (actions ++ action ∷ []) n old.world) none
      (replay_law.left_out (network_of meaning old.network) old.until w actions k old.world action so_far (memory is)))
  left (Some r) why is same known memory =
      let net = network_of meaning old.network in
      let stays = (refused_law {S = S}).act net old.until old.world action r known in
      let all = replay_law.taken net old.until w actions k old.world action so_far in
      let none = ap (λ a. k + one_if_taken a) known in
      subst (λ (e : World S). IsReplayed net old.until w (actions ++ action ∷ []) (k + 0) e) (stays ∙ ap (λ (e : Running M S). e.world) (sym same))
      (subst (λ n. IsReplayed net old.until w (actions ++ action ∷ []) n (act net old.until old.world action).1) none all)

  -- whatever came of it
  pub replayed : (r : Result Done Refused) → OnOk r (new ≡ after meaning action old) → IfOk r (λ done. answer meaning action old ≡ Ok done) → IfErr r (IsReason meaning action old)
      → IfErr r (λ why. reason why ≡ None → TakesMemory action) → OnErr r (new ≡ old) → IsReplayed (network_of meaning old.network) old.until w (actions ++ action ∷ []) (k + counted r) new.world
  replayed (Ok done) is answers known memory stays =
      let net = network_of meaning old.network in
      let all = replay_law.taken net old.until w actions k old.world action so_far in
      let more = ap (λ a. k + one_if_taken a) answers in
      subst (λ (e : Running M S). IsReplayed net old.until w (actions ++ action ∷ []) (k + 1) e.world) (sym is)
      (subst (λ n. IsReplayed net old.until w (actions ++ action ∷ []) n (act net old.until old.world action).1) more all)
  replayed (Err why) is answers known memory stays = left (reason why) why refl stays known memory

-- and nothing else changed
pub same_but_world : {M S : Type 0} (meaning : M → Meaning S) (old new : Running M S) (action : Action) (r : Result Done Refused) → OnOk r (new ≡ after meaning action old) → OnErr r (new ≡ old) → new ≡ record old { world = new.world }
same_but_world meaning old new action (Ok done) is stays = is ∙ ap (λ x. record old { world = x.world }) (sym is)
same_but_world meaning old new action (Err why) is stays = stays ∙ ap (λ x. record old { world = x.world }) (sym stays)

pub counted_ok : (r : Result Done Refused) → is_ok r ≡ true → counted r ≡ 1
counted_ok (Ok done) e = refl
counted_ok (Err why) e = absurd (true≢false (sym e))

pub counted_err : (r : Result Done Refused) → is_ok r ≡ false → counted r ≡ 0
counted_err (Ok done) e = absurd (true≢false e)
counted_err (Err why) e = refl

pub counted_le : (r : Result Done Refused) → counted r ≤ 1
counted_le (Ok done) = omega arith
counted_le (Err why) = omega arith

pub still_but_world : {M S : Type 0} (first old new : Running M S) → old ≡ record first { world = old.world } → new ≡ record old { world = new.world } → new ≡ record first { world = new.world }
still_but_world {M} {S} first old new before after = after ∙ ap (λ (e : Running M S). record e { world = new.world }) before
