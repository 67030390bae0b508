-- Raise is never refused.
use Rattle.std.proofs.Common.{◌≡◌, None, Some, refl, sym, ap, ◌∙◌, true≢false}
use Rattle.std.specs.Prelude.{Err, IfErr, IfSome, IsOk, Ok, OnOk, Option, Result}
use Rattle.std.specs.Result.{is_ok}
use Rattle.tw_atomic.specs.Atomic.{Meaning}
use Rattle.tw_actions.specs.declared.action.Done.{Done}
use Rattle.tw_exec.specs.Actions.{reason}
use Rattle.tw_exec.specs.Running.{IsReason, Running, after, answer}
use Rattle.tw_exec.specs.declared.refused.Refused.{Refused}
use Rattle.tw_laws.proofs.Least.{gvt_law}
use Rattle.tw_network.specs.Contents.{network_of}
use Rattle.tw_theory.specs.Executive.{Raise, Refusal}
use Rattle.tw_theory.specs.Memory.{TakesMemory}

pub raise_taken : {M S : Type 0} (meaning : M → Meaning S) (e : Running M S) → IsOk (answer meaning Raise e)
raise_taken meaning e = ap (λ r. is_ok r.0) (gvt_law.raise (network_of meaning e.network) e.until e.world)

-- so it is done
pub raise_done : {M S : Type 0} (meaning : M → Meaning S) (e e' : Running M S) (r : Result Done Refused) → OnOk r (e' ≡ after meaning Raise e) → IfErr r (IsReason meaning Raise e) → IfErr r (λ why. reason why ≡ None → TakesMemory Raise)
    → e' ≡ after meaning Raise e
raise_done meaning e e' (Ok done) is refused memory = is
raise_done meaning e e' (Err why) is refused memory = absurd (go (reason why) refl refused)
  where
    go : (r : Option Refusal) → reason why ≡ r → IfSome r (λ x. answer meaning Raise e ≡ Err x) → ⊥
    go None none h = memory none
    go (Some x) some h =
        let taken = raise_taken meaning e in
        let not_taken = ap is_ok h in
        true≢false (sym taken ∙ not_taken)
