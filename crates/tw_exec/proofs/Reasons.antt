-- What the theory refuses an action for.
use Rattle.std.proofs.Common.{◌≢◌, Some, None, sym}
use Rattle.std.proofs.lemmas.Option.{none-some}
use Rattle.tw_theory.specs.Executive.{Refusal}

-- a refusal of the theory is one
pub is_known : (r : Refusal) → Some r ≢ None
is_known r none = none-some r (sym none)
