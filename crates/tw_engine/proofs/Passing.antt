-- What `?` passes on.
use Rattle.std.proofs.Common.{◌≡◌, subst, sym}
use Rattle.std.specs.Prelude.{Result, Err}
use Rattle.std.specs.Result.{IsErrAnd}
use Rattle.std.proofs.lemmas.Result.{err_from_is_err_and}

-- what is true of the error that it makes is true of what it answers
pub on_err : {A E : Type 0} (P : Result A E → Type 0) (r : Result A E) (e : E) → IsErrAnd r (λ y. y ≡ e) → P (Err e) → P r
on_err P r e is holds = let p = err_from_is_err_and r is in subst P (sym p.1) (subst (λ y. P (Err y)) (sym p.2) holds)
