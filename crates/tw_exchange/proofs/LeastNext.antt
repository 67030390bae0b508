-- The least next step of all components, by the agenda in which all of them stand.
use Rattle.std.proofs.Common.{◌≡◌, ℕ, zero, suc, ◌<◌, ◌≤◌, List, [], ◌∷◌, map, Option, None, Some, refl, sym, ap, subst, ◌∙◌, inl, inr, arith}
use Rattle.std.specs.Option.{option_map}
use Rattle.std.specs.Prelude.{slice_get}
use Rattle.std.proofs.lemmas.Option.{none-some, same_Some, slice_get-map}
use Rattle.tw_laws.specs.Cancelling.{least_own}
use Rattle.tw_theory.specs.Contents.{Process, next}
use Rattle.tw_vtime.specs.Stamps.{never}
use Rattle.tw_exchange.specs.Agenda.{AllLate, IsLeast}
use Rattle.tw_exchange.specs.Queues.{next_mark}

module _ {S : Type 0} where
  own_le : (ps : List (Process S)) (d : ℕ) (p : Process S) → slice_get ps d ≡ Some p → least_own ps ≤ next p
  own_le [] d p at = absurd (none-some p at)
  own_le (q ∷ ps) zero p at = omega (arith, ap next (same_Some q p at))
  own_le (q ∷ ps) (suc d) p at = let rest = own_le ps d p at in omega (arith, rest)

  le_own : (ps : List (Process S)) (s : ℕ) → s ≤ never → ((d : ℕ) (p : Process S) → slice_get ps d ≡ Some p → s ≤ next p) → s ≤ least_own ps
  le_own [] s top each = top
  le_own (p ∷ ps) s top each =
      let here = each 0 p refl in
      let rest = le_own ps s top (λ d q at. each (suc d) q at) in
      omega (arith, here, rest)

  own_top : (ps : List (Process S)) → least_own ps ≤ never
  own_top [] = omega arith
  own_top (p ∷ ps) = let rest = own_top ps in omega (arith, rest)

  stands : (ps : List (Process S)) (d : ℕ) (p : Process S) → slice_get ps d ≡ Some p → slice_get (map next_mark ps) d ≡ Some (Some (next p))
  stands ps d p at = slice_get-map next_mark ps d ∙ ap (option_map next_mark) at

  its : (ps : List (Process S)) (c s : ℕ) → slice_get (map next_mark ps) c ≡ Some (Some s) → (p : Process S) × (slice_get ps c ≡ Some p) × (next p ≡ s)
  its ps c s at = go (slice_get ps c) refl (sym (slice_get-map next_mark ps c) ∙ at)
    where
      go : (o : Option (Process S)) → slice_get ps c ≡ o → option_map next_mark o ≡ Some (Some s) → (p : Process S) × (slice_get ps c ≡ Some p) × (next p ≡ s)
      go None there e = absurd (none-some _ e)
      go (Some p) there e = (p, there, same_Some _ _ (same_Some _ _ e))

  pub first_own : (ps : List (Process S)) (stamps : List (Option ℕ)) → stamps ≡ map next_mark ps → (s c : ℕ) → IsLeast stamps s c → s < never → s ≡ least_own ps
  first_own ps stamps same s c least before =
      let l = subst (λ x. IsLeast x s c) same least in
      let p = its ps c s l.at in
      let above : s ≤ least_own ps = le_own ps s (omega (arith, before)) (λ d q at. elim (l.least d (next q) (stands ps d q at)) [
        | inl less ↦ omega (arith, less)
        | inr tied ↦ omega (arith, tied.0)
      ]) in
      let below = own_le ps c p.0 p.1 in
      omega (arith, above, below, p.2)

  pub none_own : (ps : List (Process S)) (stamps : List (Option ℕ)) → stamps ≡ map next_mark ps → AllLate stamps → never ≡ least_own ps
  none_own ps stamps same late =
      let l = subst AllLate same late in
      let above : never ≤ least_own ps = le_own ps never (omega arith) (λ d p at. l d (next p) (stands ps d p at)) in
      omega (arith, above, own_top ps)
