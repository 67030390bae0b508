-- How the times of an agenda follow its stamps.
use Rattle.std.proofs.Common.{◌≡◌, ℕ, zero, suc, ◌<◌, List, [], ◌∷◌, map, Option, None, Some, refl, sym, ap, subst, ◌∙◌, arith}
use Rattle.std.specs.Option.{option_map}
use Rattle.std.specs.Prelude.{IfSome, replicate, slice_get}
use Rattle.std.proofs.lemmas.Option.{none-some, same_Some, slice_get-map}
use Rattle.tw_tournament.specs.Times.{IsFirst, NoneFirst}
use Rattle.tw_vtime.specs.Stamps.{never}
use Rattle.tw_exchange.specs.Agenda.{AllLate, IsIndexed, IsLeast, time_of}

-- of a time before the end, its stamp
at_stamp : (stamps : List (Option ℕ)) (t c : ℕ) → t < never → slice_get (map time_of stamps) c ≡ Some t → slice_get stamps c ≡ Some (Some t)
at_stamp [] t c before at = absurd (none-some t at)
at_stamp (x ∷ stamps) t zero before at = go x (same_Some _ _ at)
  where
    go : (x : Option ℕ) → time_of x ≡ t → Some x ≡ Some (Some t)
    go None e = absurd (omega (arith, e, before))
    go (Some s) e = ap (λ u. Some (Some u)) e
at_stamp (x ∷ stamps) t (suc c) before at = at_stamp stamps t c before at

time_here : (stamps : List (Option ℕ)) (c s : ℕ) → slice_get stamps c ≡ Some (Some s) → slice_get (map time_of stamps) c ≡ Some s
time_here stamps c s at = slice_get-map time_of stamps c ∙ ap (option_map time_of) at

pub all_left : (n : ℕ) → map time_of (replicate n None) ≡ replicate n never
all_left zero = refl
all_left (suc n) = ap (λ l. never ∷ l) (all_left n)

pub least_is : (stamps shown : List (Option ℕ)) (times : List ℕ) (first : Option (ℕ × ℕ)) → stamps ≡ shown → IsIndexed stamps times → IfSome first (λ f. IsFirst times f.0 f.1) → IfSome first (λ f. IsLeast shown f.0 f.1)
least_is stamps shown times None same indexed first = tt
least_is stamps shown times (Some (t, c)) same indexed first =
    subst (λ l. IsLeast l t c) same
    (record {
      at = at_stamp stamps t c first.before_end (ap (λ l. slice_get l c) (sym indexed) ∙ first.at);
      least = λ d u at. first.least d u (ap (λ l. slice_get l d) indexed ∙ time_here stamps d u at);
    })

pub late : (stamps shown : List (Option ℕ)) (times : List ℕ) → stamps ≡ shown → IsIndexed stamps times → NoneFirst times → AllLate shown
late stamps shown times same indexed none =
    subst AllLate same (λ c s at. none c s (ap (λ l. slice_get l c) indexed ∙ time_here stamps c s at))

pub early : (times : List ℕ) (first : Option (ℕ × ℕ)) → IfSome first (λ f. IsFirst times f.0 f.1) → IfSome first (λ f. f.0 < never)
early times None first = tt
early times (Some f) first = first.before_end

-- where all are late, there is no first
pub no_first : (stamps : List (Option ℕ)) (first : Option (ℕ × ℕ)) → AllLate stamps → IfSome first (λ f. IsLeast stamps f.0 f.1) → IfSome first (λ f. f.0 < never) → first ≡ None
no_first stamps None late least before = refl
no_first stamps (Some (s, c)) late least before = let after = late c s least.at in absurd (omega (arith, after, before))
