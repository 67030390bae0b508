-- The times at which the components are due, as they stand on the agenda.
use Rattle.std.proofs.Common.{◌≡◌, ℕ, zero, suc, ◌<◌, ◌≤◌, ◌⊎◌, List, [], ◌∷◌, length, replicate, Some, slice_get, slice_set, slice_index_or, refl, ap, subst, ⊎_elim, arith}
use Rattle.std.proofs.lemmas.Option.{same_Some, none-some}
use Rattle.tw_rounds.specs.Agenda.{dues, IsDueAt}
use Rattle.tw_theory.specs.Transitions.{Moment}
use Rattle.tw_theory.specs.Simulator.{least_due}
use Rattle.tw_vtime.specs.Stamps.{never}
use Rattle.tw_rounds.proofs.LeastTimes.{due_top, due_least}

-- one component is due at another time
pub dues_set : {S : Type 0} (moments : List (Moment S)) (i : ℕ) (now : Moment S) → dues (slice_set moments i now) ≡ slice_set (dues moments) i now.due
dues_set [] i now = refl
dues_set (x ∷ moments) zero now = refl
dues_set (x ∷ moments) (suc i) now = ap (λ ts. x.due ∷ ts) (dues_set moments i now)

pub dues_size : {S : Type 0} (moments : List (Moment S)) → length (dues moments) ≡ length moments
dues_size [] = refl
dues_size (x ∷ moments) = ap suc (dues_size moments)

-- a time on the agenda is a component's, and that of each component is there
pub due_at : {S : Type 0} (moments : List (Moment S)) (c s : ℕ) → slice_get (dues moments) c ≡ Some s → IsDueAt moments c s
due_at [] c s e = absurd (none-some s e)
due_at (x ∷ moments) zero s e = (x, refl, same_Some x.due s e)
due_at (x ∷ moments) (suc c) s e = due_at moments c s e

pub at_due : {S : Type 0} (moments : List (Moment S)) (c : ℕ) (now : Moment S) → slice_get moments c ≡ Some now → slice_get (dues moments) c ≡ Some now.due
at_due [] c now e = absurd (none-some now e)
at_due (x ∷ moments) zero now e = ap (λ m. Some m.due) (same_Some x now e)
at_due (x ∷ moments) (suc c) now e = at_due moments c now e

-- ---- the first time

due_bound : {S : Type 0} (k : ℕ) (moments : List (Moment S)) → k ≤ never → ((i : ℕ) (now : Moment S) → slice_get moments i ≡ Some now → k ≤ now.due) → k ≤ least_due moments
due_bound k [] l h = l
due_bound k (now ∷ moments) l h = let first = h 0 now refl in let rest = due_bound k moments l (λ i x e. h (suc i) x e) in omega (arith, first, rest)

dues_least : {S : Type 0} (moments : List (Moment S)) (r : ℕ) → r ≤ never → ((c s : ℕ) → slice_get (dues moments) c ≡ Some s → r ≤ s) → ((r ≡ never) ⊎ ((c : ℕ) × (slice_get (dues moments) c ≡ Some r))) → r ≡ least_due moments
dues_least moments r top first there =
    let ge : r ≤ least_due moments = due_bound r moments top (λ i now e. first i now.due (at_due moments i now e)) in
    let le : least_due moments ≤ r = ⊎_elim
    (λ e. let l = due_top moments in omega (arith, l, e))
    (λ on. let at = due_at moments on.0 r on.1 in let l = due_least moments on.0 at.0 at.1 in let e = at.2 in omega (arith, l, e)) there in
    omega (arith, ge, le)

pub the_least : {S : Type 0} (moments : List (Moment S)) (times : List ℕ) (r : ℕ) → times ≡ dues moments → r ≤ never → ((c s : ℕ) → slice_get times c ≡ Some s → r ≤ s) → ((r ≡ never) ⊎ ((c : ℕ) × (slice_get times c ≡ Some r))) → r ≡ least_due moments
the_least moments times r is top first there =
    dues_least moments r top (subst (λ ts. (c s : ℕ) → slice_get ts c ≡ Some s → r ≤ s) is first) (subst (λ ts. (r ≡ never) ⊎ ((c : ℕ) × (slice_get ts c ≡ Some r))) is there)

-- ---- the agenda of the first components

abbrev pub begun : {S : Type 0} → ℕ → List (Moment S) → List ℕ
begun zero moments = replicate (length moments) never
begun (suc i) [] = []
begun (suc i) (now ∷ moments) = now.due ∷ begun i moments

pub begun_size : {S : Type 0} (i : ℕ) (moments : List (Moment S)) → length (begun i moments) ≡ length moments
begun_size zero [] = refl
begun_size zero (now ∷ moments) = ap suc (begun_size zero moments)
begun_size (suc i) [] = refl
begun_size (suc i) (now ∷ moments) = ap suc (begun_size i moments)

pub begun_more : {S : Type 0} (i : ℕ) (moments : List (Moment S)) (d : Moment S) → i < length moments → slice_set (begun i moments) i (slice_index_or moments i d).due ≡ begun (suc i) moments
begun_more i [] d l = absurd (omega (arith, l))
begun_more zero (now ∷ moments) d l = refl
begun_more (suc i) (now ∷ moments) d l = ap (λ ts. now.due ∷ ts) (begun_more i moments d (omega (arith, l)))

pub begun_all : {S : Type 0} (i : ℕ) (moments : List (Moment S)) → length moments ≤ i → begun i moments ≡ dues moments
begun_all zero [] l = refl
begun_all zero (now ∷ moments) l = absurd (omega (arith, l))
begun_all (suc i) [] l = refl
begun_all (suc i) (now ∷ moments) l = ap (λ ts. now.due ∷ ts) (begun_all i moments (omega (arith, l)))
