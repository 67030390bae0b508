-- The numbers of one time are those of the components that are due at it, in rising order.
use Rattle.std.proofs.Common.{◌≡◌, ◌==◌, ℕ, zero, suc, ◌+◌, ◌<◌, ◌≤◌, Bool, true, false, List, [], ◌∷◌, Some, slice_get, slice_index, refl, ap, ◌∙◌, subst, arith, eq-eqb, if◌then◌else◌}
use Rattle.std.specs.List.{All, Contains}
use Rattle.std.specs.List.Sorted.{IsStrictlyIncreasing}
use Rattle.std.proofs.lemmas.Bool.{eqb-true}
use Rattle.std.proofs.lemmas.List.Elements.{All-nil, All-cons}
use Rattle.std.proofs.lemmas.Option.{same_Some, none-some}
use Rattle.tw_tournament.specs.Times.{numbers_at}
use Rattle.tw_rounds.specs.Agenda.{dues, IsDueAt}
use Rattle.tw_theory.specs.Transitions.{Moment}
use Rattle.tw_rounds.proofs.Dues.{due_at, at_due}

-- ---- in rising order

-- each is above the one before it, and the first at least c
abbrev Rises : ℕ → List ℕ → Type 0
Rises c [] = Unit {0}
Rises c (n ∷ ns) = (c ≤ n) × Rises (suc n) ns

rises_lower : (c : ℕ) (ns : List ℕ) → Rises (suc c) ns → Rises c ns
rises_lower c [] h = tt
rises_lower c (n ∷ ns) h = (let l = h.0 in omega (arith, l), h.1)

rises_if : (b : Bool) (c : ℕ) (ns : List ℕ) → Rises (suc c) ns → Rises c (if b then c ∷ ns else ns)
rises_if true c ns h = (omega arith, h)
rises_if false c ns h = rises_lower c ns h

numbers_rise : (t c : ℕ) (xs : List ℕ) → Rises c (numbers_at t c xs)
numbers_rise t c [] = tt
numbers_rise t c (x ∷ xs) = rises_if (x == t) c (numbers_at t (suc c) xs) (numbers_rise t (suc c) xs)

rises_strict : (c : ℕ) (ns : List ℕ) → Rises c ns → IsStrictlyIncreasing ns
rises_strict c [] h k l = absurd (omega (arith, l))
rises_strict c (n ∷ []) h k l = absurd (omega (arith, l))
rises_strict c (n ∷ m ∷ ns) h zero l = let q = h.1.0 in omega (arith, q)
rises_strict c (n ∷ m ∷ ns) h (suc k) l =
    let e : suc (k + 1) ≡ suc k + 1 = omega arith in
    subst (λ j. slice_index (n ∷ m ∷ ns) (suc k) < slice_index (n ∷ m ∷ ns) j) e (rises_strict (suc n) (m ∷ ns) h.1 k (omega (arith, l)))

pub numbers_rising : (t c : ℕ) (xs : List ℕ) → IsStrictlyIncreasing (numbers_at t c xs)
numbers_rising t c xs = rises_strict c (numbers_at t c xs) (numbers_rise t c xs)

-- ---- each of them is one of the time

abbrev IsOneOf : ℕ → ℕ → List ℕ → ℕ → Type 0
IsOneOf t c xs d = (i : ℕ) × (d ≡ c + i) × (slice_get xs i ≡ Some t)

each_if : (P : ℕ → Type 0) (b : Bool) (c : ℕ) (ns : List ℕ) → (b ≡ true → P c) → All P ns → All P (if b then c ∷ ns else ns)
each_if P true c ns h rest = All-cons P c ns (h refl) rest
each_if P false c ns h rest = rest

one_later : (t c x : ℕ) (xs : List ℕ) (d : ℕ) → IsOneOf t (suc c) xs d → IsOneOf t c (x ∷ xs) d
one_later t c x xs d h = let e = h.1 in (suc h.0, omega (arith, e), h.2)

numbers_each : (t c : ℕ) (xs : List ℕ) → All (IsOneOf t c xs) (numbers_at t c xs)
numbers_each t c [] = All-nil (IsOneOf t c [])
numbers_each t c (x ∷ xs) =
    each_if (IsOneOf t c (x ∷ xs)) (x == t) c (numbers_at t (suc c) xs) (λ e. (0, omega arith, ap Some (eqb-true x t e)))
    (λ k d l. one_later t c x xs _ (numbers_each t (suc c) xs k d l))

-- ---- and all of the time are listed

later_there : (x y : ℕ) (xs : List ℕ) → Contains xs y → Contains (x ∷ xs) y
later_there x y xs h = (suc h.0, (let l = h.1 in omega (arith, l)), h.2)

there_if : (b : Bool) (c d : ℕ) (ns : List ℕ) → Contains ns d → Contains (if b then c ∷ ns else ns) d
there_if true c d ns h = later_there c d ns h
there_if false c d ns h = h

first_if : (b : Bool) (c : ℕ) (ns : List ℕ) → b ≡ true → Contains (if b then c ∷ ns else ns) c
first_if true c ns e = (0, omega arith, refl)
first_if false c ns e = absurd (cc e)

numbers_all : (t c : ℕ) (xs : List ℕ) (i : ℕ) → slice_get xs i ≡ Some t → Contains (numbers_at t c xs) (c + i)
numbers_all t c [] i e = absurd (none-some t e)
numbers_all t c (x ∷ xs) zero e =
    let same : c ≡ c + 0 = omega arith in
    subst (Contains (numbers_at t c (x ∷ xs))) same (first_if (x == t) c (numbers_at t (suc c) xs) (eq-eqb x t (same_Some x t e)))
numbers_all t c (x ∷ xs) (suc i) e =
    let same : suc c + i ≡ c + suc i = omega arith in
    there_if (x == t) c (c + suc i) (numbers_at t (suc c) xs) (subst (Contains (numbers_at t (suc c) xs)) same (numbers_all t (suc c) xs i e))

-- ---- of the components

one_due : {S : Type 0} (moments : List (Moment S)) (t d : ℕ) → IsOneOf t 0 (dues moments) d → IsDueAt moments d t
one_due moments t d h =
    let e = h.1 in
    let same : d ≡ h.0 = omega (arith, e) in
    due_at moments d t (ap (slice_get (dues moments)) same ∙ h.2)

pub imminent_due : {S : Type 0} (moments : List (Moment S)) (t : ℕ) → All (λ c. IsDueAt moments c t) (numbers_at t 0 (dues moments))
imminent_due moments t k d l = one_due moments t _ (numbers_each t 0 (dues moments) k d l)

pub imminent_all : {S : Type 0} (moments : List (Moment S)) (t c : ℕ) → IsDueAt moments c t → Contains (numbers_at t 0 (dues moments)) c
imminent_all moments t c at =
    let same : 0 + c ≡ c = omega arith in
    subst (Contains (numbers_at t 0 (dues moments))) same (numbers_all t 0 (dues moments) c (at_due moments c at.0 at.1 ∙ ap Some at.2))
