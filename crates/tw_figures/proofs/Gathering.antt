-- One record more of a network.
use Rattle.std.proofs.Common.{◌≡◌, ◌≢◌, ◌∙◌, ℕ, suc, ◌+◌, ◌<◌, ◌≤◌, max, List, [], ◌∷◌, ◌++◌, ℤ, Some, length, get_or, ap, refl, sym, subst, arith, append_assoc, append-nil, ⊎_elim, zero, take, drop, drop-cons, add-one, inl, inr}
use Rattle.std.specs.Prelude.{◌⊎◌, slice_get, slice_set, ◌==◌}
use Rattle.std.specs.List.{AllByRecursion as Each}
use Rattle.std.proofs.lemmas.Bool.{cases_eq, cond-true, cond-false, eq-eqb, ne_eqb}
use Rattle.std.proofs.lemmas.List.{get_or-set_same, get_or-set_other, length-append, length-set, take-append-drop, take_more}
use Rattle.std.proofs.lemmas.List.Elements.{filter-append}
use Rattle.std.proofs.lemmas.Option.{none-some, same_Some, slice_get-get_or, slice_get_within}
use Rattle.tw_msgs.specs.declared.record.Record.{Record}
use Rattle.tw_theory.specs.Traces.{of_component}
use Rattle.tw_vtime.specs.Stamps.{micro_of, never, tick_of}
use Rattle.tw_figures.specs.Figures.{IsNext, IsSteady, from_on}
use Rattle.tw_figures.specs.Gathered.{AreCounted, IsAboveMicrosteps, IsMember}
use Rattle.tw_figures.specs.declared.gatherer.Gatherer.{Gatherer}
use Rattle.tw_figures.specs.declared.member.Member.{Member}
use Rattle.tw_figures.proofs.Courses.{each_end, each_more, from_on_more}
use Rattle.tw_theory.proofs.Elements.{each-filter, each_weaker}

-- ---- the records of a component

pub own_more : (c : ℕ) (rs : List Record) (r : Record) → r.component ≡ c → of_component c (rs ++ r ∷ []) ≡ of_component c rs ++ r ∷ []
own_more c rs r is = filter-append (λ x. x.component == c) rs (r ∷ []) ∙ ap (λ l. of_component c rs ++ l) (cond-true (r.component == c) (r ∷ []) [] (eq-eqb r.component c is))

pub other_more : (c : ℕ) (rs : List Record) (r : Record) → r.component ≢ c → of_component c (rs ++ r ∷ []) ≡ of_component c rs
other_more c rs r is = filter-append (λ x. x.component == c) rs (r ∷ []) ∙ ap (λ l. of_component c rs ++ l) (cond-false (r.component == c) (r ∷ []) [] (ne_eqb r.component c is)) ∙ append-nil (of_component c rs)

pub own_next : (c : ℕ) (rs : List Record) (r : Record) → IsNext rs r → IsNext (of_component c rs) r
own_next c rs r next = each-filter (λ x. tick_of x.stamp ≤ tick_of r.stamp) (λ x. x.component == c) rs next

-- ---- the greatest microstep

microsteps_more : (n m : ℕ) (rs : List Record) (r : Record) → IsAboveMicrosteps n rs → m ≡ max n (micro_of r.stamp + 1) → IsAboveMicrosteps m (rs ++ r ∷ [])
microsteps_more n m rs r h is = record {
  above = each_more (λ x. micro_of x.stamp < m) rs r (each_weaker (λ x. micro_of x.stamp < n) (λ x. micro_of x.stamp < m) (λ x l. omega arith) rs h.above) (omega arith);
  least = λ k l. (let end = each_end (λ x. micro_of x.stamp < k) rs r l in
      let before = h.least k (each_front (λ x. micro_of x.stamp < k) rs r l) in omega (arith, end, before, is));
}
  where
    each_front : (P : Record → Type 0) (xs : List Record) (x : Record) → Each P (xs ++ x ∷ []) → Each P xs
    each_front P [] x h = tt
    each_front P (y ∷ ys) x h = (h.0, each_front P ys x h.1)

-- ---- the components

pub record Members (from : ℕ) (starts : List (List ℤ)) (rs : List Record) (members : List Member) : Type 0 where
  pub each : (c : ℕ) (start : List ℤ) (member : Member) → slice_get starts c ≡ Some start → slice_get members c ≡ Some member → IsMember from start (of_component c rs) member

-- a record of no component
pub unknown_more : (from : ℕ) (starts : List (List ℤ)) (rs : List Record) (r : Record) (members : List Member) → Members from starts rs members → length members ≤ r.component → Members from starts (rs ++ r ∷ []) members
unknown_more from starts rs r members h past = record {
  each = λ c start member is there.
      let within = slice_get_within members c member there in
      let other : r.component ≢ c = omega (arith, within, past) in
      subst (λ l. IsMember from start l member) (sym (other_more c rs r other)) (h.each c start member is there);
}

-- a record of one of them
pub known_more : (from : ℕ) (starts : List (List ℤ)) (rs : List Record) (r : Record) (members : List Member) (old new : Member) → Members from starts rs members → r.component < length members
    → old ≡ get_or members r.component old
    → ((start : List ℤ) → IsMember from start (of_component r.component rs) old → IsMember from start (of_component r.component rs ++ r ∷ []) new)
    → Members from starts (rs ++ r ∷ []) (slice_set members r.component new)
known_more from starts rs r members old new h within is taken = record { each = λ c start member at there. go c start member at there (cases_eq r.component c) }
  where
    own : (start : List ℤ) (member : Member) → slice_get starts r.component ≡ Some start → slice_get (slice_set members r.component new) r.component ≡ Some member
        → IsMember from start (of_component r.component (rs ++ r ∷ [])) member
    own start member at there =
        let inside : r.component < length (slice_set members r.component new) = (let size = length-set members r.component new in omega (arith, size, within)) in
        let same : new ≡ member = same_Some new member (sym (slice_get-get_or (slice_set members r.component new) r.component new inside ∙ ap Some (get_or-set_same members r.component new new within)) ∙ there) in
        let was : slice_get members r.component ≡ Some old = slice_get-get_or members r.component old within ∙ ap Some (sym is) in
        subst (λ m. IsMember from start (of_component r.component (rs ++ r ∷ [])) m) same
        (subst (λ l. IsMember from start l new) (sym (own_more r.component rs r refl)) (taken start (h.each r.component start old at was)))

    other : (c : ℕ) (start : List ℤ) (member : Member) → r.component ≢ c → slice_get starts c ≡ Some start → slice_get (slice_set members r.component new) c ≡ Some member
        → IsMember from start (of_component c (rs ++ r ∷ [])) member
    other c start member ne at there =
        let inside : c < length (slice_set members r.component new) = slice_get_within (slice_set members r.component new) c member there in
        let size = length-set members r.component new in
        let here : c < length members = omega (arith, inside, size) in
        let apart : c ≢ r.component = (λ e. ne (sym e)) in
        let was : slice_get members c ≡ Some member =
        slice_get-get_or members c member here ∙ ap Some (sym (get_or-set_other members r.component c new member apart)) ∙ sym (slice_get-get_or (slice_set members r.component new) c member inside) ∙ there in
        subst (λ l. IsMember from start l member) (sym (other_more c rs r ne)) (h.each c start member at was)

    go : (c : ℕ) (start : List ℤ) (member : Member) → slice_get starts c ≡ Some start → slice_get (slice_set members r.component new) c ≡ Some member
        → (r.component ≡ c) ⊎ (r.component ≢ c) → IsMember from start (of_component c (rs ++ r ∷ [])) member
    go c start member at there (inl same) =
        subst (λ d. IsMember from start (of_component d (rs ++ r ∷ [])) member) same
        (own start member (ap (slice_get starts) same ∙ at) (ap (slice_get (slice_set members r.component new)) same ∙ there))
    go c start member at there (inr ne) = other c start member ne at there

records_more : (rs : List Record) (r : Record) (old new : ℕ) → old ≡ length rs → new ≡ old + 1 → new ≡ length (rs ++ r ∷ [])
records_more rs r old new was is = let all = length-append rs (r ∷ []) in omega (arith, all, was, is)

pub counted_more : (from : ℕ) (rs : List Record) (r : Record) (old new : Gatherer) → AreCounted (from_on from rs) old → from ≤ tick_of r.stamp
    → new.records ≡ old.records + 1 → new.microsteps ≡ max old.microsteps (micro_of r.stamp + 1) → AreCounted (from_on from (rs ++ r ∷ [])) new
counted_more from rs r old new h l more steps = subst (λ xs. AreCounted xs new) (sym (from_on_more from rs r l)) (record {
  records = records_more (from_on from rs) r old.records new.records h.records more;
  microsteps = microsteps_more old.microsteps new.microsteps (from_on from rs) r h.microsteps steps;
})

-- ---- many records

-- the record at a place, among those before it and those behind it
split_at : {X : Type 0} (done xs : List X) (i : ℕ) (x : X) → i < length xs → x ≡ get_or xs i x → done ++ xs ≡ (done ++ take i xs) ++ x ∷ drop (i + 1) xs
split_at {X = X} done xs i x l is =
    ap (λ l. done ++ l) (sym (take-append-drop i xs) ∙ ap (λ l. take i xs ++ l) (from_here xs i x l ∙ ap (λ y. y ∷ drop (i + 1) xs) (sym is)))
    ∙ sym (append_assoc done (take i xs) (x ∷ drop (i + 1) xs))
  where
    from_here : (ys : List X) (k : ℕ) (d : X) → k < length ys → drop k ys ≡ get_or ys k d ∷ drop (k + 1) ys
    from_here ys k d m = rw (add-one, drop-cons ys k d) refl

pub steady_next : (done steps : List Record) (i : ℕ) (r : Record) → IsSteady (done ++ steps) → i < length steps → r ≡ get_or steps i r → IsNext (done ++ take i steps) r × (r.stamp ≢ never)
steady_next done steps i r steady l is = steady.each (done ++ take i steps) (drop (i + 1) steps) r (split_at done steps i r l is)

pub one_taken : (done steps : List Record) (i : ℕ) (r : Record) → i < length steps → r ≡ get_or steps i r → (done ++ take i steps) ++ r ∷ [] ≡ done ++ take (i + 1) steps
one_taken done steps i r l is = append_assoc done (take i steps) (r ∷ []) ∙ ap (λ l. done ++ l) (ap (λ y. take i steps ++ y ∷ []) is ∙ sym (take_more steps i r l))

-- ---- one component more

both_more : {X Y : Type 0} (xs : List X) (ys : List Y) (x : X) (y : Y) → length ys ≡ length xs → (c : ℕ) (a : X) (b : Y)
    → slice_get (xs ++ x ∷ []) c ≡ Some a → slice_get (ys ++ y ∷ []) c ≡ Some b
    → ((slice_get xs c ≡ Some a) × (slice_get ys c ≡ Some b)) ⊎ ((x ≡ a) × (y ≡ b))
both_more [] [] x y size zero a b p q = inr (same_Some x a p, same_Some y b q)
both_more [] [] x y size (suc c) a b p q = absurd (none-some a p)
both_more [] (y' ∷ ys) x y size c a b p q = absurd (omega (arith, size))
both_more (x' ∷ xs) [] x y size c a b p q = absurd (omega (arith, size))
both_more (x' ∷ xs) (y' ∷ ys) x y size zero a b p q = inl (p, q)
both_more (x' ∷ xs) (y' ∷ ys) x y size (suc c) a b p q = both_more xs ys x y (omega (arith, size)) c a b p q

pub added : (from : ℕ) (starts : List (List ℤ)) (start : List ℤ) (members : List Member) (member : Member) → length members ≡ length starts → Members from starts [] members → IsMember from start [] member
    → Members from (starts ++ start ∷ []) [] (members ++ member ∷ [])
added from starts start members member size h is = record {
  each = λ c s m at there. ⊎_elim
      (λ old. h.each c s m old.0 old.1)
      (λ new. subst (λ (w : List ℤ). IsMember from w [] m) new.0 (subst (λ (n : Member). IsMember from start [] n) new.1 is))
      (both_more starts members start member size c s m at there);
}
