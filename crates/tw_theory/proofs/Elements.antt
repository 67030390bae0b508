-- What holds of each element of lists that are joined, cut, filtered, and changed at one place; the element at a place.
use Rattle.std.proofs.Common.{◌≡◌, ℕ, zero, suc, ◌<◌, ◌⊎◌, List, [], ◌∷◌, ◌++◌, length, drop, Bool, true, false, cond, Some, refl, sym, ap, subst, ◌∙◌, true≢false, arith, inl, inr}
use Rattle.std.specs.Prelude.{slice_get, slice_set, remove, ◌≢◌}
use Rattle.std.specs.List.{AllByRecursion as Each, filter}
use Rattle.std.proofs.lemmas.Bool.{cond_both}
use Rattle.std.proofs.lemmas.List.{set-get_or}
use Rattle.std.proofs.lemmas.Option.{same_Some, none-some, get_or_from_slice_get}
use Rattle.tw_msgs.specs.Messages.{same_message, without, place, at_or_before, sorted_messages}
use Rattle.tw_msgs.specs.declared.message.Message.{Message}
use Rattle.tw_theory.specs.Bundles.{positives, antis}
use Rattle.tw_theory.specs.Exchange.{is_empty}

module _ {X : Type 0} (P : X → Type 0) where
  pub each-append : (xs ys : List X) → Each P xs → Each P ys → Each P (xs ++ ys)
  each-append [] ys h k = k
  each-append (x ∷ xs) ys h k = (h.0, each-append xs ys h.1 k)

  pub each_parts : (xs ys : List X) → Each P (xs ++ ys) → Each P xs × Each P ys
  each_parts [] ys h = (tt, h)
  each_parts (x ∷ xs) ys h = let rest = each_parts xs ys h.1 in ((h.0, rest.0), rest.1)

  pub each-remove : (xs : List X) (i : ℕ) → Each P xs → Each P (remove xs i)
  each-remove [] zero h = tt
  each-remove [] (suc i) h = tt
  each-remove (x ∷ xs) zero h = h.1
  each-remove (x ∷ xs) (suc i) h = (h.0, each-remove xs i h.1)

  pub each-get : (xs : List X) (i : ℕ) (x : X) → slice_get xs i ≡ Some x → Each P xs → P x
  each-get [] i x e h = absurd (none-some x e)
  each-get (y ∷ xs) zero x e h = subst P (same_Some y x e) h.0
  each-get (y ∷ xs) (suc i) x e h = each-get xs i x e h.1

  -- what holds of the element at each place
  pub each_from_get : (xs : List X) → ((i : ℕ) (x : X) → slice_get xs i ≡ Some x → P x) → Each P xs
  each_from_get [] h = tt
  each_from_get (x ∷ xs) h = (h 0 x refl, each_from_get xs (λ i y at. h (suc i) y at))

  pub each-filter : (test : X → Bool) (xs : List X) → Each P xs → Each P (filter test xs)
  each-filter test [] h = tt
  each-filter test (x ∷ xs) h = let rest = each-filter test xs h.1 in cond_both (test x) (x ∷ filter test xs) (filter test xs) (Each P) (λ e. (h.0, rest)) (λ e. rest)

  pub each_weaker : (Q : X → Type 0) → ((x : X) → P x → Q x) → (xs : List X) → Each P xs → Each Q xs
  each_weaker Q f [] h = tt
  each_weaker Q f (x ∷ xs) h = (f x h.0, each_weaker Q f xs h.1)

pub each-positives : (P : Message → Type 0) (ms : List Message) → Each P ms → Each (λ i. P i.message) (positives ms)
each-positives P [] h = tt
each-positives P (m ∷ ms) h = (h.0, each-positives P ms h.1)

pub each-antis : (P : Message → Type 0) (ms : List Message) → Each P ms → Each (λ i. P i.message) (antis ms)
each-antis P [] h = tt
each-antis P (m ∷ ms) h = (h.0, each-antis P ms h.1)

module _ (P : Message → Type 0) where
  placed_each : (b : Bool) (m n : Message) (ns rest : List Message) → P m → P n → Each P ns → Each P rest → Each P (cond b (m ∷ n ∷ ns) (n ∷ rest))
  placed_each true m n ns rest p q h k = (p, (q, h))
  placed_each false m n ns rest p q h k = (q, k)

  pub each-place : (m : Message) (ms : List Message) → P m → Each P ms → Each P (place m ms)
  each-place m [] p h = (p, tt)
  each-place m (n ∷ ns) p h = placed_each (at_or_before m n) m n ns (place m ns) p h.0 h.1 (each-place m ns p h.1)

  pub each-without : (m : Message) (ms : List Message) → Each P ms → Each P (without m ms)
  each-without m [] h = tt
  each-without m (n ∷ ns) h = cond_both (same_message m n) ns (n ∷ without m ns) (Each P) (λ e. h.1) (λ e. (h.0, each-without m ns h.1))

  pub each-sorted : (ms : List Message) → Each P ms → Each P (sorted_messages ms)
  each-sorted [] h = tt
  each-sorted (m ∷ ms) h = each-place m (sorted_messages ms) h.0 (each-sorted ms h.1)

-- ---- one place of a list

module _ {X : Type 0} where
  -- equal lists begin with the same, and have the same behind it
  pub head_same : {x y : X} {xs ys : List X} → x ∷ xs ≡ y ∷ ys → x ≡ y
  head_same e = cc

  pub tail_same : {x y : X} {xs ys : List X} → x ∷ xs ≡ y ∷ ys → xs ≡ ys
  tail_same e = cc

  -- each place before the end has an element
  pub present : (xs : List X) (i : ℕ) → i < length xs → (x : X) × (slice_get xs i ≡ Some x)
  present [] i l = absurd (omega arith)
  present (x ∷ xs) zero l = (x, refl)
  present (x ∷ xs) (suc i) l = present xs i (omega arith)

  -- from the place of an element on the list begins with it
  pub drop_here : (xs : List X) (i : ℕ) (x : X) → slice_get xs i ≡ Some x → drop i xs ≡ x ∷ drop (suc i) xs
  drop_here [] i x e = absurd (none-some x e)
  drop_here (y ∷ xs) zero x e = ap (λ z. z ∷ xs) (same_Some y x e)
  drop_here (y ∷ xs) (suc i) x e = drop_here xs i x e

  -- an element put where it is changes nothing
  pub set_same : (xs : List X) (i : ℕ) (x : X) → slice_get xs i ≡ Some x → slice_set xs i x ≡ xs
  set_same xs i x e = ap (slice_set xs i) (sym (get_or_from_slice_get xs i x x e)) ∙ set-get_or xs i x

  -- what is tested to be empty is so
  pub empty_is : (xs : List X) → is_empty xs ≡ true → xs ≡ []
  empty_is [] e = refl
  empty_is (x ∷ xs) e = absurd (true≢false (sym e))

pub get_of_set : {X : Type 0} (xs : List X) (c d : ℕ) (y z : X) → slice_get (slice_set xs c y) d ≡ Some z
    → ((d ≡ c) × (z ≡ y)) ⊎ ((d ≢ c) × (slice_get xs d ≡ Some z))
get_of_set [] c d y z e = absurd (none-some z e)
get_of_set (x ∷ xs) zero zero y z e = inl (refl, sym (same_Some y z e))
get_of_set (x ∷ xs) zero (suc d) y z e = inr (omega arith, e)
get_of_set (x ∷ xs) (suc c) zero y z e = inr (omega arith, e)
get_of_set (x ∷ xs) (suc c) (suc d) y z e = go (get_of_set xs c d y z e)
  where
    go : ((d ≡ c) × (z ≡ y)) ⊎ ((d ≢ c) × (slice_get xs d ≡ Some z)) → ((suc d ≡ suc c) × (z ≡ y)) ⊎ ((suc d ≢ suc c) × (slice_get xs d ≡ Some z))
    go (inl h) = inl (ap suc h.0, h.1)
    go (inr h) = inr (let k = h.0 in omega arith, h.1)
