-- A run before its first round.
use Rattle.std.proofs.Common.{◌≡◌, ℕ, zero, suc, ◌+◌, ◌<◌, ◌≤◌, ◌⊎◌, inl, inr, List, [], ◌∷◌, ◌++◌, length, take, map, Some, Result, Ok, slice_get, slice_index_or, refl, sym, ap, ◌∙◌, subst, ⊎_elim, arith, add-one}
use Rattle.std.specs.Prelude.{IfOk}
use Rattle.std.specs.List.{AllByRecursion as Each}
use Rattle.std.proofs.Math.Seq.{take-suc}
use Rattle.std.proofs.lemmas.List.{take_all}
use Rattle.std.proofs.lemmas.List.{map-append}
use Rattle.tw_msgs.specs.declared.message.Message.{Message}
use Rattle.tw_rounds.specs.Dealing.{Carried}
use Rattle.tw_rounds.specs.Invariant.{IsToCome}
use Rattle.tw_theory.specs.Network.{Network, Fits, count_of}

-- one element more of a list that is mapped
pub mapped_more : {X Y : Type 0} (f : X → Y) (xs : List X) (i : ℕ) (d : X) (made : List Y) (y : Y) → made ≡ map f (take i xs) → i < length xs → y ≡ f (slice_index_or xs i d) → made ++ y ∷ [] ≡ map f (take (i + 1) xs)
mapped_more f xs i d made y e l h =
    (λ k. e k ++ h k ∷ [])
    ∙ sym (map-append f (take i xs) (slice_index_or xs i d ∷ []))
    ∙ ap (map f) (sym (take-suc xs i d l) ∙ ap (λ n. take n xs) (sym (add-one i)))

pub mapped_all : {X Y : Type 0} (f : X → Y) (xs : List X) (i : ℕ) (made : List Y) → made ≡ map f (take i xs) → length xs ≤ i → made ≡ map f xs
mapped_all f xs i made e l = e ∙ ap (map f) (take_all i xs l)

pub the_ok : {X E : Type 0} (r : Result X E) (x y : X) → r ≡ Ok x → IfOk r (λ made. made ≡ y) → x ≡ y
the_ok r x y e h = let P : Result _ _ → Type 0 = λ o. IfOk o (λ made. made ≡ y) in subst P e h

-- the inputs of a network are all to come
pub to_come : {S : Type 0} (net : Network S) (n : ℕ) (inputs : List Message) → count_of net ≡ n → Each (Fits net) inputs → Each Carried inputs → Each (IsToCome n 0) inputs
to_come net n [] e f c = tt
to_come net n (m ∷ ms) e f c =
    let to = f.0.to in
    let p = f.0.phase in
    (record { after = omega (arith, p); phase = f.0.phase; before_end = f.0.stamp; to = omega (arith, to, e); carried = c.0 }, to_come net n ms e f.1 c.1)

-- the component put last, or one before it
pub get_pushed : {X : Type 0} (xs : List X) (x y : X) (d : ℕ) → slice_get (xs ++ x ∷ []) d ≡ Some y → ((d ≡ length xs) × (x ≡ y)) ⊎ (slice_get xs d ≡ Some y)
get_pushed [] x y zero e = inl (refl, cc e)
get_pushed [] x y (suc d) e = absurd (cc e)
get_pushed (z ∷ xs) x y zero e = inr e
get_pushed (z ∷ xs) x y (suc d) e = ⊎_elim (λ h. inl (ap suc h.0, h.1)) (λ h. inr h) (get_pushed xs x y d e)

pub map_twice : {X Y Z : Type 0} (f : X → Y) (h : Y → Z) (xs : List X) → map (λ x. h (f x)) xs ≡ map h (map f xs)
map_twice f h [] = refl
map_twice f h (x ∷ xs) = ap (λ l. h (f x) ∷ l) (map_twice f h xs)
