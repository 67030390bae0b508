-- The machine of a name stands at its place.
use Rattle.std.proofs.Common.{◌≡◌, ◌≤◌, ◌+◌, ◌-◌, ◌∙◌, ℕ, List, [], ◌∷◌, Bool, true, false, Bor, Option, None, Some, ap, arith, bytes_eq, cond, length, map, refl, slice_get, suc, sym}
use Rattle.std.specs.Prelude.{option_and_then, option_map}
use Rattle.std.proofs.lemmas.Option.{slice_get-map, slice_get_past, slice_get_read}
use Rattle.std.specs.Slice.{IsItemAt}
use Rattle.tw_machine_file.specs.Seen.{Machine}
use Rattle.tw_file_members.specs.Named.{machine_index, machine_named}

module _ (name : List ℕ) where
  -- no place comes before the first
  from_first : (i k : ℕ) (ms : List Machine) → machine_index i ms name ≡ Some k → i ≤ k
  from_first i k [] at = absurd cc
  from_first i k (m ∷ ms) at = by (bytes_eq m.name name) (from_first (i + 1) k ms) at
    where
      by : (b : Bool) → (machine_index (i + 1) ms name ≡ Some k → i + 1 ≤ k) → cond b (Some i) (machine_index (i + 1) ms name) ≡ Some k → i ≤ k
      by true later is = let same : i ≡ k = cc in omega (arith, same)
      by false later is = let more = later is in omega (arith, more)

  onward : (i : ℕ) (m : Machine) (ms : List Machine) (o : Option ℕ) → machine_index (i + 1) ms name ≡ o
      → option_and_then (λ (k : ℕ). slice_get ms (k - (i + 1))) o ≡ option_and_then (λ (k : ℕ). slice_get (m ∷ ms) (k - i)) o
  onward i m ms None is = refl
  onward i m ms (Some k) is =
      let more = from_first (i + 1) k ms is in
      let next : k - i ≡ suc (k - (i + 1)) = omega (arith, more) in
      sym (ap (slice_get (m ∷ ms)) next)

  named_at : (i : ℕ) (ms : List Machine) → machine_named ms name ≡ option_and_then (λ (k : ℕ). slice_get ms (k - i)) (machine_index i ms name)
  named_at i [] = refl
  named_at i (m ∷ ms) = by (bytes_eq m.name name) (named_at (i + 1) ms ∙ onward i m ms (machine_index (i + 1) ms name) refl)
    where
      by : (b : Bool) → machine_named ms name ≡ option_and_then (λ (k : ℕ). slice_get (m ∷ ms) (k - i)) (machine_index (i + 1) ms name)
          → cond b (Some m) (machine_named ms name) ≡ option_and_then (λ (k : ℕ). slice_get (m ∷ ms) (k - i)) (cond b (Some i) (machine_index (i + 1) ms name))
      by true later = let none : i - i ≡ 0 = omega arith in sym (ap (slice_get (m ∷ ms)) none)
      by false later = later

-- what is lent of a place is what stands there
lent : {X : Type 0} (xs : List X) (i : ℕ) (r : Option (Bor X)) → IsItemAt xs i r → option_map (λ (x : Bor X). x.now) r ≡ slice_get xs i
lent xs i None is = sym (slice_get_past xs i is.3)
lent xs i (Some x) is = sym (slice_get_read xs (length xs) i x.now refl is.3.0 is.1)

both : {R X : Type 0} (now : R → X) (seen : X → Machine) (o : Option R) → option_map (λ (x : R). seen (now x)) o ≡ option_map seen (option_map now o)
both now seen None = refl
both now seen (Some x) = refl

pub named_lent : {X : Type 0} (seen : X → Machine) (xs : List X) (name : List ℕ) (i : ℕ) (r : Option (Bor X))
    → Some i ≡ machine_index 0 (map seen xs) name → IsItemAt xs i r → option_map (λ (x : Bor X). seen x.now) r ≡ machine_named (map seen xs) name
named_lent {X} seen xs name i r at is =
    let whole : i - 0 ≡ i = omega arith in
    both (λ (x : Bor X). x.now) seen r ∙ ap (option_map seen) (lent xs i r is) ∙ sym (slice_get-map seen xs i)
    ∙ ap (slice_get (map seen xs)) (sym whole)
    ∙ ap (option_and_then (λ (k : ℕ). slice_get (map seen xs) (k - 0))) at
    ∙ sym (named_at name 0 (map seen xs))

pub none_named : (name : List ℕ) (ms : List Machine) → None ≡ machine_index 0 ms name → None ≡ machine_named ms name
none_named name ms at = ap (option_and_then (λ (k : ℕ). slice_get ms (k - 0))) at ∙ sym (named_at name 0 ms)
