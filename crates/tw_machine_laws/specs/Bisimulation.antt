-- Two models that cannot be told apart, but by words past 2 ^ 63 - 1.
--     IsBisimulation R m n      the states of m and n that R relates behave alike, and stay related
--     modulo words      words as numbers of 64 bits without a sign: a count from 2 ^ 63 on is negative in a machine's register
use Rattle.std.specs.Prelude.{◌≡◌, ◌≢◌, ℕ, ℤ, List, [], map, Some}
use Rattle.std.specs.Int.{w64, cast_unsigned}
use Rattle.tw_atomic.specs.Atomic.{Bag, Meaning}

abbrev pub modulo : List ℤ → List ℕ
modulo words = map (cast_unsigned w64) words

pub record IsBisimulation {S T : Type 0} (R : S → T → Type 0) (m : Meaning S) (n : Meaning T) : Type 0 where
  -- they start in related states
  pub start : R m.start n.start
  -- which wait as long, send the same when that time is up, and show the same words
  pub waits : (s : S) (t : T) → R s t → n.ta t ≡ m.ta s
  pub sends : (s : S) (t : T) → R s t → (elapsed : ℕ) → m.ta s ≡ Some elapsed → n.out t ≡ m.out s
  pub shows : (s : S) (t : T) → R s t → modulo (n.words t) ≡ modulo (m.words s)
  -- and each transition goes from related states to related states
  pub int : (s : S) (t : T) → R s t → R (m.int s) (n.int t)
  pub ext : (s : S) (t : T) → R s t → (elapsed : ℕ) (bag : Bag) → bag ≢ [] → R (m.ext s elapsed bag) (n.ext t elapsed bag)
  pub con : (s : S) (t : T) → R s t → (elapsed : ℕ) (bag : Bag) → bag ≢ [] → R (m.con s elapsed bag) (n.con t elapsed bag)
