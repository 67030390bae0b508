-- Three small models for the worked examples, on states that are a list of numbers and the time left.
--     gen period value      sends the value at each period, and counts
--     tally      counts, sums and keeps the last of what comes
--     relay delay      sends on what came, after a delay
use Rattle.std.specs.Prelude.{ℕ, ℤ, pos, ◌-◌, ◌+ℤ◌, List, [], ◌∷◌, ◌++◌, Option, Some, None}
use Rattle.tw_atomic.specs.Atomic.{Meaning}
use Rattle.tw_msgs.specs.Bags.{Bag}

pub record State : Type 0 where
  pub numbers : List ℤ
  pub left : Option ℕ

-- the time left when some has elapsed
abbrev pub less : Option ℕ → ℕ → Option ℕ
less None elapsed = None
less (Some n) elapsed = Some (n - elapsed)

abbrev pub first : List ℤ → ℤ
first [] = pos 0
first (x ∷ xs) = x

abbrev pub rest : List ℤ → List ℤ
rest [] = []
rest (x ∷ xs) = xs

abbrev pub values : Bag → List ℤ
values [] = []
values (item ∷ items) = item.1 ∷ values items

-- each value on port 0
abbrev pub on_port_zero : List ℤ → Bag
on_port_zero [] = []
on_port_zero (v ∷ vs) = (0, v) ∷ on_port_zero vs

abbrev pub counted : State → List ℤ
counted s = (first s.numbers +ℤ pos 1) ∷ []

-- numbers: the count
abbrev pub gen : ℕ → ℤ → Meaning State
gen period value = record {
  start = record { numbers = pos 0 ∷ []; left = Some period };
  ta = λ s. s.left;
  out = λ s. (0, value) ∷ [];
  int = λ s. record { numbers = counted s; left = Some period };
  ext = λ s elapsed bag. record { numbers = s.numbers; left = less s.left elapsed };
  con = λ s elapsed bag. record { numbers = counted s; left = Some period };
  words = λ s. s.numbers;
}

-- count, sum, last
abbrev pub tallied : List ℤ → Bag → List ℤ
tallied ns [] = ns
tallied ns (item ∷ items) = tallied ((first ns +ℤ pos 1) ∷ (first (rest ns) +ℤ item.1) ∷ item.1 ∷ []) items

abbrev pub tally : Meaning State
tally = record {
  start = record { numbers = pos 0 ∷ pos 0 ∷ pos 0 ∷ []; left = None };
  ta = λ s. None;
  out = λ s. [];
  int = λ s. s;
  ext = λ s elapsed bag. record { numbers = tallied s.numbers bag; left = None };
  con = λ s elapsed bag. record { numbers = tallied s.numbers bag; left = None };
  words = λ s. s.numbers;
}

-- a relay that held nothing waits its whole delay
abbrev pub left_of : ℕ → List ℤ → Option ℕ → ℕ → Option ℕ
left_of delay [] left elapsed = Some delay
left_of delay (x ∷ xs) left elapsed = less left elapsed

-- numbers: how many it dropped (none in these examples), and what it holds
abbrev pub relay : ℕ → Meaning State
relay delay = record {
  start = record { numbers = pos 0 ∷ []; left = None };
  ta = λ s. s.left;
  out = λ s. on_port_zero (rest s.numbers);
  int = λ s. record { numbers = first s.numbers ∷ []; left = None };
  ext = λ s elapsed bag. record { numbers = s.numbers ++ values bag; left = left_of delay (rest s.numbers) s.left elapsed };
  con = λ s elapsed bag. record { numbers = first s.numbers ∷ values bag; left = Some delay };
  words = λ s. s.numbers;
}
