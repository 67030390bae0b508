-- A counter, by which the tests implement the trait: a state is how many items came, and whether any came since it last sent. It then sends, after no time, one item on port 3.
use Rattle.std.specs.Prelude.{◌≡◌, ℕ, pos, ◌+◌, ◌-◌, ◌%◌, ◌<◌, [], ◌∷◌, Bool, true, false, Option, Some, None, length, refl}
use Rattle.std.proofs.Common.{arith, ap}
use Rattle.tw_atomic.specs.Atomic.{Bag, Meaning, CanTurn, turned}
use Rattle.tw_atomic.specs.declared.Turn.{Turn}
use Rattle.tw_atomic.specs.declared.Turn.TheVariants.{Int, Ext, Con}

abbrev pub counter_ta : Bool → Option ℕ
counter_ta true = Some 0
counter_ta false = None

-- how many items came, with those of a bag; it wraps at 2 ^ 64
abbrev pub count_after : ℕ → Bag → ℕ
count_after count bag = (count + length bag) % 18446744073709551616

abbrev pub counter_meaning : Meaning (ℕ × Bool)
counter_meaning =
    record {
      start = (0, false);
      ta = λ s. counter_ta s.1;
      out = λ s. (3, pos 1) ∷ [];
      int = λ s. (s.0, false);
      ext = λ s elapsed bag. (count_after s.0 bag, true);
      con = λ s elapsed bag. (count_after s.0 bag, true);
      words = λ s. pos s.0 ∷ [];
    }

abbrev pub IsCounter : ℕ × Bool → Type 0
IsCounter s = s.0 < 18446744073709551616

-- the state before a turn, which had sent or not
abbrev pub counter_undone : Turn → ℕ × Bool → Bag → Bool → ℕ × Bool
counter_undone Int s bag sends = (s.0, sends)
counter_undone Ext s bag sends = ((s.0 + (18446744073709551616 - length bag % 18446744073709551616)) % 18446744073709551616, sends)
counter_undone Con s bag sends = ((s.0 + (18446744073709551616 - length bag % 18446744073709551616)) % 18446744073709551616, sends)

count-back : (count : ℕ) (bag : Bag) → count < 18446744073709551616 → (count_after count bag + (18446744073709551616 - length bag % 18446744073709551616)) % 18446744073709551616 ≡ count
count-back count bag fits = omega (arith, fits)

pub counter_stays_valid : (turn : Turn) (s : ℕ × Bool) (elapsed : ℕ) (bag : Bag) → CanTurn IsCounter counter_meaning turn s elapsed bag → IsCounter (turned counter_meaning turn s elapsed bag)
counter_stays_valid Int s elapsed bag can = can.valid
counter_stays_valid Ext s elapsed bag can = omega arith
counter_stays_valid Con s elapsed bag can = omega arith

pub counter_reverses : (turn : Turn) (s : ℕ × Bool) (elapsed : ℕ) (bag : Bag) → CanTurn IsCounter counter_meaning turn s elapsed bag → counter_undone turn (turned counter_meaning turn s elapsed bag) bag s.1 ≡ s
counter_reverses Int s elapsed bag can = refl
counter_reverses Ext s elapsed bag can = let made : ℕ → ℕ × Bool = λ n. (n, s.1) in ap made (count-back s.0 bag can.valid)
counter_reverses Con s elapsed bag can = let made : ℕ → ℕ × Bool = λ n. (n, s.1) in ap made (count-back s.0 bag can.valid)
