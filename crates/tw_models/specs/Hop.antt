-- The hop: a linear congruential generator (Lehmer 1951; the constants are Knuth's, of MMIX) draws its ports, values and waiting times, and what comes changes the number it draws from.
use Rattle.std.specs.Prelude.{ℕ, ℤ, pos, ◌+◌, ◌-◌, ◌*◌, ◌/◌, ◌%◌, ◌<◌, [], ◌∷◌, Some}
use Rattle.std.specs.Int.{w64, cast_unsigned}
use Rattle.tw_atomic.specs.Atomic.{Bag, Meaning}
use Rattle.tw_atomic.specs.declared.Turn.{Turn}
use Rattle.tw_atomic.specs.declared.Turn.TheVariants.{Int, Ext, Con}
use Rattle.tw_models.specs.declared.hop.HopState.{HopState}
use Rattle.tw_models.specs.Parameters.{HopParameters, FitsHop}
use Rattle.tw_models.specs.Left.{minus, plus, FitsLeft}

-- the parameters are in range, and the numbers of the state fit
pub record IsHop (h : HopParameters) (s : HopState) : Type 0 where
  pub parameters : FitsHop h
  pub x_fits : s.x < 18446744073709551616
  pub left_fits : FitsLeft s.left

-- the next number: 6364136223846793005 * x + 1442695040888963407 modulo 2 ^ 64
abbrev pub lcg : ℕ → ℕ
lcg x = (6364136223846793005 * x + 1442695040888963407) % 18446744073709551616

-- the number before: 13877824140714322085 is the inverse of the multiplier modulo 2 ^ 64, and 17004049032820588209 is 2 ^ 64 less the summand
abbrev pub lcg_back : ℕ → ℕ
lcg_back x = 13877824140714322085 * ((x + 17004049032820588209) % 18446744073709551616) % 18446744073709551616

-- the waiting time that a number draws: 1 to the spread; 8589934592 is 2 ^ 33
abbrev pub wait : ℕ → ℕ → ℕ
wait spread x = 1 + x / 8589934592 % spread

-- the item that a number draws: a port below the number of ports, a value below 1000; 281474976710656 is 2 ^ 48, 4294967296 is 2 ^ 32
abbrev pub drawn_item : ℕ → ℕ → ℕ × ℤ
drawn_item ports x = (x / 281474976710656 % ports, pos (x / 4294967296 % 1000))

-- the number after an item came: its value, modulo 2 ^ 64, is added, and the next one drawn
abbrev pub stirred : ℕ → ℕ × ℤ → ℕ
stirred x item = lcg ((x + cast_unsigned w64 item.1) % 18446744073709551616)

-- the number after each item of a bag
abbrev pub stirred_all : ℕ → Bag → ℕ
stirred_all x [] = x
stirred_all x (item ∷ items) = stirred_all (stirred x item) items

-- the next number, and a wait that it draws
abbrev pub hop_int : HopParameters → HopState → HopState
hop_int h s = record { x = lcg s.x; left = Some (wait h.spread (lcg s.x)) }

-- what comes stirs the number; the wait goes on
abbrev pub hop_ext : HopState → ℕ → Bag → HopState
hop_ext s elapsed bag = record { x = stirred_all s.x bag; left = minus s.left elapsed }

abbrev pub hop_meaning : HopParameters → Meaning HopState
hop_meaning h =
    record {
      start = record { x = h.seed; left = Some (wait h.spread h.seed) };
      ta = λ s. s.left;
      out = λ s. drawn_item h.ports s.x ∷ [];
      int = hop_int h;
      ext = hop_ext;
      con = λ s elapsed bag. hop_ext (hop_int h s) 0 bag;
      words = λ s. pos s.x ∷ [];
    }

-- the number before an item came
abbrev pub unstirred : ℕ → ℕ × ℤ → ℕ
unstirred x item = (lcg_back x + (18446744073709551616 - cast_unsigned w64 item.1)) % 18446744073709551616

-- the number before each item of a bag, the last item taken back first
abbrev pub unstirred_all : ℕ → Bag → ℕ
unstirred_all x [] = x
unstirred_all x (item ∷ items) = unstirred (unstirred_all x items) item

-- the state before a turn; what was left at an internal or a confluent transition is what had elapsed
abbrev pub hop_undone : Turn → HopState → ℕ → Bag → HopState
hop_undone Int s elapsed bag = record { x = lcg_back s.x; left = Some elapsed }
hop_undone Ext s elapsed bag = record { x = unstirred_all s.x bag; left = plus s.left elapsed }
hop_undone Con s elapsed bag = record { x = lcg_back (unstirred_all s.x bag); left = Some elapsed }
