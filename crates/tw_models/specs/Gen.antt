-- The generator: each period it counts one, and sends its value on port 0.
use Rattle.std.specs.Prelude.{ℕ, pos, ◌+◌, ◌%◌, ◌<◌, [], ◌∷◌, Some}
use Rattle.tw_atomic.specs.Atomic.{Meaning}
use Rattle.tw_atomic.specs.declared.Turn.{Turn}
use Rattle.tw_atomic.specs.declared.Turn.TheVariants.{Int, Ext, Con}
use Rattle.tw_models.specs.declared.generator.GenState.{GenState}
use Rattle.tw_models.specs.Parameters.{GenParameters, FitsGen}
use Rattle.tw_models.specs.Left.{minus, plus, FitsLeft}

-- the parameters are in range, and the numbers of the state fit
pub record IsGen (g : GenParameters) (s : GenState) : Type 0 where
  pub parameters : FitsGen g
  pub count_fits : s.count < 18446744073709551616
  pub left_fits : FitsLeft s.left

-- one output more, and a whole period is left
abbrev pub gen_int : GenParameters → GenState → GenState
gen_int g s = record { count = (s.count + 1) % 18446744073709551616; left = Some g.period }

-- what comes is ignored, but time went by
abbrev pub gen_ext : GenState → ℕ → GenState
gen_ext s elapsed = record { count = s.count; left = minus s.left elapsed }

abbrev pub gen_meaning : GenParameters → Meaning GenState
gen_meaning g =
    record {
      start = record { count = 0; left = Some g.period };
      ta = λ s. s.left;
      out = λ s. (0, g.value) ∷ [];
      int = gen_int g;
      ext = λ s elapsed bag. gen_ext s elapsed;
      con = λ s elapsed bag. gen_ext (gen_int g s) 0;
      words = λ s. pos s.count ∷ [];
    }

-- the state before a turn: one output less (a number that wraps below 0 is 2 ^ 64 - 1); what was left at an internal or a confluent transition is what had elapsed
abbrev pub gen_undone : Turn → GenState → ℕ → GenState
gen_undone Ext s elapsed = record { count = s.count; left = plus s.left elapsed }
gen_undone Int s elapsed = record { count = (s.count + 18446744073709551615) % 18446744073709551616; left = Some elapsed }
gen_undone Con s elapsed = record { count = (s.count + 18446744073709551615) % 18446744073709551616; left = Some elapsed }
