-- The tally: it counts and adds what comes, on any port, and never sends.
use Rattle.std.specs.Prelude.{ℕ, ℤ, pos, ◌+◌, ◌%◌, ◌<◌, [], ◌∷◌, None, FitsSigned}
use Rattle.std.specs.Int.{w64, int_wrapping_add, int_wrapping_sub}
use Rattle.tw_atomic.specs.Atomic.{Bag, Meaning}
use Rattle.tw_atomic.specs.declared.Turn.{Turn}
use Rattle.tw_atomic.specs.declared.Turn.TheVariants.{Int, Ext, Con}
use Rattle.tw_models.specs.declared.tally.TallyState.{TallyState}

-- the numbers of a tally fit
pub record IsTally (s : TallyState) : Type 0 where
  pub count_fits : s.count < 18446744073709551616
  pub sum_fits : FitsSigned w64 s.sum
  pub last_fits : FitsSigned w64 s.last

-- one item more: count and sum wrap at 64 bits
abbrev pub tally_one : TallyState → ℕ × ℤ → TallyState
tally_one s item = record { count = (s.count + 1) % 18446744073709551616; sum = int_wrapping_add w64 s.sum item.1; last = item.1 }

-- each item of a bag more
abbrev pub tally_all : TallyState → Bag → TallyState
tally_all s [] = s
tally_all s (item ∷ items) = tally_all (tally_one s item) items

abbrev pub tally_meaning : Meaning TallyState
tally_meaning =
    record {
      start = record { count = 0; sum = pos 0; last = pos 0 };
      ta = λ s. None;
      out = λ s. [];
      int = λ s. s;
      ext = λ s elapsed bag. tally_all s bag;
      con = λ s elapsed bag. tally_all s bag;
      words = λ s. pos s.count ∷ s.sum ∷ s.last ∷ [];
    }

-- one item less, the last value not yet given back
abbrev pub tally_less : TallyState → ℕ × ℤ → TallyState
tally_less s item = record { count = (s.count + 18446744073709551615) % 18446744073709551616; sum = int_wrapping_sub w64 s.sum item.1; last = s.last }

-- each item of a bag less, the last one first
abbrev pub tally_none : TallyState → Bag → TallyState
tally_none s [] = s
tally_none s (item ∷ items) = tally_less (tally_none s items) item

-- the state before a turn, of which this was the last value
abbrev pub tally_undone : Turn → TallyState → Bag → ℤ → TallyState
tally_undone Int s bag last = s
tally_undone Ext s bag last = record (tally_none s bag) { last = last }
tally_undone Con s bag last = record (tally_none s bag) { last = last }
