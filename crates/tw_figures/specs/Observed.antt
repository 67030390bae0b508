-- Observations: values that a model adds up, as three of the words of a state tell them.
--     power_sums place words      how many values there are, their sum and that of their squares, modulo 2 ^ 64, where the first of these stands at a place
--     grown first last      by how much such a number grew, modulo 2 ^ 64 with sign
--     IsWatch from start moves watch      what an observation had added up when the component came to a tick, and what by now
--     IsObserved from place start moves observed      what is told of the values that were observed from a tick on
use Rattle.std.specs.Int.{cast_signed, int_rem_euclid, w64}
use Rattle.std.specs.Prelude.{◌≡◌, ◌+◌, ◌-◌, ◌%◌, ℕ, ℤ, pos, List, slice_index_or, unsigned_abs}
use Rattle.tw_msgs.specs.declared.record.Record.{Record}
use Rattle.tw_figures.specs.Deviations.{IsDeviation, IsMeanOfValues}
use Rattle.tw_figures.specs.Figures.{words_after, words_before}
use Rattle.tw_figures.specs.declared.observed.Observed.{Observed}
use Rattle.tw_figures.specs.declared.power_sums.PowerSums.{PowerSums}
use Rattle.tw_figures.specs.declared.watch.Watch.{Watch}

-- ---- in a state

abbrev pub modulo_64 : ℤ → ℕ
modulo_64 number = unsigned_abs (int_rem_euclid number (pos 18446744073709551616))

abbrev pub power_sums : ℕ → List ℤ → PowerSums
power_sums place words = record {
  count = modulo_64 (slice_index_or words (place + 0) (pos 0));
  sum = modulo_64 (slice_index_or words (place + 1) (pos 0));
  squares = modulo_64 (slice_index_or words (place + 2) (pos 0));
}

-- ---- in the course of a run

abbrev pub grown : ℕ → ℕ → ℤ
grown first last = cast_signed w64 ((last + (18446744073709551616 - first)) % 18446744073709551616)

pub record IsWatch (from : ℕ) (start : List ℤ) (moves : List Record) (watch : Watch) : Type 0 where
  pub first : watch.first ≡ power_sums watch.place (words_before from start moves)
  pub last : watch.last ≡ power_sums watch.place (words_after start moves)

pub record IsObserved (from place : ℕ) (start : List ℤ) (moves : List Record) (observed : Observed) : Type 0 where
  pub count : observed.count ≡ grown (power_sums place (words_before from start moves)).count (power_sums place (words_after start moves)).count
  pub sum : observed.sum ≡ grown (power_sums place (words_before from start moves)).sum (power_sums place (words_after start moves)).sum
  pub squares : observed.squares ≡ grown (power_sums place (words_before from start moves)).squares (power_sums place (words_after start moves)).squares
  pub mean : IsMeanOfValues observed.count observed.sum observed.mean
  pub deviation : IsDeviation observed.count observed.sum observed.squares observed.deviation
