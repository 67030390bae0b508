-- What is told of a figure over the ticks of a time: its sums exactly, and its mean and its share in thousandths.
--     IsTold from measure start moves ticks told      over so many ticks, of which `from` is the first, of a component that starts in a state of these words and makes these transitions
use Rattle.std.specs.Prelude.{◌≡◌, ℕ, ℤ, pos, List}
use Rattle.tw_msgs.specs.declared.record.Record.{Record}
use Rattle.tw_figures.specs.Figures.{IsGreatest, IsLeast, busy_at, sum_from, value_at, value_of, values_from, words_after}
use Rattle.tw_figures.specs.Shares.{IsMean, IsShare}
use Rattle.tw_figures.specs.declared.figure.Measure.{Measure}
use Rattle.tw_figures.specs.declared.told.Told.{Told}

pub record IsTold (from : ℕ) (measure : Measure) (start : List ℤ) (moves : List Record) (ticks : ℕ) (told : Told) : Type 0 where
  pub least : IsLeast told.least (values_from measure from start moves)
  pub greatest : IsGreatest told.greatest (values_from measure from start moves)
  pub last : told.last ≡ value_of measure (words_after start moves)
  pub sum : told.sums.sum ≡ sum_from from ticks (value_at measure start moves)
  pub counted : pos told.sums.busy ≡ sum_from from ticks (busy_at measure start moves)
  pub mean : IsMean told.sums.sum told.last ticks told.mean
  pub busy : IsShare told.sums.busy told.last ticks told.busy
