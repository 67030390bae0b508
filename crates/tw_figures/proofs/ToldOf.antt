-- From a course and its sums to what is told of a figure.
use Rattle.std.proofs.Common.{◌≡◌, ℕ, ℤ, pos, List}
use Rattle.tw_msgs.specs.declared.record.Record.{Record}
use Rattle.tw_figures.specs.Figures.{IsCourse, busy_at, sum_from, value_at}
use Rattle.tw_figures.specs.Shares.{IsMean, IsShare}
use Rattle.tw_figures.specs.Told.{IsTold}
use Rattle.tw_figures.specs.declared.course.Course.{Course}
use Rattle.tw_figures.specs.declared.course.Sums.{Sums}

pub told_of : (from : ℕ) (start : List ℤ) (moves : List Record) (course : Course) → IsCourse from start moves course → (ticks : ℕ) (sums : Sums) (mean busy : ℤ)
    → sums.sum ≡ sum_from from ticks (value_at course.measure start moves) → pos sums.busy ≡ sum_from from ticks (busy_at course.measure start moves)
    → IsMean sums.sum course.last ticks mean → IsShare sums.busy course.last ticks busy
    → IsTold from course.measure start moves ticks (record { least = course.least; greatest = course.greatest; last = course.last; mean = mean; busy = busy; sums = sums })
told_of from start moves course h ticks sums mean busy is counted is_mean is_busy = record {
  least = h.least;
  greatest = h.greatest;
  last = h.last;
  sum = is;
  counted = counted;
  mean = is_mean;
  busy = is_busy;
}
