-- The board: a Publisher posts global virtual time and the number of committed records, and Readers see them while the run goes on.
--     numbers_of w      the two numbers of an executive
--     posted_after posted numbers      the greatest numbers posted, when these are posted too
--     IsBoard posted seen      the rule of the board: no Reader has seen more than was posted
--     IsSeen posted before now, IsMet posted before now      what a Reader had seen and has, when it looks, and when it meets the Publisher
use Rattle.std.specs.Prelude.{ℕ, ◌≤◌, ◌≡◌, max, List, length}
use Rattle.std.specs.List.{AllByRecursion as Each}
use Rattle.tw_msgs.specs.Counting.{total}
use Rattle.tw_theory.specs.Executive.{World}

-- global virtual time, and the number of committed records
abbrev pub Numbers : Type 0
Numbers = ℕ × ℕ

abbrev pub numbers_of : {S : Type 0} → World S → Numbers
numbers_of w = (w.gvt, total length w.columns)

-- in neither part above the other
abbrev pub AtMost : Numbers → Numbers → Type 0
AtMost one other = (one.0 ≤ other.0) × (one.1 ≤ other.1)

-- of each part the greatest counts
abbrev pub posted_after : Numbers → Numbers → Numbers
posted_after posted numbers = (max posted.0 numbers.0, max posted.1 numbers.1)

-- nothing is posted at first
abbrev pub nothing_posted : Numbers
nothing_posted = (0, 0)

-- no Reader has seen more than was posted
abbrev pub IsBoard : Numbers → List Numbers → Type 0
IsBoard posted seen = Each (λ numbers. AtMost numbers posted) seen

-- a Reader looks: what it then has seen was posted, and is no less than before
pub record IsSeen (posted before now : Numbers) : Type 0 where
  pub rises : AtMost before now
  pub within : AtMost now posted

-- a Reader meets the Publisher: it then has seen just what is posted
pub record IsMet (posted before now : Numbers) : Type 0 where
  pub is : now ≡ posted
  pub rises : AtMost before now
