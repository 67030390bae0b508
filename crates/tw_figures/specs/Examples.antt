-- Means and deviations by hand, which the check computes.
use Rattle.std.specs.Prelude.{pos, negsuc, Some, None}
use Rattle.tw_figures.specs.Deviations.{IsDeviation, IsMeanOfValues}

-- 2, 4, 4, 4, 5, 5, 7, 9 have the sum 40, and their squares the sum 232: the mean 5 and the deviation 2
abbrev pub EightValues : Type 0
EightValues = IsMeanOfValues (pos 8) (pos 40) (Some (pos 5000)) × IsDeviation (pos 8) (pos 40) (pos 232) (Some 2000)

-- -3 alone
abbrev pub OneValue : Type 0
OneValue = IsMeanOfValues (pos 1) (negsuc 2) (Some (negsuc 2999)) × IsDeviation (pos 1) (negsuc 2) (pos 9) (Some 0)

-- two values of the sum 4 whose squares have the sum 7 there are not: 14 is less than 16
abbrev pub Wrapped : Type 0
Wrapped = IsDeviation (pos 2) (pos 4) (pos 7) None
