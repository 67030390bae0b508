-- By the roots that are rounded down: of 4000000 * 256 it is 32000, and of 0 it is 0.
use Rattle.std.proofs.Common.{inl, inr, arith}
use Rattle.std.proofs.lemmas.Int.{ints}
use Rattle.tw_figures.proofs.Roots.{root_is}
use Rattle.tw_figures.proofs.Rounding.{thousandths_are}
use Rattle.tw_figures.proofs.examples.deviations.Goals as goal

pub returns-clause-eight : goal.returns-clause-eight
returns-clause-eight c = (
  (omega (arith, ints), thousandths_are _ 8 (omega arith)),
  (omega (arith, ints), omega (arith, ints), omega (arith, ints), root_is 256 8 32000 (omega arith) (omega arith) (omega arith)),
)

pub returns-clause-one : goal.returns-clause-one
returns-clause-one c = (
  (omega (arith, ints), thousandths_are _ 1 (omega arith)),
  (omega (arith, ints), omega (arith, ints), omega (arith, ints), root_is 0 1 0 (omega arith) (omega arith) (omega arith)),
)

pub returns-clause-wrapped : goal.returns-clause-wrapped
returns-clause-wrapped c = inr (inl (omega (arith, ints)))
