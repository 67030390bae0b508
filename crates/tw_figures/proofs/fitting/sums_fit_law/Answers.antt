use Rattle.tw_figures.proofs.SmallSums.{sums_fit}
use Rattle.tw_figures.proofs.fitting.sums_fit_law.Goals as goal

pub returns : goal.returns
returns c = sums_fit
