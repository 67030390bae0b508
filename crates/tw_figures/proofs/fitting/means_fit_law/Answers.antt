use Rattle.tw_figures.proofs.SmallSums.{means_fit}
use Rattle.tw_figures.proofs.fitting.means_fit_law.Goals as goal

pub returns : goal.returns
returns c = means_fit
