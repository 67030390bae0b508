use Rattle.tw_file_network.proofs.OneMeaning.{means_one}
use Rattle.tw_file_network.proofs.trees.meaning_law.Goals as goal

pub returns : goal.returns
returns c = means_one
