use Rattle.tw_machine_text.proofs.Readings.{one_tree}
use Rattle.tw_machine_text.proofs.read.one_tree.Goals as goal

pub returns : goal.returns
returns c = one_tree
