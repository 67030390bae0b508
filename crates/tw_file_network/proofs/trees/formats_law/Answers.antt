use Rattle.tw_file_network.proofs.Formats.{one_format}
use Rattle.tw_file_network.proofs.trees.formats_law.Goals as goal

pub returns : goal.returns
returns c = one_format
