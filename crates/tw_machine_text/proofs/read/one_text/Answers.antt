use Rattle.tw_machine_text.proofs.Readings.{one_text}
use Rattle.tw_machine_text.proofs.read.one_text.Goals as goal

pub returns : goal.returns
returns c = one_text
