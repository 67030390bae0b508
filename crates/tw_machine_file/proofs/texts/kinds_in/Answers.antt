use Rattle.tw_machine_file.specs.Texts.{language_of}
use Rattle.tw_machine_file.proofs.texts.kinds_in.Goals as goal

pub returns : goal.returns
unfolding language_of
returns c = c.kinds_of.ensures
