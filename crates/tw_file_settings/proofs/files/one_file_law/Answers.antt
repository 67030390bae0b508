use Rattle.tw_file_settings.proofs.Rewritten.{one_value}
use Rattle.tw_file_settings.proofs.files.one_file_law.Goals as goal

pub returns : goal.returns
returns c = one_value
