use Rattle.tw_script.proofs.OneScript.{means_one}
use Rattle.tw_script.proofs.script.script_law.Goals as goal

pub returns : goal.returns
returns c = means_one
