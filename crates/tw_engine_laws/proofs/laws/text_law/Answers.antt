use Rattle.tw_engine_laws.proofs.OneText.{one_text}
use Rattle.tw_engine_laws.proofs.laws.text_law.Goals as goal

pub returns : goal.returns
returns c = one_text c.meaning_law.ensures c.script_law.ensures c.couplings_law.ensures
