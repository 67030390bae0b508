use Rattle.tw_laws.proofs.Merging.{merging_law, least_line_law}
use Rattle.tw_laws.proofs.endings.merging_law.Goals as goal

pub returns-clause-merged : goal.returns-clause-merged
returns-clause-merged g c = merging_law

pub returns-clause-least : goal.returns-clause-least
returns-clause-least g c = least_line_law
