use Rattle.tw_laws.proofs.Lines.{lines_law, sound_lines}
use Rattle.tw_laws.proofs.commitment.lines_law.Goals as goal

pub returns-clause-start : goal.returns-clause-start
returns-clause-start g c = lines_law

pub returns-clause-sound : goal.returns-clause-sound
returns-clause-sound g c = sound_lines
