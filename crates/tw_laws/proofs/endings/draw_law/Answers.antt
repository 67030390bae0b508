use Rattle.tw_laws.proofs.Drawn.{draw_law}
use Rattle.tw_laws.proofs.endings.draw_law.Goals as goal

pub returns : goal.returns
returns g c = draw_law
