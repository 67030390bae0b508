use Rattle.tw_laws.proofs.TimeWarp.{time_warp_law}
use Rattle.tw_laws.proofs.headline.time_warp_law.Goals as goal

pub returns : goal.returns
returns g c = time_warp_law
