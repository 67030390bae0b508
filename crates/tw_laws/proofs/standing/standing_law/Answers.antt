use Rattle.tw_laws.proofs.Ready.{standing_law}
use Rattle.tw_laws.proofs.standing.standing_law.Goals as goal

pub returns : goal.returns
returns g c = λ m. standing_law (g.M.Atomic.valid m) (g.M.Atomic.meaning m) (λ turn s elapsed bag can. g.met.M.Atomic.stays_valid m turn s elapsed bag can)
