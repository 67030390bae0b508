use Rattle.tw_laws.proofs.Running.{running_law}
use Rattle.tw_laws.proofs.standing.running_law.Goals as goal

pub returns : goal.returns
returns g c = λ m. running_law (g.M.Atomic.valid m) (g.M.Atomic.meaning m) (λ turn s elapsed bag can. g.met.M.Atomic.stays_valid m turn s elapsed bag can)
