use Rattle.std.proofs.Common.{subst}
use Rattle.tw_process.specs.Process.{IsPoolOf}
use Rattle.tw_process.proofs.Readers.{pooled}
use Rattle.tw_process.proofs.process.Process.pool.Goals as goal

pub returns : goal.returns
returns g c =
    let inside = c.self.inside in
    subst (λ p. IsPoolOf p.process c.pool.result.now.lists) c.self.view_is
    (pooled inside.history.items inside.lists c.pool.result.now.lists c.self.invariant.by.consumed_is c.self.invariant.by.sent_is c.pool.ensures.holds)
