use Rattle.std.proofs.Common.{subst}
use Rattle.tw_exchange.proofs.Behind.{still_behind}
use Rattle.tw_exchange.proofs.Coming.{replayed_further}
use Rattle.tw_exchange.proofs.UnderWay.{done_of}
use Rattle.tw_exchange.specs.Further.{IsFurther, reached}
use Rattle.tw_exchange.specs.Sweeping.{passes_of}
use Rattle.tw_exchange.proofs.exchange.Exchange.settle.Goals as goal

pub invariant_of-self : goal.invariant_of-self
invariant_of-self g c =
    let m = g.M.Atomic.meaning in
    let e = c.self.inside.executive in
    let done = done_of m (passes_of m e) e c.settle_all.new.executive c.settle_all.result c.settle_all.ensures.settled c.settle_all.ensures.cut_short in
    (c.settle_all.ensures.kept, still_behind m done.0 e c.settle_all.new.executive c.self.inside.publisher c.facts.ensures done.1 c.self.invariant.1)

-- done or cut short, it has come further
pub returns-clause-further : goal.returns-clause-further
returns-clause-further g c =
    let m = g.M.Atomic.meaning in
    let e = c.self.inside.executive in
    let new = c.settle_all.new.executive in
    let done = done_of m (passes_of m e) e new c.settle_all.result c.settle_all.ensures.settled c.settle_all.ensures.cut_short in
    subst (λ x. IsFurther (reached x.executive.world) (reached new.world)) c.self.view_is (replayed_further m done.0 e new c.facts.ensures done.1)
