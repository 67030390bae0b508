use Rattle.std.proofs.Common.{subst}
use Rattle.tw_exchange.proofs.Behind.{still_behind}
use Rattle.tw_exchange.proofs.Coming.{replayed_further}
use Rattle.tw_exchange.proofs.UnderWay.{done_of}
use Rattle.tw_exchange.specs.Further.{IsFurther, reached}
use Rattle.tw_exchange.specs.Sweeping.{sweep_of}
use Rattle.tw_exchange.proofs.exchange.Exchange.sweep.Given.{Over}
use Rattle.tw_exchange.proofs.exchange.Exchange.sweep.Goals.{After-sweep_all}
use Rattle.tw_exchange.proofs.exchange.Exchange.sweep.Goals as goal

-- cut short, it is a beginning of a sweep
pub invariant_of-self : goal.invariant_of-self
invariant_of-self g c =
    let cut = c.in_err-gvt.ensures.cut_short in
    (c.sweep_all.ensures.kept, still_behind g.M.Atomic.meaning cut.done c.self.inside.executive c.sweep_all.new.executive c.self.inside.publisher c.facts.ensures cut.after c.self.invariant.1)

pub post-requires : goal.post-requires
post-requires g c =
    let m = g.M.Atomic.meaning in
    let e = c.self.inside.executive in
    still_behind m (sweep_of m e) e c.sweep_all.new.executive c.self.inside.publisher c.facts.ensures c.in_ok-gvt.ensures.swept c.self.invariant.1

-- done or cut short, it has come further
further : (g : Over) (c : After-sweep_all g) → IsFurther (reached c.args.self.now.executive.world) (reached c.sweep_all.new.executive.world)
further g c =
    let m = g.M.Atomic.meaning in
    let e = c.self.inside.executive in
    let new = c.sweep_all.new.executive in
    let done = done_of m (sweep_of m e) e new c.sweep_all.result c.sweep_all.ensures.swept c.sweep_all.ensures.cut_short in
    subst (λ x. IsFurther (reached x.executive.world) (reached new.world)) c.self.view_is (replayed_further m done.0 e new c.facts.ensures done.1)

pub returns-in_err-gvt-clause-further : goal.returns-in_err-gvt-clause-further
returns-in_err-gvt-clause-further g c = further g (goal.at.returns-in_err-gvt-clause-further g c).After-sweep_all

pub returns-clause-further : goal.returns-clause-further
returns-clause-further g c = further g (goal.at.returns-clause-further g c).After-sweep_all
