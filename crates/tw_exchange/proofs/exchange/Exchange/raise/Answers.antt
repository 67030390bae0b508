use Rattle.std.proofs.Common.{◌≡◌, [], ◌∷◌, ap, subst, sym, ◌∙◌, arith}
use Rattle.tw_exec.specs.Running.{after}
use Rattle.tw_network.specs.Contents.{network_of}
use Rattle.tw_theory.specs.Executive.{Raise}
use Rattle.tw_exchange.proofs.Behind.{still_behind}
use Rattle.tw_exchange.proofs.Coming.{replayed_further}
use Rattle.tw_exchange.proofs.Looking.{kept_looks, raise_looks}
use Rattle.tw_exchange.proofs.Refusing.{raise_done}
use Rattle.tw_exchange.specs.Exchanged.{IsNotAhead}
use Rattle.tw_exchange.specs.Further.{IsFurther, reached}
use Rattle.tw_exchange.specs.Queues.{LooksSame}
use Rattle.tw_exchange.proofs.exchange.Exchange.raise.Given.{Over}
use Rattle.tw_exchange.proofs.exchange.Exchange.raise.Goals.{After-act}
use Rattle.tw_exchange.proofs.exchange.Exchange.raise.Goals as goal

raised : (g : Over) (c : After-act g) → c.act.new.self ≡ after g.M.Atomic.meaning Raise c.self.inside.executive
raised g c = raise_done g.M.Atomic.meaning c.self.inside.executive c.act.new.self c.act.result c.act.ensures.acted.done c.act.ensures.acted.refused c.act.ensures.memory

behind : (g : Over) (c : After-act g) → IsNotAhead c.self.inside.publisher c.act.new.self
behind g c = still_behind g.M.Atomic.meaning (Raise ∷ []) c.self.inside.executive c.act.new.self c.self.inside.publisher c.facts.ensures (raised g c) c.self.invariant.1

pub post-requires : goal.post-requires
post-requires g c = behind g (goal.at.post-requires g c).After-act

pub invariant_of-self : goal.invariant_of-self
invariant_of-self g c =
    let e = c.self.inside.executive in
    let now = raised g (goal.at.invariant_of-self g c).After-act in
    let looks = subst (λ x. LooksSame e.world x.world) (sym now) (raise_looks (network_of g.M.Atomic.meaning e.network) e.until e.world) in
    (kept_looks c.self.inside.queues e.world c.act.new.self.world c.self.invariant.0 looks, subst (λ p. IsNotAhead p c.act.new.self) (sym c.post.ensures) (omega arith, omega arith))

pub returns-clause-raised : goal.returns-clause-raised
returns-clause-raised g c = raised g (goal.at.returns-clause-raised g c).After-act ∙ ap (λ x. after g.M.Atomic.meaning Raise x.executive) c.self.view_is

pub returns-clause-further : goal.returns-clause-further
returns-clause-further g c =
    let e = c.self.inside.executive in
    let now = raised g (goal.at.returns-clause-further g c).After-act in
    subst (λ x. IsFurther (reached x.executive.world) (reached c.act.new.self.world)) c.self.view_is (replayed_further g.M.Atomic.meaning (Raise ∷ []) e c.act.new.self c.facts.ensures now)
