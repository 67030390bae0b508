use Rattle.std.proofs.Common.{◌≡◌, sym, ap, subst, ◌∙◌}
use Rattle.std.specs.Prelude.{Err, IfOk, Ok, OnErr, Result, slice_get}
use Rattle.tw_actions.specs.declared.chain.Finished.{Finished}
use Rattle.tw_atomic.specs.Atomic.{AreAlike, Meaning}
use Rattle.tw_exec.specs.Chains.{IsInstalledOn}
use Rattle.tw_exec.specs.Running.{IsSoundly, Running}
use Rattle.tw_network.specs.Contents.{network_of}
use Rattle.tw_laws.specs.Chains.{steps_of_one}
use Rattle.tw_theory.specs.Chains.{Chain}
use Rattle.tw_exchange.proofs.Behind.{still_behind}
use Rattle.tw_exchange.proofs.Coming.{no_further, replayed_further}
use Rattle.tw_exchange.proofs.Following.{exact_but, steps_on_one}
use Rattle.tw_exchange.proofs.Marking.{marks_but}
use Rattle.tw_exchange.proofs.SameBut.{nothing_else}
use Rattle.tw_exchange.proofs.Staying.{steps_mail}
use Rattle.tw_exchange.specs.Exchanged.{IsExact, IsExactBut}
use Rattle.tw_exchange.specs.Further.{IsFurther, reached}
use Rattle.tw_exchange.specs.Queues.{AreMarkedBut, IsSameBut}
use Rattle.tw_exchange.proofs.exchange.Exchange.finish.Goals as goal

pub install-requires-clause-alike : goal.install-requires-clause-alike
install-requires-clause-alike g c = λ m at.
    let component = c.component-component.ensures ∙ ap (λ p. p.run.start.component) c.prepareds.view_is in
    let there = (λ i. slice_get (sym c.self.view_is i).executive.network.models (sym component i)) ∙ at in
    subst (λ p. AreAlike g.M.Atomic.meaning g.M.Atomic.undone m p.model) (sym c.prepareds.view_is) (c.requires.alike m there)

pub free-requires : goal.free-requires
free-requires g c =
    let e = c.self.inside.executive in
    let b = c.prepareds.inside.chain.run.start.component in
    let same = subst (IsSameBut b e.world.processes) (sym (ap (λ x. x.world.processes) c.in-Ok.ensures.installed.steps)) (steps_on_one (network_of g.M.Atomic.meaning e.network) e.until e.world b c.in-Ok.finished.installed) in
    subst (λ k. IsExactBut k c.self.inside.queues.free c.install.new.self.world.processes) (sym c.component-component.ensures) (exact_but c.self.inside.queues.free e.world.processes c.install.new.self.world.processes b c.self.invariant.0.free same)

pub note_marks-requires-clause-but : goal.note_marks-requires-clause-but
note_marks-requires-clause-but g c =
    let e = c.self.inside.executive in
    let w = e.world in
    let new = c.install.new.self.world in
    let b = c.prepareds.inside.chain.run.start.component in
    let net = network_of g.M.Atomic.meaning e.network in
    let n = c.in-Ok.finished.installed in
    let same = subst (IsSameBut b w.processes) (sym (ap (λ x. x.world.processes) c.in-Ok.ensures.installed.steps)) (steps_on_one net e.until w b n) in
    let mail = subst (IsSameBut b w.mail) (sym (ap (λ x. x.world.mail) c.in-Ok.ensures.installed.steps ∙ steps_mail net e.until w b n)) (nothing_else b w.mail) in
    let marks = marks_but c.self.inside.queues w new b c.self.invariant.0.marks same mail in
    subst (λ k. AreMarkedBut k (record c.self.inside.queues { free = c.free.new.agenda }) new) (sym c.component-component.ensures) (record { posting = marks.posting; delivering = marks.delivering; standing = marks.standing })

pub invariant_of-self-2 : goal.invariant_of-self-2
invariant_of-self-2 g c =
    let e = c.self.inside.executive in
    let steps = steps_of_one c.prepareds.inside.chain.run.start.component c.in-Ok.finished.installed in (
      record { free = subst (λ l. IsExact l c.install.new.self.world.processes) (sym c.note_marks.ensures.free) c.free.ensures.exact; marks = c.note_marks.ensures.marked },
      still_behind g.M.Atomic.meaning steps e c.install.new.self c.self.inside.publisher c.facts.ensures c.in-Ok.ensures.installed.steps c.self.invariant.1,
    )

-- so many steps are made, or where it is refused nothing
further : {M S E : Type 0} (meaning : M → Meaning S) (chain : Chain M S) (e e' : Running M S) (r : Result Finished E) → IsSoundly meaning e → IfOk r (IsInstalledOn meaning chain e e') → OnErr r (e' ≡ e)
    → IsFurther (reached e.world) (reached e'.world)
further meaning chain e e' (Ok finished) s is stays = replayed_further meaning (steps_of_one chain.run.start.component finished.installed) e e' s is.steps
further meaning chain e e' (Err why) s is stays = subst (λ x. IsFurther (reached e.world) (reached x.world)) (sym stays) (no_further e.world)

pub returns-in_default-clause-further : goal.returns-in_default-clause-further
returns-in_default-clause-further g c =
    let e = c.self.inside.executive in
    let new = c.install.new.self in
    subst (λ x. IsFurther (reached x.executive.world) (reached new.world)) c.self.view_is
    (further g.M.Atomic.meaning c.prepareds.inside.chain e new c.install.result c.facts.ensures c.install.ensures.installed c.install.ensures.stays)

pub returns-clause-further : goal.returns-clause-further
returns-clause-further g c =
    let e = c.self.inside.executive in
    let new = c.install.new.self in
    subst (λ x. IsFurther (reached x.executive.world) (reached new.world)) c.self.view_is
    (further g.M.Atomic.meaning c.prepareds.inside.chain e new c.install.result c.facts.ensures c.install.ensures.installed c.install.ensures.stays)
