use Rattle.std.proofs.Common.{[], ◌∷◌, length, sym, ap, subst, ◌∙◌}
use Rattle.tw_exchange.proofs.Behind.{still_behind}
use Rattle.tw_exchange.proofs.Coming.{no_further, replayed_further}
use Rattle.tw_exchange.proofs.Marking.{marks_count, standing_count}
use Rattle.tw_exchange.proofs.PassByPass.{mail_count, process_count}
use Rattle.tw_exchange.specs.Exchanged.{IsExact}
use Rattle.tw_exchange.specs.Further.{IsFurther, reached}
use Rattle.tw_exchange.proofs.exchange.Exchange.act.Goals as goal

pub refresh_all-requires : goal.refresh_all-requires
refresh_all-requires g c =
    c.self.invariant.0.free.count ∙ process_count g.M.Atomic.meaning c.self.inside.executive c.facts.ensures ∙ sym (ap (λ x. length x.network.models) c.in_ok-done.ensures.acted.done)

pub note_all-requires-clause-posting : goal.note_all-requires-clause-posting
note_all-requires-clause-posting g c =
    (marks_count c.self.inside.queues c.self.inside.executive.world c.self.invariant.0.marks).0
    ∙ process_count g.M.Atomic.meaning c.self.inside.executive c.facts.ensures ∙ sym (ap (λ x. length x.network.models) c.in_ok-done.ensures.acted.done)

pub note_all-requires-clause-delivering : goal.note_all-requires-clause-delivering
note_all-requires-clause-delivering g c =
    (marks_count c.self.inside.queues c.self.inside.executive.world c.self.invariant.0.marks).1
    ∙ mail_count g.M.Atomic.meaning c.self.inside.executive c.facts.ensures ∙ sym (ap (λ x. length x.network.models) c.in_ok-done.ensures.acted.done)

pub note_all-requires-clause-standing : goal.note_all-requires-clause-standing
note_all-requires-clause-standing g c =
    standing_count c.self.inside.queues c.self.inside.executive.world c.self.invariant.0.marks
    ∙ process_count g.M.Atomic.meaning c.self.inside.executive c.facts.ensures ∙ sym (ap (λ x. length x.network.models) c.in_ok-done.ensures.acted.done)

pub invariant_of-self-2 : goal.invariant_of-self-2
invariant_of-self-2 g c =
    let e = c.self.inside.executive in (
      record { free = subst (λ l. IsExact l c.act.new.self.world.processes) (sym c.note_all.ensures.free) c.refresh_all.ensures.exact; marks = c.note_all.ensures.marked },
      still_behind g.M.Atomic.meaning (c.args.action ∷ []) e c.act.new.self c.self.inside.publisher c.facts.ensures c.in_ok-done.ensures.acted.done c.self.invariant.1,
    )

pub returns-clause-further : goal.returns-clause-further
returns-clause-further g c =
    let e = c.self.inside.executive in
    let new = c.act.new.self in
    subst (λ x. IsFurther (reached x.executive.world) (reached new.world)) c.self.view_is (replayed_further g.M.Atomic.meaning (c.args.action ∷ []) e new c.facts.ensures c.in_ok-done.ensures.acted.done)

pub returns-in_err-done-clause-further : goal.returns-in_err-done-clause-further
returns-in_err-done-clause-further g c =
    let e = c.self.inside.executive in
    let new = c.act.new.self in
    subst (λ x. IsFurther (reached x.executive.world) (reached new.world)) c.self.view_is (subst (λ x. IsFurther (reached e.world) (reached x.world)) (sym c.in_err-done.ensures.acted.stays) (no_further e.world))
