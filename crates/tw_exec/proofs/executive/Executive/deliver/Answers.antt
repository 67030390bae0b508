use Rattle.std.proofs.Common.{◌≡◌, ◌<◌, Err, FitsSigned, w64, refl, ap, sym, subst, ◌∙◌, arith, rules}
use Rattle.std.specs.Arc.{arc_value}
use Rattle.std.specs.Prelude.{slice_set, Ok, Err}
use Rattle.std.proofs.lemmas.Option.{slice_get_read}
use Rattle.tw_exec.specs.Refusals.{of_pool}
use Rattle.tw_exec.specs.Running.{AreExact, IsHeld, IsWanting, WantsRoom, answer, after, shown}
use Rattle.tw_exec.proofs.Acts.{deliver_empty, deliver_none}
use Rattle.tw_exec.proofs.Deliveries.{arrives, deliver_acted, deliver_wants, restored, wanted}
use Rattle.tw_exec.proofs.Kept.{IsActed, as_many_boxes, held_unchanged, same_world}
use Rattle.tw_pool.specs.declared.refused.PoolRefused.TheVariants.{Full as full}
use Rattle.tw_theory.specs.Executive.{Deliver, Received}
use Rattle.tw_exec.proofs.Exactly.{deliver_exact, exact_known, exact_taken, none_of_pool, ok_err, same_Err}
use Rattle.tw_exec.specs.declared.refused.Refused.TheVariants as refused
use Rattle.tw_theory.specs.Executive as theory
use Rattle.tw_actions.specs.declared.action.Done.TheVariants as done
use Rattle.tw_exec.proofs.executive.Executive.deliver.Given.{Over}
use Rattle.tw_exec.proofs.executive.Executive.deliver.Goals as goal

pub receive-requires-clause-fits : goal.receive-requires-clause-fits
receive-requires-clause-fits g c =
    let ps = c.self.inside.processes in
    let old = c.index_mut.result.now in
    let at = slice_get_read ps.items _ c.args.receiver old ps.ok.0 (omega (arith, c.if-receiver-len.false, c.len.ensures, c.self.inside.processes.ok.0)) c.index_mut.ensures.value in
    let port : c.in-Some.item.message.port < 256 = search rules in
    let value : FitsSigned w64 c.in-Some.item.message.value = search rules in
    (arrives c.self.invariant.0 c.args.receiver c.args.place old c.in-Some.item at (sym c.take.ensures.item ∙ c.in-Some.is) port value).0

pub receive-requires-clause-after : goal.receive-requires-clause-after
receive-requires-clause-after g c =
    let ps = c.self.inside.processes in
    let old = c.index_mut.result.now in
    let at = slice_get_read ps.items _ c.args.receiver old ps.ok.0 (omega (arith, c.if-receiver-len.false, c.len.ensures, c.self.inside.processes.ok.0)) c.index_mut.ensures.value in
    let port : c.in-Some.item.message.port < 256 = search rules in
    let value : FitsSigned w64 c.in-Some.item.message.value = search rules in
    (arrives c.self.invariant.0 c.args.receiver c.args.place old c.in-Some.item at (sym c.take.ensures.item ∙ c.in-Some.is) port value).1

acted : (g : Over) (c : goal.In-Ok g) → IsActed g.M.Atomic.meaning (arc_value c.self.inside.network) c.self.inside.until c.self.inside.end c.self.inside.gvt c.self.inside.gvt c.self.inside.processes.items (slice_set c.self.inside.processes.items c.args.receiver c.receive.new.process) c.self.inside.mail.boxes c.take.new.self.boxes c.self.inside.columns.items c.self.inside.columns.items (Deliver c.args.receiver c.args.place) (Ok (Received c.in-Ok.came))
acted g c =
    let ps = c.self.inside.processes in
    let old = c.index_mut.result.now in
    let at = slice_get_read ps.items _ c.args.receiver old ps.ok.0 (omega (arith, c.if-receiver-len.false, c.len.ensures, c.self.inside.processes.ok.0)) c.index_mut.ensures.value in
    let done = deliver_acted c.self.invariant.0 c.args.receiver c.args.place old c.receive.new.process c.in-Some.item c.in-Ok.came at (sym c.take.ensures.item ∙ c.in-Some.is) c.in-Ok.ensures.received in
    subst (λ m. IsActed g.M.Atomic.meaning (arc_value c.self.inside.network) c.self.inside.until c.self.inside.end c.self.inside.gvt c.self.inside.gvt c.self.inside.processes.items (slice_set c.self.inside.processes.items c.args.receiver c.receive.new.process) c.self.inside.mail.boxes m c.self.inside.columns.items c.self.inside.columns.items (Deliver c.args.receiver c.args.place) (Ok (Received c.in-Ok.came))) (sym (ap (λ m. m.boxes) c.in-Some.ensures.taken)) done

pub invariant_of-self-in-Ok : goal.invariant_of-self-in-Ok
invariant_of-self-in-Ok g c = ((acted g c).held, c.self.invariant.1)

same_boxes : (g : Over) (c : goal.After-into g) → c.put_back.new.self.boxes ≡ c.self.inside.mail.boxes
same_boxes g c =
    ap (λ m. m.boxes) c.put_back.ensures
    ∙ restored c.self.inside.mail.boxes c.take.new.self.boxes c.args.receiver c.args.place c.in-Some.item c.in-Err.item (omega (arith, as_many_boxes c.self.invariant.0, c.if-receiver-len.false, c.len.ensures, c.self.inside.processes.ok.0))
    (ap (λ m. m.boxes) c.in-Some.ensures.taken) (sym c.take.ensures.item ∙ c.in-Some.is) c.in-Err.ensures.handed_back

pub invariant_of-self-in-Err : goal.invariant_of-self-in-Err
invariant_of-self-in-Err g c =
    let ps = c.self.inside.processes in
    let old = c.index_mut.result.now in
    let at = slice_get_read ps.items _ c.args.receiver old ps.ok.0 (omega (arith, c.if-receiver-len.false, c.len.ensures, c.self.inside.processes.ok.0)) c.index_mut.ensures.value in
    let held = held_unchanged c.self.invariant.0 c.args.receiver old c.receive.new.process at c.in-Err.ensures.stays in
    (subst (λ m. IsHeld g.M.Atomic.meaning (arc_value c.self.inside.network) c.self.inside.until c.self.inside.end c.self.inside.gvt (slice_set c.self.inside.processes.items c.args.receiver c.receive.new.process) m c.self.inside.columns.items) (sym (same_boxes g c)) held, c.self.invariant.1)

pub returns-then-receiver-len-clause-acted : goal.returns-then-receiver-len-clause-acted
returns-then-receiver-len-clause-acted g c =
    let refused_is = ap (λ e. answer g.M.Atomic.meaning (Deliver c.args.receiver c.args.place) e) (sym c.self.view_is)
    ∙ ap (λ x. x.0) (deliver_none g.M.Atomic.meaning (arc_value c.self.inside.network) c.self.inside.until c.self.inside.gvt c.self.inside.processes.items c.self.inside.mail.boxes c.self.inside.columns.items c.args.receiver c.args.place (omega (arith, c.if-receiver-len.true, c.len.ensures, c.self.inside.processes.ok.0))) in
    record {
      done = search rules;
      answer = search rules;
      refused = refused_is;
      exact = exact_known g.M.Atomic.meaning (Deliver c.args.receiver c.args.place) c.args.self.now refused.NoSuch theory.NoSuch refl refused_is;
      full = search rules;
      stays = search rules;
    }

pub returns-in_default-clause-acted : goal.returns-in_default-clause-acted
returns-in_default-clause-acted g c =
    let refused_is = ap (λ e. answer g.M.Atomic.meaning (Deliver c.args.receiver c.args.place) e) (sym c.self.view_is)
    ∙ ap (λ x. x.0) (deliver_empty g.M.Atomic.meaning (arc_value c.self.inside.network) c.self.inside.until c.self.inside.gvt c.self.inside.processes.items c.self.inside.mail.boxes c.self.inside.columns.items c.args.receiver c.args.place (sym c.take.ensures.item ∙ c.in_default.is)) in
    record {
      done = search rules;
      answer = search rules;
      refused = refused_is;
      exact = exact_known g.M.Atomic.meaning (Deliver c.args.receiver c.args.place) c.args.self.now refused.NoSuch theory.NoSuch refl refused_is;
      full = search rules;
      stays = search rules;
    }

pub returns-in-Ok-clause-acted : goal.returns-in-Ok-clause-acted
returns-in-Ok-clause-acted g c =
    let answer_is = ap (λ e. answer g.M.Atomic.meaning (Deliver c.args.receiver c.args.place) e) (sym c.self.view_is) ∙ ap (λ x. x.0) (acted g c).acts in
    record {
      done = ap (λ x. record { network = arc_value c.self.inside.network; until = c.self.inside.until; world = x.1 }) (sym (acted g c).acts) ∙ ap (λ e. after g.M.Atomic.meaning (Deliver c.args.receiver c.args.place) e) c.self.view_is;
      answer = answer_is;
      refused = search rules;
      exact = exact_taken g.M.Atomic.meaning (Deliver c.args.receiver c.args.place) c.args.self.now (done.Received c.in-Ok.came) answer_is;
      full = search rules;
      stays = search rules;
    }

pub returns-in-Err-clause-acted : goal.returns-in-Err-clause-acted
returns-in-Err-clause-acted g c =
    let ps = c.self.inside.processes in
    let old = c.index_mut.result.now in
    let at = slice_get_read ps.items _ c.args.receiver old ps.ok.0 (omega (arith, c.if-receiver-len.false, c.len.ensures, c.self.inside.processes.ok.0)) c.index_mut.ensures.value in
    record {
      done = search rules;
      answer = search rules;
      refused = search rules;
      exact = subst (λ r. AreExact g.M.Atomic.meaning (Deliver c.args.receiver c.args.place) c.args.self.now (Err r)) (sym c.into.ensures)
          (subst (λ e. AreExact g.M.Atomic.meaning (Deliver c.args.receiver c.args.place) e (Err (of_pool c.in-Err.refused))) c.self.view_is
          (deliver_exact c.self.invariant.0 (of_pool c.in-Err.refused) (none_of_pool c.in-Err.refused) c.args.receiver c.args.place old c.in-Some.item at (sym c.take.ensures.item ∙ c.in-Some.is)));
      full = let wants = deliver_wants c.self.invariant.0 c.args.receiver c.args.place old c.in-Some.item c.in-Err.refused at (sym c.take.ensures.item ∙ c.in-Some.is)
          (λ e. c.receive.ensures.limit.1 (c.in-Err.is ∙ (λ i. Err (c.in-Err.ensures.handed_back i, e i)))) in
          subst (λ r. IsWanting g.M.Atomic.meaning (Deliver c.args.receiver c.args.place) c.args.self.now r) (sym c.into.ensures)
          (subst (λ e. IsWanting g.M.Atomic.meaning (Deliver c.args.receiver c.args.place) e (of_pool c.in-Err.refused)) c.self.view_is wants);
      stays = ap (λ m. record { network = arc_value c.self.inside.network; until = c.self.inside.until; world = shown (slice_set c.self.inside.processes.items c.args.receiver c.receive.new.process) m c.self.inside.columns.items c.self.inside.gvt }) (same_boxes g c)
          ∙ ap (λ w. record { network = arc_value c.self.inside.network; until = c.self.inside.until; world = w }) (same_world c.self.invariant.0 c.args.receiver old c.receive.new.process at c.in-Err.ensures.stays) ∙ c.self.view_is;
    }

pub returns-in-Ok-clause-limit : goal.returns-in-Ok-clause-limit
returns-in-Ok-clause-limit g c =
    let ps = c.self.inside.processes in
    let old = c.index_mut.result.now in
    let at = slice_get_read ps.items _ c.args.receiver old ps.ok.0 (omega (arith, c.if-receiver-len.false, c.len.ensures, c.self.inside.processes.ok.0)) c.index_mut.ensures.value in
    let refused : WantsRoom g.M.Atomic.meaning (Deliver c.args.receiver c.args.place) c.args.self.now → c.receive.result ≡ Err (c.in-Some.item, full) =
    λ wants. c.receive.ensures.limit.0 (wanted c.self.invariant.0 c.args.receiver c.args.place old c.in-Some.item at (sym c.take.ensures.item ∙ c.in-Some.is) (subst (WantsRoom g.M.Atomic.meaning (Deliver c.args.receiver c.args.place)) (sym c.self.view_is) wants)) in
    (λ wants. absurd (ok_err (sym c.in-Ok.is ∙ refused wants)), λ is. absurd (ok_err is))

pub returns-in-Err-clause-limit : goal.returns-in-Err-clause-limit
returns-in-Err-clause-limit g c =
    let ps = c.self.inside.processes in
    let old = c.index_mut.result.now in
    let at = slice_get_read ps.items _ c.args.receiver old ps.ok.0 (omega (arith, c.if-receiver-len.false, c.len.ensures, c.self.inside.processes.ok.0)) c.index_mut.ensures.value in
    let refused : WantsRoom g.M.Atomic.meaning (Deliver c.args.receiver c.args.place) c.args.self.now → c.receive.result ≡ Err (c.in-Some.item, full) =
    λ wants. c.receive.ensures.limit.0 (wanted c.self.invariant.0 c.args.receiver c.args.place old c.in-Some.item at (sym c.take.ensures.item ∙ c.in-Some.is) (subst (WantsRoom g.M.Atomic.meaning (Deliver c.args.receiver c.args.place)) (sym c.self.view_is) wants)) in (
      λ wants. ap Err (c.into.ensures ∙ ap of_pool (ap (λ x. x.1) (same_Err _ _ (sym c.in-Err.is ∙ refused wants)))),
      λ is. subst (IsWanting g.M.Atomic.meaning (Deliver c.args.receiver c.args.place) c.args.self.now) (same_Err _ _ is) (returns-in-Err-clause-acted g c).full,
    )

pub take-requires : goal.take-requires
take-requires g c = omega (arith, c.if-receiver-len.false, c.len.ensures, c.self.inside.processes.ok.0, as_many_boxes c.self.invariant.0)
