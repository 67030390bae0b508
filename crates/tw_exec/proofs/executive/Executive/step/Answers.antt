use Rattle.std.proofs.Common.{◌≡◌, ◌<◌, ◌≤◌, Err, refl, ap, sym, subst, ◌∙◌, arith, rules}
use Rattle.std.specs.Arc.{arc_value}
use Rattle.std.specs.Prelude.{IfSome, slice_set, Ok, Err}
use Rattle.std.proofs.lemmas.Option.{slice_get_read}
use Rattle.std.proofs.lemmas.Result.{err_from_is_err_and}
use Rattle.std.proofs.lemmas.Grind.{common_steps}
use Rattle.tw_exec.specs.Actions.{reason}
use Rattle.tw_exec.specs.Refusals.{of_step}
use Rattle.tw_exec.specs.Running.{AreExact, IsWanting, answer, after}
use Rattle.tw_exec.proofs.Acts.{step_none}
use Rattle.tw_exec.proofs.Comparing.{ge, not_ge}
use Rattle.tw_exec.proofs.Kept.{IsActed, held_unchanged, late_step, same_world, step_acted, step_refused, step_wants}
use Rattle.tw_theory.specs.Contents.{next}
use Rattle.tw_theory.specs.Executive.{Step, Stepped}
use Rattle.tw_exec.proofs.Exactly.{exact_known, exact_taken, step_exact}
use Rattle.tw_exec.specs.declared.refused.Refused.TheVariants as refused
use Rattle.tw_theory.specs.Executive as theory
use Rattle.tw_actions.specs.declared.action.Done.TheVariants as done
use Rattle.tw_exec.proofs.executive.Executive.step.Given.{Over}
use Rattle.tw_exec.proofs.executive.Executive.step.Goals as goal

pub invariant_of-self-in_err-stamp : goal.invariant_of-self-in_err-stamp
invariant_of-self-in_err-stamp g c =
    let ps = c.self.inside.processes in
    let old = c.index_mut-process.result.now in
    let at = slice_get_read ps.items _ c.args.component old ps.ok.0 (omega (arith, c.if-component-len.false, c.len.ensures, c.self.inside.processes.ok.0)) c.index_mut-process.ensures.value in
    (held_unchanged c.self.invariant.0 c.args.component old c.step.new.self at c.in_err-stamp.ensures.stays, c.self.invariant.1)

acted : (g : Over) (c : goal.In_ok-stamp g) → IsActed g.M.Atomic.meaning (arc_value c.self.inside.network) c.self.inside.until c.self.inside.end c.self.inside.gvt c.self.inside.gvt c.self.inside.processes.items (slice_set c.self.inside.processes.items c.args.component c.step.new.self) c.self.inside.mail.boxes c.self.inside.mail.boxes c.self.inside.columns.items c.self.inside.columns.items (Step c.args.component) (Ok (Stepped c.in_ok-stamp.stamp c.in_ok-stamp.kind))
acted g c =
    let ps = c.self.inside.processes in
    let old = c.index_mut-process.result.now in
    let at = slice_get_read ps.items _ c.args.component old ps.ok.0 (omega (arith, c.if-component-len.false, c.len.ensures, c.self.inside.processes.ok.0)) c.index_mut-process.ensures.value in
    let early : next old.process < c.self.inside.end = omega (arith, not_ge c.next.result c.self.inside.end c.if-ge.ensures, c.next.ensures) in
    step_acted c.self.invariant.0 c.args.component old c.step.new.self c.in_ok-stamp.stamp c.in_ok-stamp.kind at early c.in_ok-stamp.ensures.stepped

pub invariant_of-self-2 : goal.invariant_of-self-2
invariant_of-self-2 g c = ((acted g c).held, c.self.invariant.1)

pub returns-then-component-len : goal.returns-then-component-len
returns-then-component-len g c =
    let refused_is = ap (λ e. answer g.M.Atomic.meaning (Step c.args.component) e) (sym c.self.view_is)
    ∙ ap (λ x. x.0) (step_none g.M.Atomic.meaning (arc_value c.self.inside.network) c.self.inside.until c.self.inside.gvt c.self.inside.processes.items c.self.inside.mail.boxes c.self.inside.columns.items c.args.component (omega (arith, c.if-component-len.true, c.len.ensures, c.self.inside.processes.ok.0))) in
    record {
      acted = record {
        done = search rules;
        answer = search rules;
        refused = refused_is;
        exact = exact_known g.M.Atomic.meaning (Step c.args.component) c.args.self.now refused.NoSuch theory.NoSuch refl refused_is;
        full = search rules;
        stays = search rules;
      };
    }

pub returns-then-ge : goal.returns-then-ge
returns-then-ge g c =
    let ps = c.self.inside.processes in
    let old = c.index_mut-process.result.now in
    let at = slice_get_read ps.items _ c.args.component old ps.ok.0 (omega (arith, c.if-component-len.false, c.len.ensures, c.self.inside.processes.ok.0)) c.index_mut-process.ensures.value in
    let late : c.self.inside.end ≤ next old.process = omega (arith, ge c.next.result c.self.inside.end c.if-ge.ensures, c.next.ensures) in
    let refused_is = ap (λ e. answer g.M.Atomic.meaning (Step c.args.component) e) (sym c.self.view_is) ∙ ap (λ x. x.0) (late_step c.self.invariant.0 c.args.component old at late) in
    record {
      acted = record {
        done = search rules;
        answer = search rules;
        refused = refused_is;
        exact = exact_known g.M.Atomic.meaning (Step c.args.component) c.args.self.now refused.NothingDue theory.NothingDue refl refused_is;
        full = search rules;
        stays = grind (arith, common_steps);
      };
    }

pub returns-in_err-stamp : goal.returns-in_err-stamp
returns-in_err-stamp g c =
    let ps = c.self.inside.processes in
    let old = c.index_mut-process.result.now in
    let at = slice_get_read ps.items _ c.args.component old ps.ok.0 (omega (arith, c.if-component-len.false, c.len.ensures, c.self.inside.processes.ok.0)) c.index_mut-process.ensures.value in
    let early : next old.process < c.self.inside.end = omega (arith, not_ge c.next.result c.self.inside.end c.if-ge.ensures, c.next.ensures) in
    let p = err_from_is_err_and c.from_residual.result c.from_residual.ensures.1 in
    record {
      acted = record {
        done = search rules;
        answer = search rules;
        refused = rw (p.1, p.2)
            (subst (λ e. IfSome (reason (of_step c.in_err-stamp.field-0.0)) (λ why. answer g.M.Atomic.meaning (Step c.args.component) e ≡ Err why)) c.self.view_is
            (step_refused c.self.invariant.0 c.args.component old c.in_err-stamp.field-0.0 at early c.in_err-stamp.ensures.stop));
        exact = rw (p.1, p.2)
            (subst (λ e. AreExact g.M.Atomic.meaning (Step c.args.component) e (Err (of_step c.in_err-stamp.field-0.0))) c.self.view_is
            (step_exact c.self.invariant.0 c.args.component old c.in_err-stamp.field-0.0 at early c.in_err-stamp.ensures.stop));
        full = rw (p.1, p.2)
            (subst (λ e. IsWanting g.M.Atomic.meaning (Step c.args.component) e (of_step c.in_err-stamp.field-0.0)) c.self.view_is
            (step_wants c.self.invariant.0 c.args.component old c.in_err-stamp.field-0.0 at c.in_err-stamp.ensures.stop));
        stays = rw (p.1) (ap (λ w. record { network = arc_value c.self.inside.network; until = c.self.inside.until; world = w }) (same_world c.self.invariant.0 c.args.component old c.step.new.self at c.in_err-stamp.ensures.stays) ∙ c.self.view_is);
      };
    }

pub returns : goal.returns
returns g c =
    let answer_is = ap (λ e. answer g.M.Atomic.meaning (Step c.args.component) e) (sym c.self.view_is) ∙ ap (λ x. x.0) (acted g c).acts in
    record {
      acted = record {
        done = ap (λ x. record { network = arc_value c.self.inside.network; until = c.self.inside.until; world = x.1 }) (sym (acted g c).acts) ∙ ap (λ e. after g.M.Atomic.meaning (Step c.args.component) e) c.self.view_is;
        answer = answer_is;
        refused = search rules;
        exact = exact_taken g.M.Atomic.meaning (Step c.args.component) c.args.self.now (done.Stepped c.in_ok-stamp.stamp c.in_ok-stamp.kind) answer_is;
        full = search rules;
        stays = search rules;
      };
    }
