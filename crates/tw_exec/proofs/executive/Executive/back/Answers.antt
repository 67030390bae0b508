use Rattle.std.proofs.Common.{refl, ap, sym, subst, ◌∙◌, arith, rules}
use Rattle.std.specs.Arc.{arc_value}
use Rattle.std.specs.Prelude.{slice_set, Ok}
use Rattle.std.proofs.lemmas.Option.{slice_get_read}
use Rattle.tw_exec.specs.Running.{answer, after}
use Rattle.tw_exec.proofs.Acts.{back_early, back_none}
use Rattle.std.proofs.lemmas.Map.Keys.{ge_from_not_lt}
use Rattle.tw_vtime.proofs.Comparing.{lt_from_is_lt}
use Rattle.tw_exec.proofs.Kept.{IsActed, back_acted}
use Rattle.tw_theory.specs.Executive.{Back, Undone}
use Rattle.tw_exec.proofs.Exactly.{exact_known, exact_taken}
use Rattle.tw_exec.specs.declared.refused.Refused.TheVariants as refused
use Rattle.tw_theory.specs.Executive as theory
use Rattle.tw_actions.specs.declared.action.Done.TheVariants as done
use Rattle.tw_exec.proofs.executive.Executive.back.Given.{Over}
use Rattle.tw_exec.proofs.Reasons.{is_known}
use Rattle.tw_exec.proofs.executive.Executive.back.Goals as goal

acted : (g : Over) (c : goal.After-self-1 g) → IsActed g.M.Atomic.meaning (arc_value c.self.inside.network) c.self.inside.until c.self.inside.end c.self.inside.gvt c.self.inside.gvt c.self.inside.processes.items (slice_set c.self.inside.processes.items c.args.component c.back_to-undone.new.process) c.self.inside.mail.boxes c.self.inside.mail.boxes c.self.inside.columns.items c.self.inside.columns.items (Back c.args.component c.args.stamp) (Ok (Undone c.back_to-undone.result))
acted g c =
    let ps = c.self.inside.processes in
    let old = c.index_mut.result.now in
    let at = slice_get_read ps.items _ c.args.component old ps.ok.0 (omega (arith, c.if-component-len.false, c.len.ensures, c.self.inside.processes.ok.0)) c.index_mut.ensures.value in
    let done = back_acted c.self.invariant.0 c.args.component c.args.stamp old c.back_to-undone.new.process at (ge_from_not_lt c.args.stamp c.self.inside.gvt (sym c.if-lt.ensures)) c.back_to-undone.ensures.cut in
    subst (λ k. IsActed g.M.Atomic.meaning (arc_value c.self.inside.network) c.self.inside.until c.self.inside.end c.self.inside.gvt c.self.inside.gvt c.self.inside.processes.items (slice_set c.self.inside.processes.items c.args.component c.back_to-undone.new.process) c.self.inside.mail.boxes c.self.inside.mail.boxes c.self.inside.columns.items c.self.inside.columns.items (Back c.args.component c.args.stamp) (Ok (Undone k))) (sym c.back_to-undone.ensures.count) done

pub invariant_of-self : goal.invariant_of-self
invariant_of-self g c = ((acted g c).held, c.self.invariant.1)

pub returns-then-component-len-clause-acted : goal.returns-then-component-len-clause-acted
returns-then-component-len-clause-acted g c =
    let refused_is = ap (λ e. answer g.M.Atomic.meaning (Back c.args.component c.args.stamp) e) (sym c.self.view_is)
    ∙ ap (λ x. x.0) (back_none g.M.Atomic.meaning (arc_value c.self.inside.network) c.self.inside.until c.self.inside.gvt c.self.inside.processes.items c.self.inside.mail.boxes c.self.inside.columns.items c.args.component c.args.stamp (omega (arith, c.if-component-len.true, c.len.ensures, c.self.inside.processes.ok.0))) in
    record {
      done = search rules;
      answer = search rules;
      refused = refused_is;
      exact = exact_known g.M.Atomic.meaning (Back c.args.component c.args.stamp) c.args.self.now refused.NoSuch theory.NoSuch refl refused_is;
      full = search rules;
      stays = search rules;
    }

pub returns-then-lt-clause-acted : goal.returns-then-lt-clause-acted
returns-then-lt-clause-acted g c =
    let refused_is = ap (λ e. answer g.M.Atomic.meaning (Back c.args.component c.args.stamp) e) (sym c.self.view_is)
    ∙ ap (λ x. x.0) (back_early g.M.Atomic.meaning (arc_value c.self.inside.network) c.self.inside.until c.self.inside.gvt c.self.inside.processes.items c.self.inside.mail.boxes c.self.inside.columns.items c.args.component c.args.stamp (omega (arith, c.if-component-len.false, c.len.ensures, c.self.inside.processes.ok.0)) (lt_from_is_lt c.args.stamp c.self.inside.gvt (sym c.if-lt.ensures))) in
    record {
      done = search rules;
      answer = search rules;
      refused = refused_is;
      exact = exact_known g.M.Atomic.meaning (Back c.args.component c.args.stamp) c.args.self.now refused.BeforeGvt theory.BeforeGvt refl refused_is;
      full = search rules;
      stays = search rules;
    }

pub returns-clause-acted : goal.returns-clause-acted
returns-clause-acted g c =
    let answer_is = ap (λ e. answer g.M.Atomic.meaning (Back c.args.component c.args.stamp) e) (sym c.self.view_is) ∙ ap (λ x. x.0) (acted g c).acts in
    record {
      done = ap (λ x. record { network = arc_value c.self.inside.network; until = c.self.inside.until; world = x.1 }) (sym (acted g c).acts) ∙ ap (λ e. after g.M.Atomic.meaning (Back c.args.component c.args.stamp) e) c.self.view_is;
      answer = answer_is;
      refused = search rules;
      exact = exact_taken g.M.Atomic.meaning (Back c.args.component c.args.stamp) c.args.self.now (done.Undone c.back_to-undone.result) answer_is;
      full = search rules;
      stays = search rules;
    }

pub returns-then-component-len-clause-known : goal.returns-then-component-len-clause-known
returns-then-component-len-clause-known g c = is_known _

pub returns-then-lt-clause-known : goal.returns-then-lt-clause-known
returns-then-lt-clause-known g c = is_known _
