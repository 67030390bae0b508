use Rattle.std.proofs.Common.{◌<◌, Err, refl, ap, sym, subst, ◌∙◌, arith, length, rules}
use Rattle.std.specs.Arc.{arc_value}
use Rattle.std.specs.List.{AllByRecursion as Each}
use Rattle.std.specs.Prelude.{slice_set, Ok, Err}
use Rattle.std.proofs.lemmas.Option.{slice_get_read}
use Rattle.std.proofs.lemmas.Result.{err_from_is_err_and}
use Rattle.std.proofs.lemmas.Grind.{common_steps}
use Rattle.tw_exec.specs.Running.{AreExact, answer, after}
use Rattle.tw_theory.proofs.Elements.{set_same}
use Rattle.tw_exec.specs.Running.{shown}
use Rattle.tw_process.proofs.Outcomes.{on_err_always}
use Rattle.tw_exec.proofs.Acts.{post_none}
use Rattle.tw_exec.proofs.Kept.{IsActed, all_near, post_acted}
use Rattle.tw_theory.specs.Executive.{Post, Posted, posted}
use Rattle.tw_exec.proofs.Exactly.{exact_known, exact_taken, post_exact}
use Rattle.tw_exec.specs.declared.refused.Refused.TheVariants as refused
use Rattle.tw_theory.specs.Executive as theory
use Rattle.tw_actions.specs.declared.action.Done.TheVariants as done
use Rattle.tw_exec.proofs.executive.Executive.post.Given.{Over}
use Rattle.tw_exec.proofs.executive.Executive.post.Goals as goal

pub post-requires : goal.post-requires
post-requires g c =
    let ps = c.self.inside.processes in
    let old = c.index_mut-process.result.now in
    let at = slice_get_read ps.items _ c.args.component old ps.ok.0 (omega (arith, c.if-component-len.false, c.len.ensures, c.self.inside.processes.ok.0)) c.index_mut-process.ensures.value in
    subst (λ l. Each (λ i. i.message.to < length c.self.inside.mail.boxes) l) (sym (c.as_slice.ensures.value ∙ c.in_ok-items.ensures)) (all_near c.self.invariant.0 c.args.component old at)

acted : (g : Over) (c : goal.After-drop-items-2 g) → IsActed g.M.Atomic.meaning (arc_value c.self.inside.network) c.self.inside.until c.self.inside.end c.self.inside.gvt c.self.inside.gvt c.self.inside.processes.items (slice_set c.self.inside.processes.items c.args.component c.clear_outgoing.new.self) c.self.inside.mail.boxes c.post.new.self.boxes c.self.inside.columns.items c.self.inside.columns.items (Post c.args.component) (Ok (Posted (length c.in_ok-items.items.items)))
acted g c =
    let ps = c.self.inside.processes in
    let old = c.index_mut-process.result.now in
    let at = slice_get_read ps.items _ c.args.component old ps.ok.0 (omega (arith, c.if-component-len.false, c.len.ensures, c.self.inside.processes.ok.0)) c.index_mut-process.ensures.value in
    let mail_is = ap (λ m. m.boxes) c.in_ok-post.ensures.ok ∙ ap (posted c.self.inside.mail.boxes) (c.as_slice.ensures.value ∙ c.in_ok-items.ensures) in
    let done = post_acted c.self.invariant.0 c.args.component old c.settle.new.self c.clear_outgoing.new.self c.post.new.self.boxes at c.settle.ensures c.clear_outgoing.ensures mail_is in
    subst (λ l. IsActed g.M.Atomic.meaning (arc_value c.self.inside.network) c.self.inside.until c.self.inside.end c.self.inside.gvt c.self.inside.gvt c.self.inside.processes.items (slice_set c.self.inside.processes.items c.args.component c.clear_outgoing.new.self) c.self.inside.mail.boxes c.post.new.self.boxes c.self.inside.columns.items c.self.inside.columns.items (Post c.args.component) (Ok (Posted (length l)))) (sym c.in_ok-items.ensures) done

pub invariant_of-self-2 : goal.invariant_of-self-2
invariant_of-self-2 g c = ((acted g c).held, c.self.invariant.1)

pub returns-then-component-len : goal.returns-then-component-len
returns-then-component-len g c =
    let refused_is = ap (λ e. answer g.M.Atomic.meaning (Post c.args.component) e) (sym c.self.view_is)
    ∙ ap (λ x. x.0) (post_none g.M.Atomic.meaning (arc_value c.self.inside.network) c.self.inside.until c.self.inside.gvt c.self.inside.processes.items c.self.inside.mail.boxes c.self.inside.columns.items c.args.component (omega (arith, c.if-component-len.true, c.len.ensures, c.self.inside.processes.ok.0))) in
    record {
      acted = record {
        done = search rules;
        answer = search rules;
        refused = refused_is;
        exact = exact_known g.M.Atomic.meaning (Post c.args.component) c.args.self.now refused.NoSuch theory.NoSuch refl refused_is;
        full = search rules;
        stays = search rules;
      };
    }

pub returns : goal.returns
returns g c =
    let answer_is = ap (λ e. answer g.M.Atomic.meaning (Post c.args.component) e) (sym c.self.view_is) ∙ ap (λ x. x.0) (acted g c).acts ∙ ap (λ n. Ok (Posted n)) ((sym c.in_ok-items.items.ok.0 ∙ sym c.len-2.ensures)) in
    record {
      acted = record {
        done = ap (λ x. record { network = arc_value c.self.inside.network; until = c.self.inside.until; world = x.1 }) (sym (acted g c).acts) ∙ ap (λ e. after g.M.Atomic.meaning (Post c.args.component) e) c.self.view_is;
        answer = answer_is;
        refused = search rules;
        exact = exact_taken g.M.Atomic.meaning (Post c.args.component) c.args.self.now (done.Posted c.len-2.result) answer_is;
        full = search rules;
        stays = search rules;
      };
    }

pub returns-in_err-items : goal.returns-in_err-items
returns-in_err-items g c =
    let p = err_from_is_err_and c.from_residual.result c.from_residual.ensures.1 in
    record {
      acted = record {
        done = search rules;
        answer = search rules;
        refused = search rules;
        exact = rw (p.1, p.2)
            (subst (λ e. AreExact g.M.Atomic.meaning (Post c.args.component) e (Err refused.OutOfMemory)) c.self.view_is
            (post_exact c.self.invariant.0 refused.OutOfMemory refl c.args.component (omega (arith, c.if-component-len.false, c.len.ensures, c.self.inside.processes.ok.0))));
        full = search rules;
        stays = grind (arith, common_steps);
      };
    }

pub returns-in_err-post : goal.returns-in_err-post
returns-in_err-post g c =
    let p = err_from_is_err_and c.from_residual-in_err-post.result c.from_residual-in_err-post.ensures.1 in
    let f = c.self.inside in
    let ps = f.processes in
    let old = c.index_mut-process.result.now in
    let at = slice_get_read ps.items _ c.args.component old ps.ok.0 (omega (arith, c.if-component-len.false, c.len.ensures, ps.ok.0)) c.index_mut-process.ensures.value in
    record {
      acted = record {
        done = search rules;
        answer = search rules;
        refused = search rules;
        exact = rw (p.1, p.2)
            (subst (λ e. AreExact g.M.Atomic.meaning (Post c.args.component) e (Err refused.OutOfMemory)) c.self.view_is
            (post_exact c.self.invariant.0 refused.OutOfMemory refl c.args.component (omega (arith, c.if-component-len.false, c.len.ensures, c.self.inside.processes.ok.0))));
        full = search rules;
        stays = on_err_always _ c.from_residual-in_err-post.result
            ((λ i. record { network = arc_value f.network; until = f.until; world = shown (set_same ps.items c.args.component old at i) (c.in_err-post.ensures.err i).boxes f.columns.items f.gvt }) ∙ c.self.view_is);
      };
    }
