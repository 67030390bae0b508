use Rattle.std.proofs.Common.{ap, map, min, sym, ◌∙◌, Ok, rules}
use Rattle.std.specs.Arc.{arc_value}
use Rattle.tw_exec.specs.Running.{answer, after}
use Rattle.tw_exec.proofs.Exactly.{exact_taken}
use Rattle.tw_exec.proofs.Kept.{IsActed, raise_acted}
use Rattle.tw_actions.specs.declared.action.Done.TheVariants as done
use Rattle.tw_theory.specs.Executive.{Raise, Raised, least_mail, least_next}
use Rattle.tw_exec.proofs.executive.Executive.raise.Given.{Over}
use Rattle.tw_exec.proofs.executive.Executive.raise.Goals.{After-least_of-gvt}
use Rattle.tw_exec.proofs.executive.Executive.raise.Goals as goal

acted : (g : Over) (c : After-least_of-gvt g) → IsActed g.M.Atomic.meaning (arc_value c.self.inside.network) c.self.inside.until c.self.inside.end c.self.inside.gvt c.least_of-gvt.result c.self.inside.processes.items c.self.inside.processes.items c.self.inside.mail.boxes c.self.inside.mail.boxes c.self.inside.columns.items c.self.inside.columns.items (Raise) (Ok (Raised c.least_of-gvt.result))
acted g c = raise_acted c.self.invariant.0 c.least_of-gvt.result (c.least_of-gvt.ensures ∙ ap (λ l. min (least_next (map (λ p. p.process) l)) (least_mail c.self.inside.mail.boxes)) c.as_slice.ensures.value)

pub invariant_of-self : goal.invariant_of-self
invariant_of-self g c = ((acted g (goal.at.invariant_of-self g c).After-least_of-gvt).held, c.self.invariant.1)

pub returns : goal.returns
returns g c =
    let answer_is = ap (λ e. answer g.M.Atomic.meaning (Raise) e) (sym c.self.view_is) ∙ ap (λ x. x.0) (acted g (goal.at.returns g c).After-least_of-gvt).acts in
    record {
      acted = record {
        done = ap (λ x. record { network = arc_value c.self.inside.network; until = c.self.inside.until; world = x.1 }) (sym (acted g (goal.at.returns g c).After-least_of-gvt).acts) ∙ ap (λ e. after g.M.Atomic.meaning (Raise) e) c.self.view_is;
        answer = answer_is;
        refused = search rules;
        exact = exact_taken g.M.Atomic.meaning Raise c.args.self.now (done.Raised c.least_of-gvt.result) answer_is;
        full = search rules;
        stays = search rules;
      };
    }
