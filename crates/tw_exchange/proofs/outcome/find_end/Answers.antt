use Rattle.std.proofs.Common.{◌≡◌, ap, sym, subst, ◌∙◌}
use Rattle.std.proofs.lemmas.Bool.{true≢false}
use Rattle.tw_exchange.proofs.Ended.{not_over}
use Rattle.tw_exchange.specs.Ends.{IsOver}
use Rattle.tw_exchange.proofs.outcome.find_end.Goals as goal

pub returns-else-is_over-clause-none : goal.returns-else-is_over-clause-none
returns-else-is_over-clause-none g c = λ none.
    let m = g.M.Atomic.meaning in
    let e = c.args.exchange.now.executive in
    let here : c.executive.result.now ≡ e = c.executive.ensures.executive ∙ ap (λ x. x.executive) c.state.ensures.stays in
    not_over m e c.in_ok-state.state c.in_ok-state.ensures.state
    (λ over. absurd (true≢false (sym (c.is_over.ensures.1 (subst (λ x. IsOver m x c.in_ok-state.state) (sym here) over)) ∙ c.if-is_over.false)))
