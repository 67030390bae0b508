use Rattle.std.proofs.Common.{sym, ◌∙◌}
use Rattle.tw_network.proofs.FirstFault.{passed_on, after_none, at_some}
use Rattle.tw_network.proofs.NoFaults.{all_couplings}
use Rattle.tw_network.proofs.checks.checked_routes.Goals as goal

pub returns-in_err-check_couplings-clause-err : goal.returns-in_err-check_couplings-clause-err
returns-in_err-check_couplings-clause-err c =
    passed_on c.from_residual.result c.in_err-check_couplings.field-0.0 _ c.from_residual.ensures.1
    (λ ne. at_some _ _ c.in_err-check_couplings.field-0.0 (c.in_err-check_couplings.ensures.err ne))

pub returns-in_err-check_inputs-clause-err : goal.returns-in_err-check_inputs-clause-err
returns-in_err-check_inputs-clause-err c =
    passed_on c.from_residual-in_err-check_inputs.result c.in_err-check_inputs.field-0.0 _ c.from_residual-in_err-check_inputs.ensures.1
    (λ ne. after_none _ _ (sym c.in_ok-check_couplings.ensures.ok) ∙ sym c.in_err-check_inputs.ensures)

pub new-requires-clause-couplings : goal.new-requires-clause-couplings
new-requires-clause-couplings c = all_couplings c.args.count c.args.couplings.now c.in_ok-check_couplings.ensures.ok
