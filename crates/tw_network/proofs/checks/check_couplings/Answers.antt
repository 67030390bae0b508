use Rattle.std.proofs.Common.{◌∙◌}
use Rattle.tw_network.specs.Faults.{coupling_fault}
use Rattle.tw_network.proofs.FirstFault.{passed_on}
use Rattle.tw_network.proofs.FirstOf.{all_none, next_none, next_seen, next_some}
use Rattle.tw_network.proofs.checks.check_couplings.Goals as goal

pub loop-coupling-preserved : goal.loop-coupling-preserved
loop-coupling-preserved c = (
  c.in_ok-take_coupling.ensures.seen ∙ next_seen (coupling_fault c.args.count) c.args.couplings.now c.loop-coupling.coupling-index _ c.loop-coupling-test.true c.loop-coupling.seen.keys c.loop-coupling.invariant.0,
  next_none (coupling_fault c.args.count) c.args.couplings.now c.loop-coupling.coupling-index _ c.loop-coupling-test.true c.loop-coupling.seen.keys c.loop-coupling.invariant.0 c.loop-coupling.invariant.1 c.in_ok-take_coupling.ensures.ok,
)

pub returns-in_err-take_coupling-clause-err : goal.returns-in_err-take_coupling-clause-err
returns-in_err-take_coupling-clause-err c =
    passed_on c.from_residual.result c.in_err-take_coupling.field-0.0 _ c.from_residual.ensures.1
    (λ ne. next_some (coupling_fault c.args.count) c.args.couplings.now c.loop-coupling.coupling-index _ c.loop-coupling-test.true c.loop-coupling.seen.keys c.loop-coupling.invariant.0 c.in_err-take_coupling.field-0.0 c.loop-coupling.invariant.1 (c.in_err-take_coupling.ensures.err ne))

pub returns-clause-ok : goal.returns-clause-ok
returns-clause-ok c = all_none (coupling_fault c.args.count) c.args.couplings.now c.loop-coupling.coupling-index c.loop-coupling-test.false c.loop-coupling.invariant.1
