use Rattle.std.proofs.Common.{◌∙◌}
use Rattle.tw_network.specs.TreeFaults.{link_fault}
use Rattle.tw_network.proofs.FirstFault.{passed_on}
use Rattle.tw_network.proofs.FirstOf.{all_none, next_none, next_seen, next_some}
use Rattle.tw_network.proofs.tree_checks.check_links.Goals as goal

pub loop-link-preserved : goal.loop-link-preserved
loop-link-preserved c = (
  c.in_ok-take_link.ensures.seen ∙ next_seen (link_fault c.args.is_root c.args.count) c.args.links.now c.loop-link.link-index _ c.loop-link-test.true c.loop-link.seen.keys c.loop-link.invariant.0,
  next_none (link_fault c.args.is_root c.args.count) c.args.links.now c.loop-link.link-index _ c.loop-link-test.true c.loop-link.seen.keys c.loop-link.invariant.0 c.loop-link.invariant.1 c.in_ok-take_link.ensures.ok,
)

pub returns-in_err-take_link-clause-err : goal.returns-in_err-take_link-clause-err
returns-in_err-take_link-clause-err c =
    passed_on c.from_residual.result c.in_err-take_link.field-0.0 _ c.from_residual.ensures.1
    (λ ne. next_some (link_fault c.args.is_root c.args.count) c.args.links.now c.loop-link.link-index _ c.loop-link-test.true c.loop-link.seen.keys c.loop-link.invariant.0 c.in_err-take_link.field-0.0 c.loop-link.invariant.1 (c.in_err-take_link.ensures.err ne))

pub returns-clause-ok : goal.returns-clause-ok
returns-clause-ok c = all_none (link_fault c.args.is_root c.args.count) c.args.links.now c.loop-link.link-index c.loop-link-test.false c.loop-link.invariant.1
