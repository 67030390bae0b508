use Rattle.std.proofs.Common.{sym, ap, ◌∙◌, ◌+◌, drop, map, string_bytes, None, Some}
use Rattle.tw_nested.specs.Tree.{parts_of}
use Rattle.tw_network.specs.TreeFaults.{parts_fault}
use Rattle.tw_network.proofs.FirstFault.{passed_on}
use Rattle.tw_network.proofs.TreeFaulting.{first_part, no_part}
use Rattle.tw_network.proofs.tree_checks.check_parts.Goals as goal

pub returns-in_err-take_part-clause-err : goal.returns-in_err-take_part-clause-err
returns-in_err-take_part-clause-err g c =
    passed_on c.from_residual.result c.in_err-take_part.field-0.0 _ c.from_residual.ensures.1
    (λ ne. c.loop-name.invariant ∙ first_part g.M.Atomic.meaning (map string_bytes c.loop-name.names.keys) c.args.parts.now c.loop-name.name-index c.loop-name-item.result c.loop-name-test.true c.loop-name-item.is c.as_str.result.now c.as_str.ensures.value (Some c.in_err-take_part.field-0.0) (c.in_err-take_part.ensures.err ne))

pub loop-name-preserved : goal.loop-name-preserved
loop-name-preserved g c =
    c.loop-name.invariant ∙ first_part g.M.Atomic.meaning (map string_bytes c.loop-name.names.keys) c.args.parts.now c.loop-name.name-index c.loop-name-item.result c.loop-name-test.true c.loop-name-item.is c.as_str.result.now c.as_str.ensures.value None c.in_ok-take_part.ensures.ok
    ∙ ap (λ ns. parts_fault g.M.Atomic.meaning ns (parts_of (drop (c.loop-name.name-index + 1) c.args.parts.now))) (sym c.in_ok-take_part.ensures.names)

pub returns-clause-ok : goal.returns-clause-ok
returns-clause-ok g c = c.loop-name.invariant ∙ no_part g.M.Atomic.meaning (map string_bytes c.loop-name.names.keys) c.args.parts.now c.loop-name.name-index c.loop-name-test.false
