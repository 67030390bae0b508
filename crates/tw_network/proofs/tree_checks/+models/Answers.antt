use Rattle.std.proofs.Common.{◌≡◌, ◌≢◌, ap, sym, subst, ◌∙◌, ◌+◌, drop, arith, None, Some}
use Rattle.std.proofs.lemmas.List.{at_drop_all}
use Rattle.std.specs.Result.{IfErr, OnOk}
use Rattle.std.specs.Option.{option_or}
use Rattle.tw_nested.specs.Tree.{parts_of}
use Rattle.tw_network.specs.TreeFaults.{inner_fault}
use Rattle.tw_network.proofs.FirstFault.{passed_on}
use Rattle.tw_network.proofs.TreeFaulting.{inner_at, inner_atom, inner_coupled}
use Rattle.tw_network.specs.declared.refused.NetworkRefused.TheVariants.{OutOfMemory}
use Rattle.tw_network.proofs.tree_checks.+models.Goals as goal

pub check_inner-loop-part-preserved : goal.check_inner-loop-part-preserved
check_inner-loop-part-preserved g t c =
    c.loop-part.invariant
    ∙ inner_at g.M.Atomic.meaning c.args.nested.now.parts.items c.deref-part-items.result.now c.loop-part.part-index c.loop-part-item.result c.deref-part-items.ensures.value c.loop-part-test.true c.loop-part-item.is
    ∙ ap (λ o. option_or o (inner_fault g.M.Atomic.meaning (parts_of (drop (c.loop-part.part-index + 1) c.args.nested.now.parts.items)))) c.in_ok-check_part.ensures.ok

pub check_inner-returns-in_err-check_part-clause-err : goal.check_inner-returns-in_err-check_part-clause-err
check_inner-returns-in_err-check_part-clause-err g t c =
    passed_on c.from_residual.result c.in_err-check_part.field-0.0 _ c.from_residual.ensures.1
    (λ ne. c.loop-part.invariant
    ∙ inner_at g.M.Atomic.meaning c.args.nested.now.parts.items c.deref-part-items.result.now c.loop-part.part-index c.loop-part-item.result c.deref-part-items.ensures.value c.loop-part-test.true c.loop-part-item.is
    ∙ ap (λ o. option_or o (inner_fault g.M.Atomic.meaning (parts_of (drop (c.loop-part.part-index + 1) c.args.nested.now.parts.items)))) (c.in_err-check_part.ensures.err ne))

pub check_inner-returns-clause-ok : goal.check_inner-returns-clause-ok
check_inner-returns-clause-ok g t c =
    c.loop-part.invariant ∙ at_drop_all (λ ps. inner_fault g.M.Atomic.meaning (parts_of ps)) c.args.nested.now.parts.items c.loop-part.part-index (omega arith)

pub check_part-returns-in-Atom-clause-ok : goal.check_part-returns-in-Atom-clause-ok
check_part-returns-in-Atom-clause-ok g t c = inner_atom g.M.Atomic.meaning c.args.part.now c.in-Atom.field-0 c.in-Atom.is

pub check_part-returns-in_err-check_own-in-Coupled-clause-err : goal.check_part-returns-in_err-check_own-in-Coupled-clause-err
check_part-returns-in_err-check_own-in-Coupled-clause-err g t c =
    passed_on c.from_residual.result c.in_err-check_own-in-Coupled.field-0.0 _ c.from_residual.ensures.1
    (λ ne. inner_coupled g.M.Atomic.meaning c.args.part.now c.in-Coupled.inner c.in-Coupled.is
    ∙ ap (λ o. option_or o (inner_fault g.M.Atomic.meaning (parts_of c.in-Coupled.inner.parts.items))) (c.in_err-check_own-in-Coupled.ensures.err ne))

pub check_part-returns-in_ok-check_own-in-Coupled-clause-ok : goal.check_part-returns-in_ok-check_own-in-Coupled-clause-ok
check_part-returns-in_ok-check_own-in-Coupled-clause-ok g t c =
    subst (λ o. OnOk c.check_inner.result (o ≡ None))
    (sym (inner_coupled g.M.Atomic.meaning c.args.part.now c.in-Coupled.inner c.in-Coupled.is
    ∙ ap (λ o. option_or o (inner_fault g.M.Atomic.meaning (parts_of c.in-Coupled.inner.parts.items))) c.in_ok-check_own-in-Coupled.ensures.ok))
    c.check_inner.ensures.ok

pub check_part-returns-in_ok-check_own-in-Coupled-clause-err : goal.check_part-returns-in_ok-check_own-in-Coupled-clause-err
check_part-returns-in_ok-check_own-in-Coupled-clause-err g t c =
    subst (λ o. IfErr c.check_inner.result (λ e. e ≢ OutOfMemory → o ≡ Some e))
    (sym (inner_coupled g.M.Atomic.meaning c.args.part.now c.in-Coupled.inner c.in-Coupled.is
    ∙ ap (λ o. option_or o (inner_fault g.M.Atomic.meaning (parts_of c.in-Coupled.inner.parts.items))) c.in_ok-check_own-in-Coupled.ensures.ok))
    c.check_inner.ensures.err
