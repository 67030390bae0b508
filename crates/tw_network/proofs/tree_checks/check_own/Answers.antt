use Rattle.std.proofs.Common.{◌≡◌, sym, ◌∙◌, []}
use Rattle.tw_nested.specs.Tree.{parts_of, part_count}
use Rattle.tw_network.specs.TreeFaults.{links_fault, parts_fault, own_fault}
use Rattle.tw_network.proofs.TreeFaulting.{after_first, if_err, on_ok, part_count-length}
use Rattle.tw_network.proofs.tree_checks.check_own.Given.{Over}
use Rattle.tw_network.proofs.tree_checks.check_own.Goals as goal

-- the couplings' fault is the model's, where its parts have none
is : (g : Over) (c : goal.After-check_links g) → links_fault c.args.is_root c.len.result c.as_slice-2.result.now ≡ own_fault g.M.Atomic.meaning c.args.is_root (parts_of c.args.nested.now.parts.items) c.args.nested.now.couplings.items
is g c =
    let count : c.len.result ≡ part_count (parts_of c.args.nested.now.parts.items) = c.len.ensures ∙ c.args.nested.now.parts.ok.0 ∙ sym (part_count-length c.args.nested.now.parts.items) in
    (λ i. links_fault c.args.is_root (count i) (c.as_slice-2.ensures.value i))
    ∙ after_first (parts_fault g.M.Atomic.meaning [] (parts_of c.args.nested.now.parts.items)) _ (rw c.as_slice.ensures.value at c.in_ok-check_parts.ensures.ok)

pub returns-clause-ok : goal.returns-clause-ok
returns-clause-ok g c = on_ok c.check_links.result (λ e. sym (is g c) ∙ e) c.check_links.ensures.ok

pub returns-clause-err : goal.returns-clause-err
returns-clause-err g c = if_err c.check_links.result (is g c) c.check_links.ensures.err
