use Rattle.std.proofs.Common.{◌++◌, ◌∷◌, [], map, string_bytes, sym, ap, ◌∙◌}
use Rattle.std.proofs.lemmas.List.{map-append}
use Rattle.tw_network.proofs.FirstFault.{passed_on}
use Rattle.tw_network.proofs.TreeFaulting.{named_alone, atom_alone, coupled_alone, on_ok, if_err}
use Rattle.tw_network.proofs.tree_checks.take_part.Goals as goal

pub returns-in_err-take_part_name-clause-err : goal.returns-in_err-take_part_name-clause-err
returns-in_err-take_part_name-clause-err g c =
    passed_on c.from_residual-in_err-take_part_name.result c.in_err-take_part_name.field-0.0 _ c.from_residual-in_err-take_part_name.ensures.1
    (λ ne. named_alone g.M.Atomic.meaning (map string_bytes c.args.names.now.keys) c.args.part.now c.args.name.now c.in_err-take_part_name.field-0.0
    (rw c.in_ok-from_str.ensures.ok at c.in_err-take_part_name.ensures.err ne))

pub returns-in-Atom-clause-names : goal.returns-in-Atom-clause-names
returns-in-Atom-clause-names g c =
    on_ok c.check_start.result
    (λ e. ap (map string_bytes) c.in_ok-take_part_name.ensures.names ∙ map-append string_bytes c.args.names.now.keys (c.in_ok-from_str.field-0 ∷ []) ∙ ap (λ t. (map string_bytes c.args.names.now.keys) ++ t ∷ []) c.in_ok-from_str.ensures.ok)
    c.check_start.ensures.ok

pub returns-in-Atom-clause-ok : goal.returns-in-Atom-clause-ok
returns-in-Atom-clause-ok g c =
    on_ok c.check_start.result (λ e. atom_alone g.M.Atomic.meaning (map string_bytes c.args.names.now.keys) c.args.part.now c.args.name.now _ c.in-Atom.is (rw c.in_ok-from_str.ensures.ok at c.in_ok-take_part_name.ensures.ok) ∙ e) c.check_start.ensures.ok

pub returns-in-Atom-clause-err : goal.returns-in-Atom-clause-err
returns-in-Atom-clause-err g c =
    if_err c.check_start.result (sym (atom_alone g.M.Atomic.meaning (map string_bytes c.args.names.now.keys) c.args.part.now c.args.name.now _ c.in-Atom.is (rw c.in_ok-from_str.ensures.ok at c.in_ok-take_part_name.ensures.ok))) c.check_start.ensures.err

pub returns-in-Coupled-clause-names : goal.returns-in-Coupled-clause-names
returns-in-Coupled-clause-names g c =
    ap (map string_bytes) c.in_ok-take_part_name.ensures.names ∙ map-append string_bytes c.args.names.now.keys (c.in_ok-from_str.field-0 ∷ []) ∙ ap (λ t. (map string_bytes c.args.names.now.keys) ++ t ∷ []) c.in_ok-from_str.ensures.ok

pub returns-in-Coupled-clause-ok : goal.returns-in-Coupled-clause-ok
returns-in-Coupled-clause-ok g c = coupled_alone g.M.Atomic.meaning (map string_bytes c.args.names.now.keys) c.args.part.now c.args.name.now _ c.in-Coupled.is (rw c.in_ok-from_str.ensures.ok at c.in_ok-take_part_name.ensures.ok)
