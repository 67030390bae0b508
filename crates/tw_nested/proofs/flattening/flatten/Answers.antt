use Rattle.std.proofs.Common.{◌<◌, map, sym, ap, ◌∙◌, subst}
use Rattle.std.specs.List.{All}
use Rattle.tw_nested.specs.Tree.{parts_of}
use Rattle.tw_nested.specs.Taken.{model_of}
use Rattle.tw_nested.specs.Whole.{AreTooMany}
use Rattle.tw_nested.specs.Paths.{IsModel}
use Rattle.tw_nested.proofs.Numbers.{models_sound, atoms_below}
use Rattle.tw_nested.proofs.Flattened.{are_apart, couplings_from, too_many_from, passed_on}
use Rattle.tw_nested.proofs.flattening.flatten.Goals as goal

pub edges-requires-clause-models : goal.edges-requires-clause-models
edges-requires-clause-models g c =
    let e = ap (map model_of) c.as_slice.ensures.value ∙ (rw c.new-4.ensures.items at c.in_ok-take.ensures.taken.coupled) in
    subst (All (IsModel c.take.new.tables.count)) (sym e) (models_sound (parts_of c.args.nested.parts.items) c.args.nested.couplings.items c.take.new.tables.count c.in_ok-take.ensures.taken.count c.requires.linked)

pub flat_couplings-requires-clause-atoms : goal.flat_couplings-requires-clause-atoms
flat_couplings-requires-clause-atoms g c =
    let e = c.as_slice-3.ensures.value ∙ (rw c.new-3.ensures.items at c.in_ok-take.ensures.taken.atoms) in
    subst (All (λ n. n < c.take.new.tables.count)) (sym e) (atoms_below (parts_of c.args.nested.parts.items) c.take.new.tables.count c.in_ok-take.ensures.taken.count)

pub returns-in_err-couplings-clause-too_many : goal.returns-in_err-couplings-clause-too_many
returns-in_err-couplings-clause-too_many g c =
    let e = ap (map model_of) c.as_slice.ensures.value ∙ (rw c.new-4.ensures.items at c.in_ok-take.ensures.taken.coupled) in
    let a = c.as_slice-3.ensures.value ∙ (rw c.new-3.ensures.items at c.in_ok-take.ensures.taken.atoms) in
    passed_on (AreTooMany (parts_of c.args.nested.parts.items) c.args.nested.couplings.items) c.from_residual-in_err-couplings.result c.in_err-couplings.field-0.0 c.from_residual-in_err-couplings.ensures.1
    (λ ne. too_many_from (parts_of c.args.nested.parts.items) c.args.nested.couplings.items c.take.new.tables.count c.in_ok-take.ensures.taken.count c.requires.linked
    (map model_of c.as_slice.result.now) c.in_ok-edges.edges.items c.as_slice-2.result.now c.as_slice-3.result.now e a c.as_slice-2.ensures.value c.in_ok-edges.ensures (c.in_err-couplings.ensures.err ne))

pub returns-clause-couplings : goal.returns-clause-couplings
returns-clause-couplings g c =
    let e = ap (map model_of) c.as_slice.ensures.value ∙ (rw c.new-4.ensures.items at c.in_ok-take.ensures.taken.coupled) in
    let a = c.as_slice-3.ensures.value ∙ (rw c.new-3.ensures.items at c.in_ok-take.ensures.taken.atoms) in
    couplings_from (parts_of c.args.nested.parts.items) c.args.nested.couplings.items c.take.new.tables.count c.in_ok-take.ensures.taken.count c.requires.linked
    (map model_of c.as_slice.result.now) c.in_ok-edges.edges.items c.as_slice-2.result.now c.as_slice-3.result.now e a c.as_slice-2.ensures.value c.in_ok-edges.ensures c.in_ok-couplings.couplings.items c.in_ok-couplings.ensures.ok

pub returns-clause-apart : goal.returns-clause-apart
returns-clause-apart g c =
    let e = ap (map model_of) c.as_slice.ensures.value ∙ (rw c.new-4.ensures.items at c.in_ok-take.ensures.taken.coupled) in
    let a = c.as_slice-3.ensures.value ∙ (rw c.new-3.ensures.items at c.in_ok-take.ensures.taken.atoms) in
    are_apart (parts_of c.args.nested.parts.items) c.args.nested.couplings.items c.requires.linked c.in_ok-couplings.couplings.items
    (couplings_from (parts_of c.args.nested.parts.items) c.args.nested.couplings.items c.take.new.tables.count c.in_ok-take.ensures.taken.count c.requires.linked
    (map model_of c.as_slice.result.now) c.in_ok-edges.edges.items c.as_slice-2.result.now c.as_slice-3.result.now e a c.as_slice-2.ensures.value c.in_ok-edges.ensures c.in_ok-couplings.couplings.items c.in_ok-couplings.ensures.ok)
