use Rattle.std.proofs.Common.{length, sym, subst, arith, ◌+◌}
use Rattle.std.proofs.lemmas.Option.{IfSome_then}
use Rattle.tw_nested.specs.Tree.{parts_of}
use Rattle.tw_network.proofs.TreeCounting.{as_atom, as_coupled, atom_fits, counts_on, counts_stop, counted_all, fits_all, fits_inner, if_none, if_none_more, inner_counted, inner_fits, one_level}
use Rattle.tw_network.specs.Counts.{FitsAfter, IsCounted}
use Rattle.tw_network.proofs.counts.+counts.Goals as goal

pub with_model-returns-in_err-counts-clause-too_many : goal.with_model-returns-in_err-counts-clause-too_many
with_model-returns-in_err-counts-clause-too_many g t c =
    if_none c.from_residual.result _
    (counts_stop c.args.room c.args.before c.loop-part.counts (parts_of c.args.nested.now.parts.items) (length c.args.nested.now.couplings.items)
    c.args.nested.now.parts.items c.deref-part-items.result.now c.loop-part.part-index c.loop-part-item.result c.deref-part-items.ensures.value c.loop-part-test.true c.loop-part-item.is c.loop-part.invariant
    c.in_err-counts.ensures.too_many)

pub with_model-loop-part-preserved : goal.with_model-loop-part-preserved
with_model-loop-part-preserved g t c =
    counts_on c.args.room c.args.before c.loop-part.counts (parts_of c.args.nested.now.parts.items) (length c.args.nested.now.couplings.items)
    c.args.nested.now.parts.items c.deref-part-items.result.now c.loop-part.part-index c.loop-part-item.result c.deref-part-items.ensures.value c.loop-part-test.true c.loop-part-item.is c.loop-part.invariant
    c.in_ok-counts.counts c.in_ok-counts.ensures.counted c.in_ok-counts.ensures.fits

pub with_model-returns-clause-counted : goal.with_model-returns-clause-counted
with_model-returns-clause-counted g t c =
    counted_all c.args.room c.args.before c.loop-part.counts (parts_of c.args.nested.now.parts.items) (length c.args.nested.now.couplings.items)
    c.args.nested.now.parts.items c.deref-part-items.result.now c.loop-part.part-index c.deref-part-items.ensures.value c.loop-part-test.false c.loop-part.invariant

pub with_model-returns-clause-fits : goal.with_model-returns-clause-fits
with_model-returns-clause-fits g t c =
    fits_all c.args.room c.args.before c.loop-part.counts (parts_of c.args.nested.now.parts.items) (length c.args.nested.now.couplings.items)
    c.args.nested.now.parts.items c.deref-part-items.result.now c.loop-part.part-index c.deref-part-items.ensures.value c.loop-part-test.false c.loop-part.invariant

-- what the view of a part is, by what the part is
pub with_part-returns-then-room-eq0-clause-too_many : goal.with_part-returns-then-room-eq0-clause-too_many
with_part-returns-then-room-eq0-clause-too_many g t c = λ f.
    let one = one_level c.args.part.now in let levels = f.levels in let none = c.if-room-eq0.true in
    omega (arith, one, levels, none)

pub with_part-returns-then-counts-eq-MAX_COMPONENTS-clause-too_many : goal.with_part-returns-then-counts-eq-MAX_COMPONENTS-clause-too_many
with_part-returns-then-counts-eq-MAX_COMPONENTS-clause-too_many g t c = λ f.
    let full = c.if-counts-eq-MAX_COMPONENTS.true in
    let more = (subst (λ v. FitsAfter c.args.room c.args.before v 0) (as_atom c.args.part.now c.in-Atom.field-0 c.in-Atom.is) f).atoms in
    omega (arith, full, more)

pub with_part-returns-then-counts-eq-MAX_COUPLED-clause-too_many : goal.with_part-returns-then-counts-eq-MAX_COUPLED-clause-too_many
with_part-returns-then-counts-eq-MAX_COUPLED-clause-too_many g t c = λ f.
    let full = c.if-counts-eq-MAX_COUPLED.true in
    let more = (subst (λ v. FitsAfter c.args.room c.args.before v 0) (as_coupled c.args.part.now c.in-Coupled.inner c.in-Coupled.is) f).coupled in
    omega (arith, full, more)

pub with_part-returns-else-counts-eq-MAX_COMPONENTS-clause-counted : goal.with_part-returns-else-counts-eq-MAX_COMPONENTS-clause-counted
with_part-returns-else-counts-eq-MAX_COMPONENTS-clause-counted g t c =
    subst (λ v. IsCounted c.args.before (record { atoms = c.args.before.atoms + 1; coupled = c.args.before.coupled; couplings = c.args.before.couplings }) v 0)
    (sym (as_atom c.args.part.now c.in-Atom.field-0 c.in-Atom.is))
    (record { atoms = omega arith; coupled = omega arith; couplings = omega arith })

pub with_part-returns-else-counts-eq-MAX_COMPONENTS-clause-fits : goal.with_part-returns-else-counts-eq-MAX_COMPONENTS-clause-fits
with_part-returns-else-counts-eq-MAX_COMPONENTS-clause-fits g t c =
    subst (λ v. FitsAfter c.args.room c.args.before v 0)
    (sym (as_atom c.args.part.now c.in-Atom.field-0 c.in-Atom.is))
    (atom_fits c.args.room c.args.before c.requires.few c.if-room-eq0.false c.in-Atom.field-0 c.if-counts-eq-MAX_COMPONENTS.false)

pub with_part-returns-else-counts-eq-MAX_COUPLED-clause-counted : goal.with_part-returns-else-counts-eq-MAX_COUPLED-clause-counted
with_part-returns-else-counts-eq-MAX_COUPLED-clause-counted g t c =
    IfSome_then c.with_model.result c.with_model.ensures.counted
    (λ after m. subst (λ v. IsCounted c.args.before after v 0) (sym (as_coupled c.args.part.now c.in-Coupled.inner c.in-Coupled.is))
    (inner_counted c.args.before after (parts_of c.in-Coupled.inner.parts.items) c.in-Coupled.inner.couplings.items m))

pub with_part-returns-else-counts-eq-MAX_COUPLED-clause-fits : goal.with_part-returns-else-counts-eq-MAX_COUPLED-clause-fits
with_part-returns-else-counts-eq-MAX_COUPLED-clause-fits g t c =
    IfSome_then c.with_model.result c.with_model.ensures.fits
    (λ after f. subst (λ v. FitsAfter c.args.room c.args.before v 0) (sym (as_coupled c.args.part.now c.in-Coupled.inner c.in-Coupled.is))
    (inner_fits c.args.room c.args.before c.requires.few c.if-room-eq0.false (parts_of c.in-Coupled.inner.parts.items) c.in-Coupled.inner.couplings.items f))

pub with_part-returns-else-counts-eq-MAX_COUPLED-clause-too_many : goal.with_part-returns-else-counts-eq-MAX_COUPLED-clause-too_many
with_part-returns-else-counts-eq-MAX_COUPLED-clause-too_many g t c =
    if_none_more c.with_model.result
    (λ not f. not (fits_inner c.args.room c.args.before c.requires.few c.if-room-eq0.false (parts_of c.in-Coupled.inner.parts.items) c.in-Coupled.inner.couplings.items
    (subst (λ v. FitsAfter c.args.room c.args.before v 0) (as_coupled c.args.part.now c.in-Coupled.inner c.in-Coupled.is) f)))
    c.with_model.ensures.too_many
