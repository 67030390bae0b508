use Rattle.std.proofs.Common.{◌≡◌, ◌<◌, ◌*◌, ◌/◌, ◌∙◌, sym, ap, arith, slice_index_or, true, false, true≢false}
use Rattle.tw_nested.specs.Reach.{Edge}
use Rattle.tw_nested.proofs.Collecting.{all_collected, no_row}
use Rattle.std.proofs.lemmas.List.Elements.{All-contains}
use Rattle.tw_nested.proofs.Passes.{unseen_by_read}
use Rattle.tw_nested.proofs.collect.flat_couplings.Goals as goal
use Rattle.tw_nested.proofs.collect.flat_couplings.Goals.{then-index+in_ok-seen+in_ok-collect, else-index}

pub loop-from-preserved : goal.loop-from-preserved
loop-from-preserved c = elim c.if-index.branch [
  | then-index+in_ok-seen+in_ok-collect w ↦ (rw w.flat-is w.in_ok-collect.ensures.ok)
  | else-index w ↦ (rw w.flat-is
      (no_row c.args.count c.args.edges.now c.args.atoms.now c.loop-from.flat.items c.loop-from.from
      (λ v at.
      let low : c.out_of-start.result < 32 * c.args.count = omega (arith, c.out_of-start.ensures, c.requires.atoms (c.loop-from.from / 16) 0 (omega (arith, c.loop-from-test.true))) in
      let not = unseen_by_read c.in_ok-leads.leads.items c.out_of-start.result c.index.result.now (omega (arith, low, c.in_ok-leads.ensures.long)) c.index.ensures w.if-index.false in
      let yes = All-contains (λ (e : Edge). slice_index_or c.in_ok-leads.leads.items e.0 false ≡ true) c.args.edges.now _ c.in_ok-leads.ensures.all at in
      true≢false (sym yes ∙ ap (λ x. slice_index_or c.in_ok-leads.leads.items x false) (sym c.out_of-start.ensures) ∙ not))
      c.requires.atoms c.loop-from.invariant))
]

pub collect-requires-clause-seen : goal.collect-requires-clause-seen
collect-requires-clause-seen c v below = rw (c.as_slice.ensures.value, ← c.out_of-start.ensures) (c.in_ok-seen.ensures.exact v below)

pub returns-clause-ok : goal.returns-clause-ok
returns-clause-ok c = all_collected c.args.count c.args.edges.now c.args.atoms.now c.loop-from.flat.items c.loop-from.from c.loop-from-test.false c.loop-from.invariant
