use Rattle.std.proofs.Common.{rules, ◌≡◌, ◌∙◌, ◌-◌, ap, arith, map, sym, string_bytes}
use Rattle.std.specs.Prelude.{None, Some}
use Rattle.serde_json.specs.View.{view, items_view}
use Rattle.tw_machine_file.specs.Seen.{machine}
use Rattle.tw_nested.specs.Tree.{parts_of}
use Rattle.tw_file_network.specs.Draft.{couplings_view}
use Rattle.tw_file_network.specs.TreeShape.{links_named, part_read, tree_read}
use Rattle.tw_file_network.specs.declared.refused.FileRefused.TheVariants.{BadShape}
use Rattle.tw_file_network.proofs.PartsInOrder.{a_model, all_read_parts, an_atom, no_links, no_tree, part_more, passed_on, whole_tree}
use Rattle.tw_file_network.proofs.tree_shape.+trees.Goals as goal

pub parts_read-loop-value-preserved : goal.parts_read-loop-value-preserved
parts_read-loop-value-preserved t c =
    rw c.in_ok-push.ensures.items (c.loop-value.invariant
    ∙ part_more (map machine c.args.machines.now) (tree_read (map machine c.args.machines.now) c.args.room) c.args.values.now c.loop-value.parts.items c.loop-value.value-index c.value-item.result c.in_ok-part_read.field-0 c.loop-value-test.true
    (ap (λ v. part_read (map machine c.args.machines.now) (tree_read (map machine c.args.machines.now) c.args.room) (view v)) (sym c.value-item.is) ∙ c.in_ok-part_read.ensures.ok))

pub parts_read-returns-clause-ok : goal.parts_read-returns-clause-ok
parts_read-returns-clause-ok t c =
    c.loop-value.invariant ∙ all_read_parts (map machine c.args.machines.now) (tree_read (map machine c.args.machines.now) c.args.room) c.args.values.now c.loop-value.parts.items c.loop-value.value-index c.loop-value-test.false

pub tree_read-returns-in_err-parts-clause-err : goal.tree_read-returns-in_err-parts-clause-err
tree_read-returns-in_err-parts-clause-err t c =
    passed_on c.from_residual.result c.in_err-parts.field-0.0 (λ e. (e ≡ BadShape) × (tree_read (map machine c.args.machines.now) c.args.room (view c.args.value.now) ≡ None)) c.from_residual.ensures.1
    (λ other. (
      (c.in_err-parts.ensures.err other).0,
      no_tree (map machine c.args.machines.now) c.args.room (c.args.room - 1) (omega (arith, c.if-room-eq0.false)) (view c.args.value.now) (items_view c.in-Some.components.now) c.in-Some.ensures (c.in_err-parts.ensures.err other).1,
    ))

pub tree_read-returns-clause-ok : goal.tree_read-returns-clause-ok
tree_read-returns-clause-ok t c =
    whole_tree (map machine c.args.machines.now) c.args.room (c.args.room - 1) (omega (arith, c.if-room-eq0.false)) (view c.args.value.now) (items_view c.in-Some.components.now) c.in-Some.ensures
    (parts_of c.in_ok-parts.parts.items) (items_view c.in-Some-items_at.couplings.now) (couplings_view c.in_ok-drafts.drafts.items) c.in_ok-parts.ensures.ok c.in-Some-items_at.ensures c.in_ok-drafts.ensures.ok
    ∙ (λ j. Some (parts_of c.in_ok-parts.parts.items, links_named (parts_of (sym c.as_slice.ensures.value j)) (couplings_view (sym c.as_slice-2.ensures.value j))))
    ∙ ap (λ links. Some (parts_of c.in_ok-parts.parts.items, links)) (sym c.in_ok-couplings.ensures)

pub tree_read-returns-in_err-drafts-clause-err : goal.tree_read-returns-in_err-drafts-clause-err
tree_read-returns-in_err-drafts-clause-err t c =
    passed_on c.from_residual-in_err-drafts.result c.in_err-drafts.field-0.0 (λ e. (e ≡ BadShape) × (tree_read (map machine c.args.machines.now) c.args.room (view c.args.value.now) ≡ None)) c.from_residual-in_err-drafts.ensures.1
    (λ other. (
      (c.in_err-drafts.ensures.err other).0,
      no_links (map machine c.args.machines.now) c.args.room (c.args.room - 1) (omega (arith, c.if-room-eq0.false)) (view c.args.value.now) (items_view c.in-Some.components.now) c.in-Some.ensures
          (parts_of c.in_ok-parts.parts.items) (items_view c.in-Some-items_at.couplings.now) c.in_ok-parts.ensures.ok c.in-Some-items_at.ensures (c.in_err-drafts.ensures.err other).1,
    ))

pub part_read-returns-in-Ok-clause-ok : goal.part_read-returns-in-Ok-clause-ok
part_read-returns-in-Ok-clause-ok t c =
    an_atom (map machine c.args.machines.now) (tree_read (map machine c.args.machines.now) c.args.room) (view c.args.value.now) (string_bytes c.in_ok-name-in-Ok.name) c.in-Ok.component.name.now c.in_ok-name-in-Ok.ensures.ok
    c.in-Ok.component.model c.in-Ok.ensures.ok

pub part_read-returns-clause-ok : goal.part_read-returns-clause-ok
part_read-returns-clause-ok t c =
    a_model (map machine c.args.machines.now) (tree_read (map machine c.args.machines.now) c.args.room) (view c.args.value.now) (string_bytes c.in_ok-name.name) c.in-Some.name.now c.in_ok-name.ensures.ok
    c.in_ok-inner.inner (c.in-Err-BadShape.ensures.err (search rules)).1 (search rules) (sym c.in-Some.ensures) c.in_ok-inner.ensures.ok
